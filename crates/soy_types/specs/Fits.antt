-- When what is answered over lent texts is what is read.
-- A value stands for what is read, and `Unfit` is answered only where nothing is. The other answers say nothing.
-- Example: 1 at `string` may be answered with `Unfit` or `Undecided`, and not with a value.
use Rattle.std.specs.Prelude.{◌≡◌, false, List, [], ◌∷◌, ◌++◌, Result, Ok, Err, is_ok}
use Rattle.soy_base.specs.Path.{Path}
use Rattle.soy_rules.specs.ShortLists.{HasShortLists}
use Rattle.soy_tree.specs.Types.{Name}
use Rattle.soy_tree.specs.Values.{Value}
use Rattle.soy_tree.specs.ViewValues.{view_entry}
use Rattle.soy_tree.specs.declared.value.Entry.{Entry}
use Rattle.soy_types.specs.declared.unread.Unread.{Unread}
use Rattle.soy_types.specs.declared.unread.Unread.TheVariants.{Unfit, Undecided, OutOfMemory}

abbrev pub Fits : {A B : Type 0} → (B → A) → Result A Path → Result B Unread → Type 0
Fits view read (Ok answer) = read ≡ Ok (view answer)
Fits view read (Err Unfit) = is_ok read ≡ false
Fits view read (Err Undecided) = Unit {0}
Fits view read (Err OutOfMemory) = Unit {0}

-- entries with one more at the end, which is what is read and has short lists; an error says what it says of `Fits`
abbrev pub Pushes : {T : Type 0} → Result (Name × Value) Path → List Entry → List Entry → Result T Unread → Type 0
Pushes read old new (Ok done) =
    (e : Entry) × (new ≡ old ++ e ∷ []) × (read ≡ Ok (view_entry e)) × HasShortLists (view_entry e).1
Pushes read old new (Err unread) = Fits view_entry read (Err unread)
