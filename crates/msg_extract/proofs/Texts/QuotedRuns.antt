-- Text of a canonical text, character by character.
use Rattle.std.proofs.Common.{◌≡◌, ℕ, ◌==◌, not, Bool, true, false, List, [], ◌∷◌, ◌++◌, refl}
use Rattle.std.specs.Prelude.{if◌then◌else◌}
use Rattle.soy_base.specs.Characters.{single_quote}
use Rattle.soy_tree.specs.MessageText.{MessageItem, Character, Printed}
use Rattle.msg_extract.specs.Canonical.CanonicalText.{is_special, text_of_items, written_run, written_text}
use Rattle.msg_extract.specs.Canonical.QuotedRuns.{behind_apostrophe, is_run_after, item_written, run_after_item}
use Rattle.msg_extract.specs.Canonical.QuotedRuns.{run_end}
use Rattle.msg_extract.specs.Canonical.QuotedRuns.{written_from, written_step}

-- the first character, and what follows it
pub character_step : (flag in_run : Bool) (c : ℕ) (cs : List ℕ)
    → written_from flag in_run (c ∷ cs) ≡ written_step flag in_run c
    ++ written_from flag (is_run_after flag in_run c) cs
character_step flag true c cs = in_a_run (is_special flag c) (c == single_quote)
  where
    in_a_run : (special quote : Bool)
        → (if special then c ∷ written_run flag cs
        else (if quote then single_quote ∷ (single_quote ∷ written_run flag cs)
        else single_quote ∷ (c ∷ written_text flag cs)))
        ≡ (if special then behind_apostrophe false c
        else (if quote then behind_apostrophe true single_quote else behind_apostrophe true c)) ++
        written_from flag (if special then true else (if quote then true else false)) cs
    in_a_run true quote = refl
    in_a_run false true = refl
    in_a_run false false = refl
character_step flag false c cs = outside (is_special flag c) (c == single_quote)
  where
    outside : (special quote : Bool)
        → (if special then single_quote ∷ (c ∷ written_run flag cs)
        else (if quote then single_quote ∷ (single_quote ∷ written_text flag cs) else c ∷ written_text flag cs))
        ≡ (if special then behind_apostrophe true c
        else (if quote then behind_apostrophe true single_quote else behind_apostrophe false c)) ++
        written_from flag (if special then true else (if quote then false else false)) cs
    outside true quote = refl
    outside false true = refl
    outside false false = refl

pub item_step : (flag in_run : Bool) (item : MessageItem) (items : List MessageItem)
    → written_from flag in_run (text_of_items (item ∷ items))
    ≡ item_written flag in_run item ++ written_from flag (run_after_item flag in_run item) (text_of_items items)
item_step flag in_run (Character c span) items = character_step flag in_run c (text_of_items items)
item_step flag in_run (Printed e phname span) items = refl

-- at the end of a text
pub run_ends : (flag in_run : Bool) → written_from flag in_run [] ≡ run_end in_run
run_ends flag true = refl
run_ends flag false = refl
