-- What the code finds: variables, parts of data, and the values of expressions.
use Rattle.std.specs.Prelude.{◌≡◌, ℕ, ◌+◌, ◌≤◌, List, Option, Some, None, Result, Ok, Err, slice_get, take}
use Rattle.std.specs.Prelude.{Bool, true, false, if◌then◌else◌, nat_lt, unwrap_or}
use Rattle.std.specs.Borrow.{Bor}
use Rattle.soy_base.specs.declared.fault.Span.{Span}
use Rattle.soy_base.specs.declared.memory.OutOfMemory.{OutOfMemory}
use Rattle.soy_tree.specs.Expressions.{Expr, Coalesce, Conditional, Variable}
use Rattle.soy_tree.specs.Types.{Name}
use Rattle.soy_rules.specs.Has.{entry_value}
use Rattle.soy_rules.specs.Val.{Binding, BlockOf, Known, member_value}
use Rattle.soy_tree.specs.Values.{Entries, Items, Value, NullValue, item, no_item}
use Rattle.soy_tree.specs.ViewValues.{view_value}
use Rattle.soy_tree.specs.declared.value.Value as code
use Rattle.soy_expr.specs.Evaluates.{IsWithin}
use Rattle.soy_expr.specs.Parts.{child, nth_entry_value}
use Rattle.soy_expr.specs.ViewEvaluated.{view_made}
use Rattle.soy_pieces.specs.Giving.{BoundBlock}
use Rattle.soy_pieces.specs.Pieces.{listed_items}
use Rattle.template_ir.specs.declared.program.ProgramParts.{ProgramParts}
use Rattle.render_core.specs.Frames.{items_after}
use Rattle.render_core.specs.Variables.{Cell, cells_of, held_means, kept_means, path_value}
use Rattle.render_core.specs.declared.fields.FieldPart.{FieldPart}
use Rattle.render_core.specs.declared.held.Bound.{Bound}
use Rattle.render_core.specs.declared.held.Held.{Held}
use Rattle.render_core.specs.declared.held.Held.TheVariants as held
use Rattle.render_core.specs.declared.held.Kept.{Kept}
use Rattle.render_core.specs.declared.held.Path.{Path}
use Rattle.render_core.specs.declared.held.Path.TheVariants as path
use Rattle.render_core.specs.declared.valuing.Found.{Found}
use Rattle.render_core.specs.declared.valuing.Found.TheVariants as found

-- a part of the data, or null
abbrev pub part_value : Option (Bor code.Value) → Value
part_value None = NullValue
part_value (Some v) = view_value v.now

-- what the variable at a place is bound to
abbrev pub bound_binding : ProgramParts → Value → List Cell → Option Bound → Binding BoundBlock
bound_binding p input cells None = Known NullValue
bound_binding p input cells (Some b) = held_means p input cells b.to

abbrev pub binding_at : ProgramParts → Value → List Bound → ℕ → Binding BoundBlock
binding_at p input bound at = bound_binding p input (take at (cells_of p input bound)) (slice_get bound at)

abbrev pub place_binding : ProgramParts → Value → List Bound → Option ℕ → Binding BoundBlock
place_binding p input bound None = Known NullValue
place_binding p input bound (Some at) = binding_at p input bound at

-- what something that was found stands for
abbrev pub found_means : ProgramParts → List Cell → Found → Binding BoundBlock
found_means p cells (found.Made made) = Known (view_made made)
found_means p cells (found.Part path) = Known (path_value cells path)
found_means p cells (found.Block kept) = BlockOf (kept_means p cells kept)

-- what a variable is bound to that is the part that a path names
abbrev pub held_part : Path → Held
held_part (path.Whole of) = held.Part (path.Whole of)
held_part (path.Child of number) = held.Item of number
held_part (path.Deep of steps) = held.Part (path.Deep of steps)

-- what a variable is bound to that has this value
abbrev pub held_of : Found → Held
held_of (found.Made made) = held.Made made
held_of (found.Part way) = held_part way
held_of (found.Block kept) = held.Block kept

-- a block names variables of which there are so many
abbrev pub FoundWithin : ℕ → Found → Type 0
FoundWithin n (found.Block kept) = kept.env ≤ n
FoundWithin n _ = Unit {0}

-- a block of the variable at a place, which sees the variables below it alone
abbrev pub lowered_to : ℕ → Kept → Kept
lowered_to at kept = if nat_lt at kept.env then record kept { env = 0 } else kept

-- whether a list has an item of a number
abbrev pub HasItem : ℕ → Value → Bool → Type 0
HasItem n v true = (w : Value) × (vs : Items) × (items_after n (listed_items v) ≡ item w vs) × (w ≡ child n v)
HasItem n v false = items_after n (listed_items v) ≡ no_item

-- a field of a variable that has this value
abbrev pub IsFieldValue : List Cell → Value → FieldPart → Type 0
IsFieldValue cells v f =
    (v ≡ path_value cells (path.Child f.at f.number)) × (view_value f.value.now ≡ v)

-- the value of the first entry of a name, by its number
abbrev pub IsFirstEntry : Name → Entries → ℕ → Value → Type 0
IsFirstEntry name es n v =
    (nth_entry_value es n ≡ unwrap_or (entry_value name es) NullValue) × (v ≡ nth_entry_value es n)

abbrev pub IsFirstField : Name → Value → ℕ → Value → Type 0
IsFirstField name whole n v = (child n whole ≡ member_value name whole) × (v ≡ child n whole)

-- the field of a variable that an expression of this value and this cost is
abbrev pub IsField : List Cell → Binding BoundBlock → ℕ → FieldPart → Type 0
IsField cells b spent f =
    (b ≡ Known (view_value f.value.now)) × (spent ≡ 2) × IsFieldValue cells (view_value f.value.now) f

-- a value of this cost
abbrev pub Finds : ProgramParts → List Cell → ℕ → Binding BoundBlock → ℕ → ℕ → ℕ → Result Found OutOfMemory → Type 0
Finds p cells n b spent before after (Ok f) =
    (found_means p cells f ≡ b) × FoundWithin n f × (after ≡ before + spent)
Finds p cells n b spent before after (Err e) = IsWithin spent before after

-- an expression that is no variable, and doesn't choose one
abbrev pub IsPlain : Expr → Type 0
IsPlain (Variable name span) = ⊥
IsPlain (Coalesce a b span) = ⊥
IsPlain (Conditional c a b span) = ⊥
IsPlain _ = Unit {0}

-- whether an expression is the variable of this name
abbrev pub IsVariable : Expr → Option Name → Type 0
IsVariable e (Some name) = (span : Span) × (e ≡ Variable name span)
IsVariable e None = Unit {0}

-- which block is taken, and what was valued to know it
abbrev pub Takes : {A : Type 0} → A × ℕ → ℕ → ℕ → Result A OutOfMemory → Type 0
Takes taken before after (Ok a) = (a ≡ taken.0) × (after ≡ before + taken.1)
Takes taken before after (Err e) = IsWithin taken.1 before after
