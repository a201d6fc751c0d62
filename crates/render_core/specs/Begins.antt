-- How a rendering begins: its parameters are bound to fields of the data, or to null.
use Rattle.std.specs.Prelude.{◌≡◌, ℕ, List, Option, Some, None, map, pos, slice_get, unwrap_or}
use Rattle.soy_rules.specs.FirstNames.{first_number}
use Rattle.soy_rules.specs.Has.{entry_value}
use Rattle.soy_tree.specs.Types.{Name}
use Rattle.soy_rules.specs.Val.{member_value}
use Rattle.soy_tree.specs.Values.{Entries, Value, NullValue}
use Rattle.soy_tree.specs.ViewValues.{view_value}
use Rattle.soy_tree.specs.declared.value.Entry.{Entry}
use Rattle.soy_expr.specs.Parts.{child, nth_entry_value}
use Rattle.template_ir.specs.declared.op.Block.{Block}
use Rattle.render_core.specs.declared.field_names.FieldNames.{FieldNames}
use Rattle.render_core.specs.declared.field_names.FieldNames.TheVariants as field_names
use Rattle.render_core.specs.declared.frame.Ahead.{Ahead}
use Rattle.render_core.specs.declared.held.Bound.{Bound}
use Rattle.render_core.specs.declared.held.Held.{Held}
use Rattle.render_core.specs.declared.held.Held.TheVariants as held
use Rattle.soy_expr.specs.declared.evaluated.Made.TheVariants as made
use Rattle.soy_pieces.specs.Pieces.{call_limit}

-- the number of the first entry of a name
abbrev pub EntryFound : Name → Entries → Option ℕ → Type 0
EntryFound name es None = NullValue ≡ unwrap_or (entry_value name es) NullValue
EntryFound name es (Some n) = nth_entry_value es n ≡ unwrap_or (entry_value name es) NullValue

abbrev pub FieldFound : Name → Value → Option ℕ → Type 0
FieldFound name v None = NullValue ≡ member_value name v
FieldFound name v (Some n) = child n v ≡ member_value name v

abbrev pub entry_names : List Entry → List Name
entry_names = map (λ e. e.name)

-- how the fields of these data are found
abbrev pub FindsFields : FieldNames → Value → Type 0
FindsFields (field_names.Walked v) input = view_value v.now ≡ input
FindsFields (field_names.Indexed names) input = (name : Name) → FieldFound name input (first_number name names)

-- what a parameter is bound to
abbrev pub held_field : Option ℕ → Held
held_field None = held.Made made.Null
held_field (Some n) = held.Item 0 n

-- the variable at a place is bound to all data
abbrev pub IsRoot : List Bound → ℕ → Type 0
IsRoot bound at = (b : Bound) × (slice_get bound at ≡ Some b) × (b.to ≡ held.Root)

-- the first variable is
abbrev pub HasRoot : List Bound → Type 0
HasRoot bound = IsRoot bound 0

-- the frame of an entry
abbrev pub entry_frame : Block → ℕ → Ahead
entry_frame body env = record {
  at = body.first;
  end = body.end;
  env = env;
  left = call_limit;
  number = pos 0;
  mark = 0;
}
