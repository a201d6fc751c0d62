-- The parts of a value by their numbers.
-- The items of a list, and the entries of a map or record, are counted from 0; where there is none it is null.
-- Example: the part 1 of the record with `a` 1 and `b` 2 is 2.
use Rattle.std.specs.Prelude.{◌≡◌, ℕ, zero, suc, Option, Some, None}
use Rattle.std.specs.Borrow.{Bor}
use Rattle.soy_tree.specs.Values.{Value, Entries, NullValue, ListValue, MapValue, RecordValue, no_entry, entry}
use Rattle.soy_rules.specs.Val.{item_value}
use Rattle.soy_tree.specs.ViewValues.{view_value}
use Rattle.soy_tree.specs.declared.value.Value as code

abbrev pub nth_entry_value : Entries → ℕ → Value
nth_entry_value no_entry n = NullValue
nth_entry_value (entry name v es) zero = v
nth_entry_value (entry name v es) (suc n) = nth_entry_value es n

abbrev pub child : ℕ → Value → Value
child n (ListValue vs) = item_value vs n
child n (MapValue es) = nth_entry_value es n
child n (RecordValue es) = nth_entry_value es n
child n _ = NullValue

-- the part that was found, or null
abbrev pub found_value : Option (ℕ × Bor code.Value) → Value
found_value None = NullValue
found_value (Some found) = view_value found.1.now

-- whether what was found is the part of its number
abbrev pub IsChild : Value → Option (ℕ × Bor code.Value) → Type 0
IsChild whole None = Unit {0}
IsChild whole (Some found) = child found.0 whole ≡ view_value found.1.now
