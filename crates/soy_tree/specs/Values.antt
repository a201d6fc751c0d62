-- Values of expressions, as plain data.
-- A value is null, a bool, an int, a string, a list of values, or a map or record with entries by name, of which the
-- first of a name counts.
-- Example: the record with `a` 1 and `b` null is `RecordValue (entry a (IntValue 1) (entry b NullValue no_entry))`.
use Rattle.std.specs.Prelude.{ℕ, ℤ, Bool, List}
use Rattle.soy_tree.specs.Types.{Name}

mutual
  pub data Value : Type 0 where
    NullValue : Value
    BoolValue : Bool → Value
    IntValue : ℤ → Value
    StringValue : List ℕ → Value
    ListValue : Items → Value
    MapValue : Entries → Value
    RecordValue : Entries → Value

  pub data Items : Type 0 where
    no_item : Items
    item : Value → Items → Items

  pub data Entries : Type 0 where
    no_entry : Entries
    entry : Name → Value → Entries → Entries
