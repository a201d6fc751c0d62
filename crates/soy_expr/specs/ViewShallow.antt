-- What an operator sees of a value: a list, a map and a record are all one to it.
-- Example: of the list of 1 and 2 an operator sees what it sees of the empty list.
use Rattle.soy_tree.specs.Values.{Value, NullValue, BoolValue, IntValue, StringValue, ListValue, MapValue, RecordValue}
use Rattle.soy_tree.specs.Values.{no_item}
use Rattle.soy_expr.specs.declared.shallow.Shallow.{Shallow}
use Rattle.soy_expr.specs.declared.shallow.Shallow.TheVariants as shallow

-- what is seen of a value, as a value
abbrev pub shallow_value : Value → Value
shallow_value (ListValue vs) = ListValue no_item
shallow_value (MapValue es) = ListValue no_item
shallow_value (RecordValue es) = ListValue no_item
shallow_value NullValue = NullValue
shallow_value (BoolValue b) = BoolValue b
shallow_value (IntValue n) = IntValue n
shallow_value (StringValue text) = StringValue text

abbrev pub view_shallow : Shallow → Value
view_shallow shallow.Null = NullValue
view_shallow (shallow.Bool b) = BoolValue b
view_shallow (shallow.Int n) = IntValue n
view_shallow (shallow.Str text) = StringValue text.now
view_shallow shallow.Compound = ListValue no_item
