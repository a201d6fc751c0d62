-- The value that a `Value` of the code stands for.
use Rattle.std.specs.Prelude.{List, [], ◌∷◌, map}
use Rattle.soy_tree.specs.declared.value.Value as code
use Rattle.soy_tree.specs.declared.value.Entry as code_entry
use Rattle.soy_tree.specs.declared.value.Value.TheOpen.{Value-F, Entry-F}
use Rattle.soy_tree.specs.Types.{Name}
use Rattle.soy_tree.specs.Values.{Value, Items, Entries, NullValue, BoolValue, IntValue, StringValue, ListValue}
use Rattle.soy_tree.specs.Values.{MapValue, RecordValue, no_item, item, no_entry, entry}

abbrev pub items_of : List Value → Items
items_of [] = no_item
items_of (v ∷ vs) = item v (items_of vs)

abbrev pub entries_of : List (Name × Value) → Entries
entries_of [] = no_entry
entries_of (e ∷ es) = entry e.0 e.1 (entries_of es)

abbrev pub value_layer : Value-F Value (Name × Value) → Value
value_layer Value-F.Null = NullValue
value_layer (Value-F.Bool b) = BoolValue b
value_layer (Value-F.Int n) = IntValue n
value_layer (Value-F.Str text) = StringValue text
value_layer (Value-F.List vs) = ListValue (items_of vs)
value_layer (Value-F.Map es) = MapValue (entries_of es)
value_layer (Value-F.Fields es) = RecordValue (entries_of es)

abbrev pub entry_layer : Entry-F Value (Name × Value) → Name × Value
entry_layer e = (e.name, e.value)

abbrev pub view_value : code.Value → Value
view_value = code.fold-Value Value (Name × Value) value_layer entry_layer

abbrev pub view_entry : code_entry.Entry → Name × Value
view_entry = code_entry.fold-Entry Value (Name × Value) value_layer entry_layer

abbrev pub view_items : List code.Value → Items
view_items vs = items_of (map view_value vs)

abbrev pub view_entries : List code_entry.Entry → Entries
view_entries es = entries_of (map view_entry es)
