-- Which value a JSON value stands for.
-- Null, bools and strings stand for themselves, and a number for the int that `as_i64` gives. An array stands for a
-- list whose items its items stand for. An object stands for a map with its members as entries, and for each record
-- whose entries its members stand for, a missing member being null.
-- Example: `{"a":1}` stands for the map with `a` 1, and for the record with `a` 1 and `b` null.
use Rattle.std.specs.Prelude.{◌≡◌, Option, Some, option_map, option_and_then}
use Rattle.std.specs.Str.{chars}
use Rattle.serde_json.specs.Data as json
use Rattle.serde_json.specs.Data.{Data, null}
use Rattle.serde_json.specs.Find.{as_bool, as_number, as_i64, as_str, as_array, as_object}
use Rattle.soy_tree.specs.Values.{Value, Items, Entries, NullValue, BoolValue, IntValue, StringValue, ListValue}
use Rattle.soy_tree.specs.Values.{MapValue}
use Rattle.soy_tree.specs.Values.{RecordValue, no_item, item, no_entry, entry}
use Rattle.soy_types.specs.Read.{member_or_null}

abbrev mutual
  pub StandsFor : Value → Data → Type 0
  StandsFor NullValue d = d ≡ null
  StandsFor (BoolValue b) d = as_bool d ≡ Some b
  StandsFor (IntValue n) d = option_and_then as_i64 (as_number d) ≡ Some n
  StandsFor (StringValue text) d = option_map chars (as_str d) ≡ Some text
  StandsFor (ListValue vs) d = ItemsStand vs (as_array d)
  StandsFor (MapValue es) d = MembersStand es (as_object d)
  StandsFor (RecordValue es) (json.object ms) = FieldsStand es (json.object ms)
  StandsFor (RecordValue es) _ = ⊥

  pub ItemsStand : Items → Option json.Items → Type 0
  ItemsStand no_item (Some json.no_items) = Unit {0}
  ItemsStand (item v vs) (Some (json.item d ds)) = StandsFor v d × ItemsStand vs (Some ds)
  ItemsStand _ _ = ⊥

  pub MembersStand : Entries → Option json.Members → Type 0
  MembersStand no_entry (Some json.no_members) = Unit {0}
  MembersStand (entry name v es) (Some (json.member key d ms)) =
      (name ≡ chars key) × StandsFor v d × MembersStand es (Some ms)
  MembersStand _ _ = ⊥

  pub FieldsStand : Entries → Data → Type 0
  FieldsStand no_entry d = Unit {0}
  FieldsStand (entry name v es) d = StandsFor v (member_or_null name d) × FieldsStand es d
