-- The value of a JSON value at a type, or the path to the first part that doesn't fit.
-- Null, bools and strings are read at their types, and a number at int exactly where `as_i64` gives one from
-- -9007199254740991 to 9007199254740991. A list is read item by item, a map entry by entry in the order of the bytes of
-- the keys, and a record field by field in the order of its type, a missing member being null; other members are passed
-- over. A union is read at the first of its members that fits, and else the path ends at it. Nothing is html or
-- attributes.
-- Example: `{"b":[1],"c":2}` at `[a: int|null, b: list<int>]` is the record with `a` null and `b` the list of 1.
use Rattle.std.specs.Prelude.{ℕ, ◌+◌, ℤ, pos, negsuc, Bool, nat_le, nat_lt, List, [], ◌∷◌, Option, Some, None}
use Rattle.std.specs.Prelude.{Result, Ok, Err, if◌then◌else◌, unwrap_or, encode_utf8_all}
use Rattle.std.specs.Str.{chars}
use Rattle.serde_json.specs.Data.{Data, null, boolean, number, string, array, object}
use Rattle.serde_json.specs.Data.{Items, no_items, item, Members, no_members, member}
use Rattle.serde_json.specs.Find.{get, as_i64}
use Rattle.soy_base.specs.declared.path.PathStep.TheVariants as path_step
use Rattle.soy_tree.specs.Types as types
use Rattle.soy_tree.specs.Types.{Name, SoyType, FieldTypes, NullType, BoolType, IntType, StringType, HtmlType}
use Rattle.soy_tree.specs.Types.{AttributesType, ListType, MapType, RecordType, UnionType, no_field, field}
use Rattle.soy_base.specs.Limits.{largest}
use Rattle.soy_tree.specs.Values.{Value, NullValue, BoolValue, IntValue, StringValue, ListValue, MapValue, RecordValue}
use Rattle.soy_tree.specs.ViewValues.{items_of, entries_of}
use Rattle.soy_types.specs.Paths.{onward, below, all_read, either_read}
use Rattle.soy_base.specs.Path.{Path}

abbrev pub is_within_range : ℤ → Bool
is_within_range (pos n) = nat_le n largest
is_within_range (negsuc n) = nat_lt n largest

abbrev pub int_read : Option ℤ → Result Value Path
int_read None = Err []
int_read (Some n) = if is_within_range n then Ok (IntValue n) else Err []

-- a member, which is null where it is missing
abbrev pub member_or_null : Name → Data → Data
member_or_null name json = unwrap_or (get (encode_utf8_all name) json) null

-- the items from an index on
abbrev pub item_results : (Data → Result Value Path) → ℕ → Items → List (Result Value Path)
item_results read n no_items = []
item_results read n (item d ds) = below (path_step.Index n) (read d) ∷ item_results read (n + 1) ds

-- what is read under a key
abbrev pub under_key : Name → Result Value Path → Result (Name × Value) Path
under_key name read = below (path_step.Key name) (onward (λ v. (name, v)) read)

abbrev pub entry_results : (Data → Result Value Path) → Members → List (Result (Name × Value) Path)
entry_results read no_members = []
entry_results read (member key d ms) = under_key (chars key) (read d) ∷ entry_results read ms

abbrev mutual
  pub value_at : SoyType → Data → Result Value Path
  value_at NullType null = Ok NullValue
  value_at BoolType (boolean b) = Ok (BoolValue b)
  value_at IntType (number n) = int_read (as_i64 n)
  value_at StringType (string bytes) = Ok (StringValue (chars bytes))
  value_at (ListType t) (array ds) = onward (λ vs. ListValue (items_of vs)) (all_read (item_results (value_at t) 0 ds))
  value_at (MapType t) (object ms) = onward (λ es. MapValue (entries_of es)) (all_read (entry_results (value_at t) ms))
  value_at (RecordType fields) (object ms) =
      onward (λ es. RecordValue (entries_of es)) (all_read (field_results fields (object ms)))
  value_at (UnionType ts) json = first_read ts json
  value_at _ _ = Err []

  pub first_read : types.Members → Data → Result Value Path
  first_read types.no_member json = Err []
  first_read (types.member t ts) json = either_read (value_at t json) (first_read ts json)

  pub field_results : FieldTypes → Data → List (Result (Name × Value) Path)
  field_results no_field json = []
  field_results (field name t fields) json =
      under_key name (value_at t (member_or_null name json)) ∷ field_results fields json
