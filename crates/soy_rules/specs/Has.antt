-- Which value is of which type.
-- Null has the type null, and true and false have bool; no value has html or attributes. An int is within the range of
-- ints. Every string has the type string: its characters are numbers here, and Unicode scalar values wherever a text of
-- the code stands for it. A list has items of its type, a map entries of its type. A record has for each field an entry
-- of its name, the first of them of the field's type, and perhaps more entries. A union holds where one member does.
-- Example: the record with `a` 1 and `b` null has the type `[b: int|null]`.
use Rattle.std.specs.Prelude.{ℤ, pos, negsuc, ◌≤◌, ◌<◌, ◌⊎◌, Option, Some, None, if◌then◌else◌, bytes_eq}
use Rattle.soy_tree.specs.Types.{Name, SoyType, Members, FieldTypes, NullType, BoolType, IntType, StringType, HtmlType}
use Rattle.soy_tree.specs.Types.{AttributesType, ListType, MapType, RecordType, UnionType, no_member, member, no_field}
use Rattle.soy_tree.specs.Types.{field}
use Rattle.soy_tree.specs.Values.{Value, Items, Entries, NullValue, BoolValue, IntValue, StringValue, ListValue}
use Rattle.soy_tree.specs.Values.{MapValue, RecordValue, no_item, item, no_entry, entry}
use Rattle.soy_base.specs.Limits.{largest}

abbrev pub IsWithinRange : ℤ → Type 0
IsWithinRange (pos n) = n ≤ largest
IsWithinRange (negsuc n) = n < largest

abbrev pub IsNull : Value → Type 0
IsNull NullValue = Unit {0}
IsNull _ = ⊥

abbrev pub IsBool : Value → Type 0
IsBool (BoolValue b) = Unit {0}
IsBool _ = ⊥

abbrev pub IsInt : Value → Type 0
IsInt (IntValue n) = IsWithinRange n
IsInt _ = ⊥

abbrev pub IsString : Value → Type 0
IsString (StringValue text) = Unit {0}
IsString _ = ⊥

abbrev pub EachItem : (Value → Type 0) → Items → Type 0
EachItem P no_item = Unit {0}
EachItem P (item v vs) = P v × EachItem P vs

abbrev pub IsListOf : (Value → Type 0) → Value → Type 0
IsListOf P (ListValue vs) = EachItem P vs
IsListOf P _ = ⊥

abbrev pub EachEntry : (Value → Type 0) → Entries → Type 0
EachEntry P no_entry = Unit {0}
EachEntry P (entry name v es) = P v × EachEntry P es

abbrev pub IsMapOf : (Value → Type 0) → Value → Type 0
IsMapOf P (MapValue es) = EachEntry P es
IsMapOf P _ = ⊥

abbrev pub IsRecord : Value → Type 0
IsRecord (RecordValue es) = Unit {0}
IsRecord _ = ⊥

-- the value of the first entry of this name
abbrev pub entry_value : Name → Entries → Option Value
entry_value name no_entry = None
entry_value name (entry other v es) = if bytes_eq other name then Some v else entry_value name es

-- the value of a record's field
abbrev pub field_value : Name → Value → Option Value
field_value name (RecordValue es) = entry_value name es
field_value name _ = None

abbrev pub IsThere : (Value → Type 0) → Option Value → Type 0
IsThere P None = ⊥
IsThere P (Some v) = P v

abbrev mutual
  pub Has : Value → SoyType → Type 0
  Has v NullType = IsNull v
  Has v BoolType = IsBool v
  Has v IntType = IsInt v
  Has v StringType = IsString v
  Has v HtmlType = ⊥
  Has v AttributesType = ⊥
  Has v (ListType t) = IsListOf (λ w. Has w t) v
  Has v (MapType t) = IsMapOf (λ w. Has w t) v
  Has v (RecordType fields) = HasFields v fields
  Has v (UnionType ts) = HasSome v ts

  pub HasSome : Value → Members → Type 0
  HasSome v no_member = ⊥
  HasSome v (member t ts) = Has v t ⊎ HasSome v ts

  pub HasFields : Value → FieldTypes → Type 0
  HasFields v no_field = IsRecord v
  HasFields v (field name t fields) = IsThere (λ w. Has w t) (field_value name v) × HasFields v fields
