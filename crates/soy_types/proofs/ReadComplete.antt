-- Nothing is read only where a JSON value stands for no value of the type.
use Rattle.std.proofs.Common.{◌≡◌, ℕ, ◌+◌, ℤ, Bool, true, false, refl, subst}
use Rattle.std.specs.Prelude.{Option, Some, None, Result, Err, if◌then◌else◌, bytes_eq, pos, negsuc}
use Rattle.std.specs.Str.{chars}
use Rattle.std.proofs.lemmas.Bool.{le-leb, lt-ltb}
use mathlib.Core.Logic.{inl, inr}
use Rattle.serde_json.specs.Data as json
use Rattle.serde_json.specs.Data.{Data, null, boolean, number, string, array, object}
use Rattle.serde_json.specs.Find.{as_i64}
use Rattle.soy_base.specs.declared.path.PathStep.TheVariants as path_step
use Rattle.soy_tree.specs.Types as types
use Rattle.soy_tree.specs.Types.{Name, SoyType, FieldTypes, NullType, BoolType, IntType, StringType, HtmlType}
use Rattle.soy_tree.specs.Types.{AttributesType, ListType, MapType, RecordType, UnionType, no_field, field}
use Rattle.soy_tree.specs.Values.{Value, Items, Entries, NullValue, BoolValue, IntValue, StringValue, ListValue}
use Rattle.soy_tree.specs.Values.{MapValue}
use Rattle.soy_tree.specs.Values.{RecordValue, no_item, item, no_entry, entry}
use Rattle.soy_tree.specs.ViewValues.{items_of, entries_of}
use Rattle.soy_base.specs.Limits.{largest}
use Rattle.soy_rules.specs.Has.{Has, HasSome, HasFields, IsNull, IsBool, IsInt, IsString, IsListOf, IsMapOf}
use Rattle.soy_rules.specs.Has.{IsWithinRange, EachItem, EachEntry, IsThere, entry_value}
use Rattle.soy_tree.proofs.SameNames.{same_name}
use Rattle.soy_rules.proofs.AcceptsHas.{fields_record}
use Rattle.soy_types.specs.Paths.{below, all_read}
use Rattle.soy_base.specs.Path.{Path}
use Rattle.soy_types.specs.Read.{value_at, first_read, field_results, item_results, entry_results, under_key}
use Rattle.soy_types.specs.Read.{member_or_null, is_within_range, int_read}
use Rattle.soy_types.specs.Stands.{StandsFor, ItemsStand, MembersStand, FieldsStand}
use Rattle.soy_types.proofs.ReadFacts.{IsRead, onward_read, below_read, headed_read, under_key_read, either_left}
use Rattle.soy_types.proofs.ReadFacts.{either_right, not_refused}

-- a reading that reads what stands for a value with a property
abbrev pub Takes : (Data → Result Value Path) → (Value → Type 0) → Type 0
Takes read P = (d : Data) (v : Value) → StandsFor v d → P v → IsRead (read d)

pub items_read : (read : Data → Result Value Path) (P : Value → Type 0) (ds : json.Items) (n : ℕ) (vs : Items)
    → Takes read P → ItemsStand vs (Some ds) → EachItem P vs → IsRead (all_read (item_results read n ds))
items_read read P json.no_items n vs takes s h = tt
items_read read P (json.item d ds) n no_item takes s h = absurd s
items_read read P (json.item d ds) n (item v vs) takes s h =
    headed_read (below (path_step.Index n) (read d)) (all_read (item_results read (n + 1) ds))
    (below_read (path_step.Index n) (read d) (takes d v s.0 h.0)) (items_read read P ds (n + 1) vs takes s.1 h.1)

pub members_read : (read : Data → Result Value Path) (P : Value → Type 0) (ms : json.Members) (es : Entries)
    → Takes read P → MembersStand es (Some ms) → EachEntry P es → IsRead (all_read (entry_results read ms))
members_read read P json.no_members es takes s h = tt
members_read read P (json.member key d ms) no_entry takes s h = absurd s
members_read read P (json.member key d ms) (entry name v es) takes s h =
    headed_read (under_key (chars key) (read d)) (all_read (entry_results read ms))
    (under_key_read (chars key) (read d) (takes d v s.1 h.0)) (members_read read P ms es takes s.2 h.1)

-- what isn't there stands for nothing
pub no_items : (vs : Items) → ItemsStand vs None → ⊥
no_items no_item s = s
no_items (item v vs) s = s

pub no_members : (es : Entries) → MembersStand es None → ⊥
no_members no_entry s = s
no_members (entry name v es) s = s

pub range_within : (n : ℤ) → IsWithinRange n → is_within_range n ≡ true
range_within (pos n) h = le-leb n largest h
range_within (negsuc n) h = lt-ltb n largest h

pub int_within : (n : ℤ) (o : Option ℤ) → o ≡ Some n → IsWithinRange n → IsRead (int_read o)
int_within n o e h = rw e (rw (range_within n h) tt)

-- the value of a field stands where the member of its name does
pub stood_if : (c : Bool) (name other : Name) (P : Value → Type 0) (v : Value) (o : Option Value) (d : Data)
    → bytes_eq other name ≡ c → StandsFor v (member_or_null other d)
    → (IsThere P o → (w : Value) × P w × StandsFor w (member_or_null name d))
    → IsThere P (if c then Some v else o) → (w : Value) × P w × StandsFor w (member_or_null name d)
stood_if true name other P v o d is s more h =
    let q : other ≡ name = same_name other name is in (v, h, subst (λ x. StandsFor v (member_or_null x d)) q s)
stood_if false name other P v o d is s more h = more h

pub field_stood : (es : Entries) (name : Name) (P : Value → Type 0) (d : Data) → FieldsStand es d
    → IsThere P (entry_value name es) → (w : Value) × P w × StandsFor w (member_or_null name d)
field_stood no_entry name P d s h = absurd h
field_stood (entry other v es) name P d s h =
    stood_if (bytes_eq other name) name other P v (entry_value name es) d refl s.0
    (λ k. field_stood es name P d s.1 k) h

pub null_read : (d : Data) (v : Value) → StandsFor v d → IsNull v → IsRead (value_at NullType d)
null_read d NullValue s h = rw s tt
null_read d (BoolValue b) s h = absurd h
null_read d (IntValue n) s h = absurd h
null_read d (StringValue text) s h = absurd h
null_read d (ListValue vs) s h = absurd h
null_read d (MapValue es) s h = absurd h
null_read d (RecordValue es) s h = absurd h

pub bool_read : (d : Data) (v : Value) → StandsFor v d → IsBool v → IsRead (value_at BoolType d)
bool_read (boolean c) v s h = tt
bool_read null (BoolValue b) s h = let no : ⊥ = cc in absurd no
bool_read (number n) (BoolValue b) s h = let no : ⊥ = cc in absurd no
bool_read (string t) (BoolValue b) s h = let no : ⊥ = cc in absurd no
bool_read (array ds) (BoolValue b) s h = let no : ⊥ = cc in absurd no
bool_read (object ms) (BoolValue b) s h = let no : ⊥ = cc in absurd no
bool_read d NullValue s h = absurd h
bool_read d (IntValue n) s h = absurd h
bool_read d (StringValue text) s h = absurd h
bool_read d (ListValue vs) s h = absurd h
bool_read d (MapValue es) s h = absurd h
bool_read d (RecordValue es) s h = absurd h

pub int_stood : (d : Data) (v : Value) → StandsFor v d → IsInt v → IsRead (value_at IntType d)
int_stood (number m) (IntValue n) s h = int_within n (as_i64 m) s h
int_stood null (IntValue n) s h = let no : ⊥ = cc in absurd no
int_stood (boolean b) (IntValue n) s h = let no : ⊥ = cc in absurd no
int_stood (string t) (IntValue n) s h = let no : ⊥ = cc in absurd no
int_stood (array ds) (IntValue n) s h = let no : ⊥ = cc in absurd no
int_stood (object ms) (IntValue n) s h = let no : ⊥ = cc in absurd no
int_stood d NullValue s h = absurd h
int_stood d (BoolValue b) s h = absurd h
int_stood d (StringValue text) s h = absurd h
int_stood d (ListValue vs) s h = absurd h
int_stood d (MapValue es) s h = absurd h
int_stood d (RecordValue es) s h = absurd h

pub string_read : (d : Data) (v : Value) → StandsFor v d → IsString v → IsRead (value_at StringType d)
string_read (string t) v s h = tt
string_read null (StringValue text) s h = let no : ⊥ = cc in absurd no
string_read (boolean b) (StringValue text) s h = let no : ⊥ = cc in absurd no
string_read (number n) (StringValue text) s h = let no : ⊥ = cc in absurd no
string_read (array ds) (StringValue text) s h = let no : ⊥ = cc in absurd no
string_read (object ms) (StringValue text) s h = let no : ⊥ = cc in absurd no
string_read d NullValue s h = absurd h
string_read d (BoolValue b) s h = absurd h
string_read d (IntValue n) s h = absurd h
string_read d (ListValue vs) s h = absurd h
string_read d (MapValue es) s h = absurd h
string_read d (RecordValue es) s h = absurd h

pub list_stood : (t : SoyType) (d : Data) (v : Value) → Takes (value_at t) (λ w. Has w t) → StandsFor v d
    → IsListOf (λ w. Has w t) v → IsRead (value_at (ListType t) d)
list_stood t (array ds) (ListValue vs) takes s h =
    onward_read (λ ws. ListValue (items_of ws)) (all_read (item_results (value_at t) 0 ds))
    (items_read (value_at t) (λ w. Has w t) ds 0 vs takes s h)
list_stood t null (ListValue vs) takes s h = absurd (no_items vs s)
list_stood t (boolean b) (ListValue vs) takes s h = absurd (no_items vs s)
list_stood t (number n) (ListValue vs) takes s h = absurd (no_items vs s)
list_stood t (string x) (ListValue vs) takes s h = absurd (no_items vs s)
list_stood t (object ms) (ListValue vs) takes s h = absurd (no_items vs s)
list_stood t d NullValue takes s h = absurd h
list_stood t d (BoolValue b) takes s h = absurd h
list_stood t d (IntValue n) takes s h = absurd h
list_stood t d (StringValue text) takes s h = absurd h
list_stood t d (MapValue es) takes s h = absurd h
list_stood t d (RecordValue es) takes s h = absurd h

pub map_stood : (t : SoyType) (d : Data) (v : Value) → Takes (value_at t) (λ w. Has w t) → StandsFor v d
    → IsMapOf (λ w. Has w t) v → IsRead (value_at (MapType t) d)
map_stood t (object ms) (MapValue es) takes s h =
    onward_read (λ ws. MapValue (entries_of ws)) (all_read (entry_results (value_at t) ms))
    (members_read (value_at t) (λ w. Has w t) ms es takes s h)
map_stood t null (MapValue es) takes s h = absurd (no_members es s)
map_stood t (boolean b) (MapValue es) takes s h = absurd (no_members es s)
map_stood t (number n) (MapValue es) takes s h = absurd (no_members es s)
map_stood t (string x) (MapValue es) takes s h = absurd (no_members es s)
map_stood t (array ds) (MapValue es) takes s h = absurd (no_members es s)
map_stood t d NullValue takes s h = absurd h
map_stood t d (BoolValue b) takes s h = absurd h
map_stood t d (IntValue n) takes s h = absurd h
map_stood t d (StringValue text) takes s h = absurd h
map_stood t d (ListValue vs) takes s h = absurd h
map_stood t d (RecordValue es) takes s h = absurd h

pub record_stood : (fields : FieldTypes) (d : Data) (v : Value)
    → ((es : Entries) → FieldsStand es d → HasFields (RecordValue es) fields
    → IsRead (all_read (field_results fields d)))
    → StandsFor v d → HasFields v fields → IsRead (value_at (RecordType fields) d)
record_stood fields (object ms) (RecordValue es) takes s h =
    onward_read (λ ws. RecordValue (entries_of ws)) (all_read (field_results fields (object ms))) (takes es s h)
record_stood fields null (RecordValue es) takes s h = absurd s
record_stood fields (boolean b) (RecordValue es) takes s h = absurd s
record_stood fields (number n) (RecordValue es) takes s h = absurd s
record_stood fields (string x) (RecordValue es) takes s h = absurd s
record_stood fields (array ds) (RecordValue es) takes s h = absurd s
record_stood fields d NullValue takes s h = absurd (fields_record NullValue fields h)
record_stood fields d (BoolValue b) takes s h = absurd (fields_record (BoolValue b) fields h)
record_stood fields d (IntValue n) takes s h = absurd (fields_record (IntValue n) fields h)
record_stood fields d (StringValue text) takes s h = absurd (fields_record (StringValue text) fields h)
record_stood fields d (ListValue vs) takes s h = absurd (fields_record (ListValue vs) fields h)
record_stood fields d (MapValue es) takes s h = absurd (fields_record (MapValue es) fields h)

mutual
  pub value_read : (t : SoyType) (d : Data) (v : Value) → StandsFor v d → Has v t → IsRead (value_at t d)
  value_read NullType d v s h = null_read d v s h
  value_read BoolType d v s h = bool_read d v s h
  value_read IntType d v s h = int_stood d v s h
  value_read StringType d v s h = string_read d v s h
  value_read HtmlType d v s h = absurd h
  value_read AttributesType d v s h = absurd h
  value_read (ListType t) d v s h = list_stood t d v (λ e w r k. value_read t e w r k) s h
  value_read (MapType t) d v s h = map_stood t d v (λ e w r k. value_read t e w r k) s h
  value_read (RecordType fields) d v s h = record_stood fields d v (λ es r k. fields_read fields d es r k) s h
  value_read (UnionType ts) d v s h = first_taken ts d v s h

  pub first_taken : (ts : types.Members) (d : Data) (v : Value) → StandsFor v d → HasSome v ts
      → IsRead (first_read ts d)
  first_taken types.no_member d v s h = h
  first_taken (types.member t ts) d v s (inl h) = either_left (value_at t d) (first_read ts d) (value_read t d v s h)
  first_taken (types.member t ts) d v s (inr h) = either_right (value_at t d) (first_read ts d) (first_taken ts d v s h)

  pub fields_read : (fields : FieldTypes) (d : Data) (es : Entries) → FieldsStand es d
      → HasFields (RecordValue es) fields → IsRead (all_read (field_results fields d))
  fields_read no_field d es s h = tt
  fields_read (field name t fields) d es s h =
      let k = field_stood es name (λ w. Has w t) d s h.0 in
      headed_read (under_key name (value_at t (member_or_null name d))) (all_read (field_results fields d))
      (under_key_read name (value_at t (member_or_null name d)) (value_read t (member_or_null name d) k.0 k.2 k.1))
      (fields_read fields d es s h.1)

pub never_refused : (t : SoyType) (d : Data) (v : Value) (path : Path) → StandsFor v d → Has v t
    → value_at t d ≡ Err path → ⊥
never_refused t d v path s h e = not_refused (value_at t d) path (value_read t d v s h) e
