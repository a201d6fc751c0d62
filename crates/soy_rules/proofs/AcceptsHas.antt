-- A value of a type is of each type that accepts it.
use Rattle.std.proofs.Common.{◌≡◌, Bool, true, false, ◌||◌, List, [], ◌∷◌, ◌⊎◌}
use Rattle.std.specs.Prelude.{if◌then◌else◌, bytes_eq, Option, Some, None}
use Rattle.std.specs.List.{list_all}
use mathlib.Core.Path.{refl}
use mathlib.Core.Logic.{inl, inr}
use Rattle.soy_tree.specs.Types.{
  Name,
  SoyType,
  Members,
  FieldTypes,
  NullType,
  BoolType,
  IntType,
  StringType,
  HtmlType,
  AttributesType,
  ListType,
  MapType,
  RecordType,
  UnionType,
  no_member,
  member,
  no_field,
  field,
}
use Rattle.soy_tree.specs.Values.{
  Value,
  Items,
  Entries,
  NullValue,
  BoolValue,
  IntValue,
  StringValue,
  ListValue,
  MapValue,
  RecordValue,
  no_item,
  item,
  no_entry,
  entry,
}
use Rattle.soy_rules.specs.Members.{members}
use Rattle.soy_rules.specs.Accepts.{accepts, accepts_member, some_accepts, accepts_fields, has_field, each_member}
use Rattle.soy_rules.specs.Has.{Has, HasSome, HasFields, IsRecord, EachItem, EachEntry, IsListOf, IsMapOf, IsThere}
use Rattle.soy_rules.specs.Has.{field_value}
use Rattle.soy_tree.proofs.SameNames.{both, same_name}
use Rattle.soy_rules.proofs.MembersHave.{HasAny, has_members}

-- what each member that passes gives, a value of one of the members gives
pub each_gives : (test : SoyType → Bool) (P : Type 0) (v : Value) (ts : List SoyType)
    → ((u : SoyType) → test u ≡ true → Has v u → P) → list_all test ts ≡ true → HasAny v ts → P
each_gives test P v [] gives all h = absurd h
each_gives test P v (t ∷ ts) gives all (inl h) = gives t (both (test t) (list_all test ts) all).0 h
each_gives test P v (t ∷ ts) gives all (inr h) = each_gives test P v ts gives (both (test t) (list_all test ts) all).1 h

pub each_item : (P Q : Value → Type 0) (vs : Items) → ((v : Value) → P v → Q v) → EachItem P vs → EachItem Q vs
each_item P Q no_item gives h = tt
each_item P Q (item v vs) gives h = (gives v h.0, each_item P Q vs gives h.1)

pub each_entry : (P Q : Value → Type 0) (es : Entries) → ((v : Value) → P v → Q v) → EachEntry P es → EachEntry Q es
each_entry P Q no_entry gives h = tt
each_entry P Q (entry name v es) gives h = (gives v h.0, each_entry P Q es gives h.1)

pub list_gives : (P Q : Value → Type 0) (v : Value) → ((w : Value) → P w → Q w) → IsListOf P v → IsListOf Q v
list_gives P Q (ListValue vs) gives h = each_item P Q vs gives h
list_gives P Q NullValue gives h = absurd h
list_gives P Q (BoolValue b) gives h = absurd h
list_gives P Q (IntValue n) gives h = absurd h
list_gives P Q (StringValue text) gives h = absurd h
list_gives P Q (MapValue es) gives h = absurd h
list_gives P Q (RecordValue es) gives h = absurd h

pub map_gives : (P Q : Value → Type 0) (v : Value) → ((w : Value) → P w → Q w) → IsMapOf P v → IsMapOf Q v
map_gives P Q (MapValue es) gives h = each_entry P Q es gives h
map_gives P Q NullValue gives h = absurd h
map_gives P Q (BoolValue b) gives h = absurd h
map_gives P Q (IntValue n) gives h = absurd h
map_gives P Q (StringValue text) gives h = absurd h
map_gives P Q (ListValue vs) gives h = absurd h
map_gives P Q (RecordValue es) gives h = absurd h

-- a value with fields is a record
pub fields_record : (v : Value) (fields : FieldTypes) → HasFields v fields → IsRecord v
fields_record v no_field h = h
fields_record v (field name t fields) h = fields_record v fields h.1

pub there_gives : (P Q : Value → Type 0) (o : Option Value) → ((w : Value) → P w → Q w) → IsThere P o → IsThere Q o
there_gives P Q None gives h = absurd h
there_gives P Q (Some w) gives h = gives w h

-- the field of a name, whose type passes
pub field_if : (c : Bool) (name other : Name) (v : Value) (test : SoyType → Bool) (t : SoyType) (rest : Bool)
    (Q : Value → Type 0)
    → bytes_eq other name ≡ c → ((w : Value) (u : SoyType) → test u ≡ true → Has w u → Q w)
    → IsThere (λ w. Has w t) (field_value other v) → (rest ≡ true → IsThere Q (field_value name v))
    → (if c then test t else rest) ≡ true → IsThere Q (field_value name v)
field_if true name other v test t rest Q is gives h more e =
    let q : other ≡ name = same_name other name is in
    rw (← q) (there_gives (λ w. Has w t) Q (field_value other v) (λ w k. gives w t e k) h)
field_if false name other v test t rest Q is gives h more e = more e

pub field_gives : (fields : FieldTypes) (name : Name) (v : Value) (test : SoyType → Bool) (Q : Value → Type 0)
    → ((w : Value) (u : SoyType) → test u ≡ true → Has w u → Q w)
    → has_field name test fields ≡ true → HasFields v fields → IsThere Q (field_value name v)
field_gives no_field name v test Q gives e h = let no : ⊥ = cc in absurd no
field_gives (field other t fields) name v test Q gives e h =
    field_if (bytes_eq other name) name other v test t (has_field name test fields) Q refl gives h.0
    (λ d. field_gives fields name v test Q gives d h.1) e

pub or_gives : {P Q : Type 0} (a b : Bool) → (a ≡ true → P) → (b ≡ true → Q) → (a || b) ≡ true → P ⊎ Q
or_gives true b f g e = inl (f refl)
or_gives false b f g e = inr (g e)

mutual
  pub member_accepts_has : (to from : SoyType) (v : Value) → accepts_member to from ≡ true → Has v from → Has v to
  member_accepts_has NullType NullType v e h = h
  member_accepts_has BoolType BoolType v e h = h
  member_accepts_has IntType IntType v e h = h
  member_accepts_has StringType StringType v e h = h
  member_accepts_has HtmlType HtmlType v e h = h
  member_accepts_has AttributesType AttributesType v e h = h
  member_accepts_has (ListType to) (ListType from) v e h =
      list_gives (λ w. Has w from) (λ w. Has w to) v
      (λ w k. each_gives (accepts_member to) (Has w to) w (members from) (λ u d g. member_accepts_has to u w d g)
      e (has_members w from k)) h
  member_accepts_has (MapType to) (MapType from) v e h =
      map_gives (λ w. Has w from) (λ w. Has w to) v (λ w k. each_gives (accepts_member to) (Has w to) w (members from)
      (λ u d g. member_accepts_has to u w d g) e (has_members w from k)) h
  member_accepts_has (RecordType to) (RecordType from) v e h = accepts_fields_has to from v e h
  member_accepts_has (UnionType to) from v e h = some_accepts_has to from v e h
  member_accepts_has _ _ v e h = let no : ⊥ = cc in absurd no

  pub some_accepts_has : (to : Members) (from : SoyType) (v : Value)
      → some_accepts to from ≡ true → Has v from → HasSome v to
  some_accepts_has no_member from v e h = let no : ⊥ = cc in absurd no
  some_accepts_has (member t ts) from v e h =
      or_gives (accepts_member t from) (some_accepts ts from) (λ d. member_accepts_has t from v d h)
      (λ d. some_accepts_has ts from v d h) e

  pub accepts_fields_has : (to from : FieldTypes) (v : Value)
      → accepts_fields to from ≡ true → HasFields v from → HasFields v to
  accepts_fields_has no_field from v e h = fields_record v from h
  accepts_fields_has (field name t fields) from v e h =
      let parts : (has_field name (each_member (accepts_member t)) from ≡ true) × (accepts_fields fields from ≡ true) =
      both (has_field name (each_member (accepts_member t)) from) (accepts_fields fields from) e in (
        field_gives from name v (each_member (accepts_member t)) (λ w. Has w t)
            (λ w u d k. each_gives (accepts_member t) (Has w t) w (members u) (λ x c g. member_accepts_has t x w c g)
            d (has_members w u k))
            parts.0 h,
        accepts_fields_has fields from v parts.1 h,
      )

pub accepts_has : (to from : SoyType) (v : Value) → accepts to from ≡ true → Has v from → Has v to
accepts_has to from v e h =
    each_gives (accepts_member to) (Has v to) v (members from) (λ u d k. member_accepts_has to u v d k) e
    (has_members v from h)
