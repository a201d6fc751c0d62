-- Which value is of a union, of a type without null, and of joined types.
use Rattle.std.proofs.Common.{◌≡◌, Bool, true, false, ◌||◌, List, [], ◌∷◌, ◌++◌, filter, ◌⊎◌}
use Rattle.std.specs.Prelude.{if◌then◌else◌}
use Rattle.std.specs.List.{list_any}
use mathlib.Core.Path.{refl}
use mathlib.Core.Logic.{inl, inr}
use Rattle.soy_tree.specs.Types.{SoyType, Members, NullType, BoolType, IntType, StringType, HtmlType, AttributesType}
use Rattle.soy_tree.specs.Types.{ListType, MapType, RecordType, UnionType, no_member, member, FieldTypes, no_field}
use Rattle.soy_tree.specs.Types.{field}
use Rattle.soy_tree.specs.Values.{Value, NullValue, BoolValue, IntValue, StringValue, ListValue, MapValue, RecordValue}
use Rattle.soy_rules.specs.Members.{members, union_members, union_of, is_some_type, type_without_null}
use Rattle.soy_tree.specs.Types.{members_of}
use Rattle.soy_rules.specs.Members.{is_same_type, with_member, with_members, joined}
use Rattle.soy_rules.specs.Has.{Has, HasSome, HasFields, IsNull}
use Rattle.soy_rules.proofs.SameTypes.{same_type}
use Rattle.soy_rules.proofs.Members.{kept_append}

-- the value is of one of the types
abbrev pub HasAny : Value → List SoyType → Type 0
HasAny v [] = ⊥
HasAny v (t ∷ ts) = Has v t ⊎ HasAny v ts

pub append_left : (v : Value) (ts us : List SoyType) → HasAny v ts → HasAny v (ts ++ us)
append_left v [] us h = absurd h
append_left v (t ∷ ts) us (inl h) = inl h
append_left v (t ∷ ts) us (inr h) = inr (append_left v ts us h)

pub append_right : (v : Value) (ts us : List SoyType) → HasAny v us → HasAny v (ts ++ us)
append_right v [] us h = h
append_right v (t ∷ ts) us h = inr (append_right v ts us h)

pub parted_after : (v : Value) (t : SoyType) (ts us : List SoyType) → HasAny v ts ⊎ HasAny v us
    → HasAny v (t ∷ ts) ⊎ HasAny v us
parted_after v t ts us (inl h) = inl (inr h)
parted_after v t ts us (inr h) = inr h

-- one of two lists
pub parted : (v : Value) (ts us : List SoyType) → HasAny v (ts ++ us) → HasAny v ts ⊎ HasAny v us
parted v [] us h = inr h
parted v (t ∷ ts) us (inl h) = inl (inl h)
parted v (t ∷ ts) us (inr h) = parted_after v t ts us (parted v ts us h)

pub any_some_of : (v : Value) (ts : List SoyType) → HasAny v ts → HasSome v (members_of ts)
any_some_of v [] h = absurd h
any_some_of v (t ∷ ts) (inl h) = inl h
any_some_of v (t ∷ ts) (inr h) = inr (any_some_of v ts h)

pub some_of_any : (v : Value) (ts : List SoyType) → HasSome v (members_of ts) → HasAny v ts
some_of_any v [] h = absurd h
some_of_any v (t ∷ ts) (inl h) = inl h
some_of_any v (t ∷ ts) (inr h) = inr (some_of_any v ts h)

-- of a type exactly where of one of its members
mutual
  pub has_members : (v : Value) (t : SoyType) → Has v t → HasAny v (members t)
  has_members v (UnionType ts) h = some_any v ts h
  has_members v NullType h = inl h
  has_members v BoolType h = inl h
  has_members v IntType h = inl h
  has_members v StringType h = inl h
  has_members v HtmlType h = inl h
  has_members v AttributesType h = inl h
  has_members v (ListType t) h = inl h
  has_members v (MapType t) h = inl h
  has_members v (RecordType fields) h = inl h

  pub some_any : (v : Value) (ts : Members) → HasSome v ts → HasAny v (union_members ts)
  some_any v no_member h = absurd h
  some_any v (member t ts) (inl h) = append_left v (members t) (union_members ts) (has_members v t h)
  some_any v (member t ts) (inr h) = append_right v (members t) (union_members ts) (some_any v ts h)

pub only : (v : Value) (t : SoyType) → HasAny v (t ∷ []) → Has v t
only v t (inl h) = h
only v t (inr h) = absurd h

-- one of two, each taken further
pub mapped : {P Q R S : Type 0} → (P → R) → (Q → S) → P ⊎ Q → R ⊎ S
mapped f g (inl p) = inl (f p)
mapped f g (inr q) = inr (g q)

mutual
  pub members_have : (v : Value) (t : SoyType) → HasAny v (members t) → Has v t
  members_have v (UnionType ts) h = any_some v ts h
  members_have v NullType h = only v NullType h
  members_have v BoolType h = only v BoolType h
  members_have v IntType h = only v IntType h
  members_have v StringType h = only v StringType h
  members_have v HtmlType h = only v HtmlType h
  members_have v AttributesType h = only v AttributesType h
  members_have v (ListType t) h = only v (ListType t) h
  members_have v (MapType t) h = only v (MapType t) h
  members_have v (RecordType fields) h = only v (RecordType fields) h

  pub any_some : (v : Value) (ts : Members) → HasAny v (union_members ts) → HasSome v ts
  any_some v no_member h = absurd h
  any_some v (member t ts) h =
      mapped (λ g. members_have v t g) (λ g. any_some v ts g) (parted v (members t) (union_members ts) h)

pub union_has : (v : Value) (ts : List SoyType) → HasAny v ts → Has v (union_of ts)
union_has v [] h = absurd h
union_has v (t ∷ []) h = only v t h
union_has v (t ∷ (u ∷ us)) h = any_some_of v (t ∷ (u ∷ us)) h

pub has_union : (v : Value) (ts : List SoyType) → Has v (union_of ts) → HasAny v ts
has_union v [] h = absurd h
has_union v (t ∷ []) h = inl h
has_union v (t ∷ (u ∷ us)) h = some_of_any v (t ∷ (u ∷ us)) h

-- a value of the type null is null
pub is_null : (v : Value) → IsNull v → v ≡ NullValue
is_null NullValue h = refl
is_null (BoolValue b) h = absurd h
is_null (IntValue n) h = absurd h
is_null (StringValue text) h = absurd h
is_null (ListValue vs) h = absurd h
is_null (MapValue es) h = absurd h
is_null (RecordValue es) h = absurd h

-- one more type before the others
pub or_any : {P : Type 0} (v : Value) (t : SoyType) (ts : List SoyType) → P ⊎ HasAny v ts → P ⊎ HasAny v (t ∷ ts)
or_any v t ts (inl p) = inl p
or_any v t ts (inr h) = inr (inr h)

-- a value of one of the types is null, or of one of those that aren't null
pub filtered : (v : Value) (ts : List SoyType) → HasAny v ts → (v ≡ NullValue) ⊎ HasAny v (filter is_some_type ts)
filtered v [] h = absurd h
filtered v (NullType ∷ ts) (inl h) = inl (is_null v h)
filtered v (NullType ∷ ts) (inr h) = filtered v ts h
filtered v (BoolType ∷ ts) (inl h) = inr (inl h)
filtered v (BoolType ∷ ts) (inr h) = or_any v BoolType (filter is_some_type ts) (filtered v ts h)
filtered v (IntType ∷ ts) (inl h) = inr (inl h)
filtered v (IntType ∷ ts) (inr h) = or_any v IntType (filter is_some_type ts) (filtered v ts h)
filtered v (StringType ∷ ts) (inl h) = inr (inl h)
filtered v (StringType ∷ ts) (inr h) = or_any v StringType (filter is_some_type ts) (filtered v ts h)
filtered v (HtmlType ∷ ts) (inl h) = inr (inl h)
filtered v (HtmlType ∷ ts) (inr h) = or_any v HtmlType (filter is_some_type ts) (filtered v ts h)
filtered v (AttributesType ∷ ts) (inl h) = inr (inl h)
filtered v (AttributesType ∷ ts) (inr h) = or_any v AttributesType (filter is_some_type ts) (filtered v ts h)
filtered v (ListType t ∷ ts) (inl h) = inr (inl h)
filtered v (ListType t ∷ ts) (inr h) = or_any v (ListType t) (filter is_some_type ts) (filtered v ts h)
filtered v (MapType t ∷ ts) (inl h) = inr (inl h)
filtered v (MapType t ∷ ts) (inr h) = or_any v (MapType t) (filter is_some_type ts) (filtered v ts h)
filtered v (RecordType fields ∷ ts) (inl h) = inr (inl h)
filtered v (RecordType fields ∷ ts) (inr h) = or_any v (RecordType fields) (filter is_some_type ts) (filtered v ts h)
filtered v (UnionType us ∷ ts) (inl h) = inr (inl h)
filtered v (UnionType us ∷ ts) (inr h) = or_any v (UnionType us) (filter is_some_type ts) (filtered v ts h)

-- and nothing else is taken away
pub kept_if : (b : Bool) (v : Value) (t : SoyType) (ts us : List SoyType) → (HasAny v us → HasAny v ts)
    → HasAny v (if b then t ∷ us else us) → HasAny v (t ∷ ts)
kept_if true v t ts us more (inl h) = inl h
kept_if true v t ts us more (inr h) = inr (more h)
kept_if false v t ts us more h = inr (more h)

pub unfiltered : (v : Value) (ts : List SoyType) → HasAny v (filter is_some_type ts) → HasAny v ts
unfiltered v [] h = absurd h
unfiltered v (t ∷ ts) h = kept_if (is_some_type t) v t ts (filter is_some_type ts) (λ g. unfiltered v ts g) h

pub or_union : (v : Value) (ts : List SoyType) → (v ≡ NullValue) ⊎ HasAny v ts → (v ≡ NullValue) ⊎ Has v (union_of ts)
or_union v ts (inl e) = inl e
or_union v ts (inr h) = inr (union_has v ts h)

-- a value of a type is null, or of the type without null
pub null_or_narrowed : (v : Value) (t : SoyType) → Has v t → (v ≡ NullValue) ⊎ Has v (type_without_null t)
null_or_narrowed v t h = or_union v (filter is_some_type (members t)) (filtered v (members t) (has_members v t h))

-- a value of the type without null is of the type
pub narrowed_has : (v : Value) (t : SoyType) → Has v (type_without_null t) → Has v t
narrowed_has v t h = members_have v t (unfiltered v (members t) (has_union v (filter is_some_type (members t)) h))

-- null is of no type without null
pub null_no_record : (fields : FieldTypes) → HasFields NullValue fields → ⊥
null_no_record no_field h = h
null_no_record (field name t fields) h = null_no_record fields h.1

pub neither : {P Q : Type 0} → (P → ⊥) → (Q → ⊥) → P ⊎ Q → ⊥
neither f g (inl p) = f p
neither f g (inr q) = g q

mutual
  pub null_gone : (t : SoyType) → HasAny NullValue (filter is_some_type (members t)) → ⊥
  null_gone NullType h = h
  null_gone BoolType h = neither (λ p. p) (λ q. q) h
  null_gone IntType h = neither (λ p. p) (λ q. q) h
  null_gone StringType h = neither (λ p. p) (λ q. q) h
  null_gone HtmlType h = neither (λ p. p) (λ q. q) h
  null_gone AttributesType h = neither (λ p. p) (λ q. q) h
  null_gone (ListType t) h = neither (λ p. p) (λ q. q) h
  null_gone (MapType t) h = neither (λ p. p) (λ q. q) h
  null_gone (RecordType fields) h = neither (λ p. null_no_record fields p) (λ q. q) h
  null_gone (UnionType ts) h = nulls_gone ts h

  pub nulls_gone : (ts : Members) → HasAny NullValue (filter is_some_type (union_members ts)) → ⊥
  nulls_gone no_member h = h
  nulls_gone (member t ts) h =
      neither (λ p. null_gone t p) (λ q. nulls_gone ts q)
      (parted NullValue (filter is_some_type (members t)) (filter is_some_type (union_members ts))
      (rw (kept_append (members t) (union_members ts)) at h))

pub null_not_narrowed : (t : SoyType) → Has NullValue (type_without_null t) → ⊥
null_not_narrowed t h = null_gone t (has_union NullValue (filter is_some_type (members t)) h)

pub append_last : (v : Value) (ts : List SoyType) (t : SoyType) → Has v t → HasAny v (ts ++ t ∷ [])
append_last v [] t h = inl h
append_last v (u ∷ ts) t h = inr (append_last v ts t h)

-- one of the types is the same as that of the value
pub same_if : (b : Bool) (v : Value) (t u : SoyType) (us : List SoyType) → is_same_type t u ≡ b
    → (b || list_any (is_same_type t) us) ≡ true → (list_any (is_same_type t) us ≡ true → HasAny v us) → Has v t
    → HasAny v (u ∷ us)
same_if true v t u us is e more h = let q : t ≡ u = same_type t u is in inl (rw q at h)
same_if false v t u us is e more h = inr (more e)

pub same_any : (v : Value) (t : SoyType) (us : List SoyType) → list_any (is_same_type t) us ≡ true → Has v t
    → HasAny v us
same_any v t [] e h = let no : ⊥ = cc in absurd no
same_any v t (u ∷ us) e h = same_if (is_same_type t u) v t u us refl e (λ d. same_any v t us d h) h

pub old_if : (b : Bool) (v : Value) (ts : List SoyType) (t : SoyType) → HasAny v ts
    → HasAny v (if b then ts else ts ++ t ∷ [])
old_if true v ts t h = h
old_if false v ts t h = append_left v ts (t ∷ []) h

pub new_if : (b : Bool) (v : Value) (ts : List SoyType) (t : SoyType) → list_any (is_same_type t) ts ≡ b → Has v t
    → HasAny v (if b then ts else ts ++ t ∷ [])
new_if true v ts t e h = same_any v t ts e h
new_if false v ts t e h = append_last v ts t h

pub joined_old : (v : Value) (ts us : List SoyType) → HasAny v ts → HasAny v (with_members ts us)
joined_old v ts [] h = h
joined_old v ts (u ∷ us) h = joined_old v (with_member ts u) us (old_if (list_any (is_same_type u) ts) v ts u h)

pub joined_new : (v : Value) (ts us : List SoyType) → HasAny v us → HasAny v (with_members ts us)
joined_new v ts [] h = absurd h
joined_new v ts (u ∷ us) (inl h) =
    joined_old v (with_member ts u) us (new_if (list_any (is_same_type u) ts) v ts u refl h)
joined_new v ts (u ∷ us) (inr h) = joined_new v (with_member ts u) us h

-- and a value of one of the joined types was of one of the two lists
pub was_if : (b : Bool) (v : Value) (ts : List SoyType) (t : SoyType)
    → HasAny v (if b then ts else ts ++ t ∷ []) → HasAny v ts ⊎ Has v t
was_if true v ts t h = inl h
was_if false v ts t h = mapped (λ p. p) (λ q. only v t q) (parted v ts (t ∷ []) h)

pub new_last : {P : Type 0} (v : Value) (u : SoyType) (us : List SoyType)
    → (P ⊎ Has v u) ⊎ HasAny v us → P ⊎ HasAny v (u ∷ us)
new_last v u us (inl (inl p)) = inl p
new_last v u us (inl (inr h)) = inr (inl h)
new_last v u us (inr h) = inr (inr h)

pub joined_was : (v : Value) (ts us : List SoyType) → HasAny v (with_members ts us) → HasAny v ts ⊎ HasAny v us
joined_was v ts [] h = inl h
joined_was v ts (u ∷ us) h =
    new_last v u us
    (mapped (λ p. was_if (list_any (is_same_type u) ts) v ts u p) (λ q. q) (joined_was v (with_member ts u) us h))

-- a value of either type is of the joined type
pub joined_left : (v : Value) (t u : SoyType) → Has v t → Has v (joined t u)
joined_left v t u h =
    union_has v (with_members (members t) (members u)) (joined_old v (members t) (members u) (has_members v t h))

pub joined_right : (v : Value) (t u : SoyType) → Has v u → Has v (joined t u)
joined_right v t u h =
    union_has v (with_members (members t) (members u)) (joined_new v (members t) (members u) (has_members v u h))

pub joined_back : (v : Value) (t u : SoyType) → Has v (joined t u) → Has v t ⊎ Has v u
joined_back v t u h =
    mapped (λ p. members_have v t p) (λ q. members_have v u q)
    (joined_was v (members t) (members u) (has_union v (with_members (members t) (members u)) h))
