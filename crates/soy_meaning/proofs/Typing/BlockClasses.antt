-- The classes of types: what accepts a type has its classes, and a type without null has each class but that of null.
use Rattle.std.proofs.Common.{◌≡◌, Bool, true, false, ◌||◌, List, [], ◌∷◌, ◌++◌, filter, ◌⊎◌, inl, inr, refl}
use Rattle.std.proofs.Common.{subst}
use Rattle.std.specs.List.{list_all, list_any}
use Rattle.std.proofs.lemmas.Bool.{and_parts}
use Rattle.soy_base.specs.declared.kind.Kind.{Kind}
use Rattle.soy_base.specs.declared.kind.Kind.TheVariants as kinds
use Rattle.soy_base.specs.declared.place.ValueClass.{ValueClass}
use Rattle.soy_base.specs.declared.place.ValueClass.TheVariants as class
use Rattle.soy_rules.specs.Accepts.{accepts, accepts_member, some_accepts}
use Rattle.soy_rules.specs.Members.{has_block, is_block_member, is_some_type, members, type_without_null}
use Rattle.soy_tree.specs.Types.{members_of}
use Rattle.soy_rules.specs.Members.{union_members, union_of}
use Rattle.soy_tree.specs.Types.{SoyType, Members, NullType, BoolType, IntType, StringType, HtmlType, AttributesType}
use Rattle.soy_tree.specs.Types.{ListType, MapType, RecordType, UnionType, no_member, member}
use Rattle.soy_rules.proofs.AcceptsHas.{or_gives}
use Rattle.soy_meaning.specs.Paths.Filled.{IsBlockKind}
use Rattle.soy_meaning.specs.Paths.PlanOfNodes.{kind_class}
use Rattle.soy_meaning.specs.Paths.PlanOfParts.{classes_of_all, member_classes}
use Rattle.soy_meaning.specs.Walks.States.{IsMember}
use Rattle.soy_meaning.proofs.Members.{mem_left, mem_right, mem_split}

-- a class of a type
abbrev pub HasOf : ValueClass → SoyType → Type 0
HasOf x t = IsMember x (classes_of_all (members t))

either_class : {P : Type 0} (x : ValueClass) (xs ys : List ValueClass) → (IsMember x xs → P) → (IsMember x ys → P)
    → IsMember x xs ⊎ IsMember x ys → P
either_class x xs ys f g (inl h) = f h
either_class x xs ys f g (inr h) = g h

-- of two lists of types
classes_left : (x : ValueClass) (ts us : List SoyType) → IsMember x (classes_of_all ts)
    → IsMember x (classes_of_all (ts ++ us))
classes_left x [] us h = absurd h
classes_left x (t ∷ ts) us h =
    either_class x (member_classes t) (classes_of_all ts)
    (λ here. mem_left x (member_classes t) (classes_of_all (ts ++ us)) here)
    (λ later. mem_right x (member_classes t) (classes_of_all (ts ++ us)) (classes_left x ts us later))
    (mem_split x (member_classes t) (classes_of_all ts) h)

classes_right : (x : ValueClass) (ts us : List SoyType) → IsMember x (classes_of_all us)
    → IsMember x (classes_of_all (ts ++ us))
classes_right x [] us h = h
classes_right x (t ∷ ts) us h =
    mem_right x (member_classes t) (classes_of_all (ts ++ us)) (classes_right x ts us h)

-- ---- a type that accepts another

either_gives : {P : Type 0} → P ⊎ P → P
either_gives (inl h) = h
either_gives (inr h) = h

mutual
  member_accepts_class : (to from : SoyType) (x : ValueClass) → accepts_member to from ≡ true
      → IsMember x (member_classes from) → HasOf x to
  member_accepts_class NullType NullType x e h = h
  member_accepts_class BoolType BoolType x e h = h
  member_accepts_class IntType IntType x e h = h
  member_accepts_class StringType StringType x e h = h
  member_accepts_class HtmlType HtmlType x e h = h
  member_accepts_class AttributesType AttributesType x e h = h
  member_accepts_class (ListType to) (ListType from) x e h = absurd h
  member_accepts_class (MapType to) (MapType from) x e h = absurd h
  member_accepts_class (RecordType to) (RecordType from) x e h = absurd h
  member_accepts_class (UnionType to) from x e h = some_accepts_class to from x e h
  member_accepts_class _ _ x e h = let no : ⊥ = cc in absurd no

  some_accepts_class : (to : Members) (from : SoyType) (x : ValueClass) → some_accepts to from ≡ true
      → IsMember x (member_classes from) → IsMember x (classes_of_all (union_members to))
  some_accepts_class no_member from x e h = let no : ⊥ = cc in absurd no
  some_accepts_class (member t ts) from x e h =
      either_gives
      (or_gives (accepts_member t from) (some_accepts ts from)
      (λ d. classes_left x (members t) (union_members ts) (member_accepts_class t from x d h))
      (λ d. classes_right x (members t) (union_members ts) (some_accepts_class ts from x d h)) e)

each_accepted : (to : SoyType) (us : List SoyType) (x : ValueClass) → list_all (accepts_member to) us ≡ true
    → IsMember x (classes_of_all us) → HasOf x to
each_accepted to [] x e h = absurd h
each_accepted to (u ∷ us) x e h =
    let parts = and_parts (accepts_member to u) (list_all (accepts_member to) us) e in
    either_class x (member_classes u) (classes_of_all us) (λ here. member_accepts_class to u x parts.0 here)
    (λ later. each_accepted to us x parts.1 later) (mem_split x (member_classes u) (classes_of_all us) h)

pub accepted_class : (to from : SoyType) (x : ValueClass) → accepts to from ≡ true → HasOf x from → HasOf x to
accepted_class to from x e h = each_accepted to (members from) x e h

-- ---- a type without null

kept_class : (x : ValueClass) (xs ys zs : List ValueClass) → IsMember x (xs ++ ys)
    → (IsMember x ys → IsMember x zs) → IsMember x (xs ++ zs)
kept_class x xs ys zs h f =
    either_class x xs ys (λ here. mem_left x xs zs here) (λ later. mem_right x xs zs (f later)) (mem_split x xs ys h)

abbrev Filtered : ValueClass → List SoyType → Type 0
Filtered x ts = IsMember x (classes_of_all (filter is_some_type ts))

null_filtered : (x : ValueClass) (ts : List SoyType) → (x ≡ class.Null → ⊥)
    → (IsMember x (classes_of_all ts) → Filtered x ts) → (x ≡ class.Null) ⊎ IsMember x (classes_of_all ts)
    → Filtered x ts
null_filtered x ts other f (inl is) = absurd (other is)
null_filtered x ts other f (inr h) = f h

filtered_class : (x : ValueClass) (ts : List SoyType) → (x ≡ class.Null → ⊥) → IsMember x (classes_of_all ts)
    → Filtered x ts
filtered_class x [] other h = absurd h
filtered_class x (NullType ∷ ts) other h = null_filtered x ts other (λ k. filtered_class x ts other k) h
filtered_class x (BoolType ∷ ts) other h =
    kept_class x (class.Bool ∷ []) (classes_of_all ts) (classes_of_all (filter is_some_type ts)) h
    (λ k. filtered_class x ts other k)
filtered_class x (IntType ∷ ts) other h =
    kept_class x (class.Int ∷ []) (classes_of_all ts) (classes_of_all (filter is_some_type ts)) h
    (λ k. filtered_class x ts other k)
filtered_class x (StringType ∷ ts) other h =
    kept_class x (class.Text ∷ []) (classes_of_all ts) (classes_of_all (filter is_some_type ts)) h
    (λ k. filtered_class x ts other k)
filtered_class x (HtmlType ∷ ts) other h =
    kept_class x (class.Html ∷ []) (classes_of_all ts) (classes_of_all (filter is_some_type ts)) h
    (λ k. filtered_class x ts other k)
filtered_class x (AttributesType ∷ ts) other h =
    kept_class x (class.Attributes ∷ []) (classes_of_all ts) (classes_of_all (filter is_some_type ts)) h
    (λ k. filtered_class x ts other k)
filtered_class x (ListType t ∷ ts) other h = filtered_class x ts other h
filtered_class x (MapType t ∷ ts) other h = filtered_class x ts other h
filtered_class x (RecordType fields ∷ ts) other h = filtered_class x ts other h
filtered_class x (UnionType us ∷ ts) other h = filtered_class x ts other h

own_class : (x : ValueClass) (t : SoyType) → IsMember x (member_classes t) → HasOf x t
own_class x NullType h = h
own_class x BoolType h = h
own_class x IntType h = h
own_class x StringType h = h
own_class x HtmlType h = h
own_class x AttributesType h = h
own_class x (ListType t) h = absurd h
own_class x (MapType t) h = absurd h
own_class x (RecordType fields) h = absurd h
own_class x (UnionType us) h = absurd h

listed_class : (x : ValueClass) (ts : List SoyType) → IsMember x (classes_of_all ts)
    → IsMember x (classes_of_all (union_members (members_of ts)))
listed_class x [] h = absurd h
listed_class x (t ∷ ts) h =
    either_class x (member_classes t) (classes_of_all ts)
    (λ here. classes_left x (members t) (union_members (members_of ts)) (own_class x t here))
    (λ later. classes_right x (members t) (union_members (members_of ts)) (listed_class x ts later))
    (mem_split x (member_classes t) (classes_of_all ts) h)

no_more : (x : ValueClass) (xs : List ValueClass) → IsMember x (xs ++ []) → IsMember x xs
no_more x xs h = either_class x xs [] (λ k. k) (λ k. absurd k) (mem_split x xs [] h)

union_class : (x : ValueClass) (ts : List SoyType) → IsMember x (classes_of_all ts) → HasOf x (union_of ts)
union_class x [] h = absurd h
union_class x (t ∷ []) h = own_class x t (no_more x (member_classes t) h)
union_class x (t ∷ (u ∷ us)) h = listed_class x (t ∷ (u ∷ us)) h

pub narrowed_class : (x : ValueClass) (t : SoyType) → (x ≡ class.Null → ⊥) → HasOf x t
    → HasOf x (type_without_null t)
narrowed_class x t other h =
    union_class x (filter is_some_type (members t)) (filtered_class x (members t) other h)

-- ---- the classes of blocks

pub not_null : (k : Kind) → IsBlockKind k → kind_class k ≡ class.Null → ⊥
not_null kinds.Html block e = cc
not_null kinds.Attributes block e = cc
not_null kinds.Text block e = absurd block

-- html and attributes
record FoundBlock (ts : List SoyType) : Type 0 where
  pub kind : Kind
  pub block : IsBlockKind kind
  pub has : IsMember (kind_class kind) (classes_of_all ts)

found_later : (t : SoyType) (ts : List SoyType) → FoundBlock ts → FoundBlock (t ∷ ts)
found_later t ts found = record {
  kind = found.kind;
  block = found.block;
  has = mem_right (kind_class found.kind) (member_classes t) (classes_of_all ts) found.has;
}

found_block : (ts : List SoyType) → list_any is_block_member ts ≡ true → FoundBlock ts
found_block [] e = let no : ⊥ = cc in absurd no
found_block (HtmlType ∷ ts) e = record { kind = kinds.Html; block = tt; has = inl refl }
found_block (AttributesType ∷ ts) e = record { kind = kinds.Attributes; block = tt; has = inl refl }
found_block (NullType ∷ ts) e = found_later NullType ts (found_block ts e)
found_block (BoolType ∷ ts) e = found_later BoolType ts (found_block ts e)
found_block (IntType ∷ ts) e = found_later IntType ts (found_block ts e)
found_block (StringType ∷ ts) e = found_later StringType ts (found_block ts e)
found_block (ListType t ∷ ts) e = found_later (ListType t) ts (found_block ts e)
found_block (MapType t ∷ ts) e = found_later (MapType t) ts (found_block ts e)
found_block (RecordType fields ∷ ts) e = found_later (RecordType fields) ts (found_block ts e)
found_block (UnionType us ∷ ts) e = found_later (UnionType us) ts (found_block ts e)

-- the class of a block is that of no other type
abbrev IsBlockClass : ValueClass → Type 0
IsBlockClass class.Html = Unit {0}
IsBlockClass class.Attributes = Unit {0}
IsBlockClass _ = ⊥

block_class : (k : Kind) → IsBlockKind k → IsBlockClass (kind_class k)
block_class kinds.Html block = tt
block_class kinds.Attributes block = tt
block_class kinds.Text block = absurd block

another : (x y : ValueClass) → IsBlockClass x → (IsBlockClass y → ⊥) → IsMember x (y ∷ []) → ⊥
another x y block other (inl is) = other (subst IsBlockClass is block)
another x y block other (inr h) = absurd h

block_here : (x : ValueClass) (t : SoyType) → IsBlockClass x → IsMember x (member_classes t)
    → is_block_member t ≡ true
block_here x HtmlType block h = refl
block_here x AttributesType block h = refl
block_here x NullType block h = absurd (another x class.Null block (λ k. absurd k) h)
block_here x BoolType block h = absurd (another x class.Bool block (λ k. absurd k) h)
block_here x IntType block h = absurd (another x class.Int block (λ k. absurd k) h)
block_here x StringType block h = absurd (another x class.Text block (λ k. absurd k) h)
block_here x (ListType t) block h = absurd h
block_here x (MapType t) block h = absurd h
block_here x (RecordType fields) block h = absurd h
block_here x (UnionType us) block h = absurd h

or_first : (b c : Bool) → b ≡ true → (b || c) ≡ true
or_first true c e = refl
or_first false c e = let no : ⊥ = cc in absurd no

or_last : (b c : Bool) → c ≡ true → (b || c) ≡ true
or_last true c e = refl
or_last false c e = e

block_listed : (x : ValueClass) (ts : List SoyType) → IsBlockClass x → IsMember x (classes_of_all ts)
    → list_any is_block_member ts ≡ true
block_listed x [] block h = absurd h
block_listed x (t ∷ ts) block h =
    either_class x (member_classes t) (classes_of_all ts)
    (λ here. or_first (is_block_member t) (list_any is_block_member ts) (block_here x t block here))
    (λ later. or_last (is_block_member t) (list_any is_block_member ts) (block_listed x ts block later))
    (mem_split x (member_classes t) (classes_of_all ts) h)

pub kind_has_block : (k : Kind) (t : SoyType) → IsBlockKind k → HasOf (kind_class k) t → has_block t ≡ true
kind_has_block k t block h = block_listed (kind_class k) (members t) (block_class k block) h

pub accepted_block : (to from : SoyType) → accepts to from ≡ true → has_block from ≡ true → has_block to ≡ true
accepted_block to from e h =
    let found : FoundBlock (members from) = found_block (members from) h in
    kind_has_block found.kind to found.block (accepted_class to from (kind_class found.kind) e found.has)
