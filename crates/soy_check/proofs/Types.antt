-- Which members a type has.
use Rattle.std.proofs.Common.{◌≡◌, ℕ, zero, suc, ◌+◌, ◌<◌, drop, slice_index_or}
use Rattle.std.proofs.Common.{Bool, true, false, not, ◌||◌, List, [], ◌∷◌, ◌++◌, filter, length, refl, ◌∙◌}
use Rattle.std.proofs.Common.{arith}
use Rattle.std.specs.Prelude.{nat_lt}
use Rattle.std.specs.List.{list_any}
use Rattle.std.proofs.lemmas.Bool.Decides.{nat_tests}
use Rattle.soy_tree.specs.Types.{SoyType, NullType, BoolType, IntType, StringType, HtmlType, AttributesType, ListType}
use Rattle.soy_tree.specs.Types.{MapType, RecordType, UnionType}
use Rattle.soy_rules.specs.Members.{
  has_block,
  is_block_member,
  is_some_type,
  members,
  type_without_null,
  union_members,
  union_of,
}
use Rattle.soy_tree.specs.declared.soy_type.SoyType as code
use Rattle.soy_tree.specs.ViewTypes.{view_members, view_type}
use Rattle.soy_rules.specs.Bodies.{has_member}
use Rattle.soy_rules.specs.Declarations.{mixes_blocks}

pub member_append : (ts us : List SoyType) → has_member (ts ++ us) ≡ (has_member ts || has_member us)
member_append [] us = refl
member_append (t ∷ ts) us = refl

-- the members of the type at an index go before those of the types after it
pub first_member : (ts : List code.SoyType) (n : ℕ) (t : code.SoyType) → n < length ts → t ≡ slice_index_or ts n t
    → has_member (union_members (view_members (drop n ts))) ≡ (has_member (members (view_type t))
    || has_member (union_members (view_members (drop (n + 1) ts))))
first_member [] n t below is = absurd (omega arith)
first_member (x ∷ ts) zero t below is = rw is (member_append (members (view_type x)) (union_members (view_members ts)))
first_member (x ∷ ts) (suc n) t below is =
    let e : suc n + 1 ≡ suc (n + 1) = omega arith in rw e (first_member ts n t (omega arith) is)

-- null is no block
some_blocks : (ts : List SoyType) → list_any is_block_member (filter is_some_type ts) ≡ list_any is_block_member ts
some_blocks [] = refl
some_blocks (NullType ∷ ts) = some_blocks ts
some_blocks (BoolType ∷ ts) = some_blocks ts
some_blocks (IntType ∷ ts) = some_blocks ts
some_blocks (StringType ∷ ts) = some_blocks ts
some_blocks (HtmlType ∷ ts) = refl
some_blocks (AttributesType ∷ ts) = refl
some_blocks (ListType t ∷ ts) = some_blocks ts
some_blocks (MapType t ∷ ts) = some_blocks ts
some_blocks (RecordType fields ∷ ts) = some_blocks ts
some_blocks (UnionType us ∷ ts) = some_blocks ts

alone : (b : Bool) → (b || false) ≡ true → false ≡ not b
alone true h = refl
alone false h = cc

several : (ts : List SoyType) → list_any is_block_member ts ≡ true
    → nat_lt 1 (length ts) ≡ not (is_block_member (union_of ts))
several [] h = cc
several (t ∷ []) h = alone (is_block_member t) h
several (t ∷ (u ∷ ts)) h = grind (arith, nat_tests)

-- a type that has a block mixes it exactly where it is no block without null
pub mixed : (t : SoyType) → has_block t ≡ true → mixes_blocks t ≡ not (is_block_member (type_without_null t))
mixed t h =
    rw h (several (filter is_some_type (members t)) (some_blocks (members t) ∙ h))

pub unmixed : (t : SoyType) → has_block t ≡ false → mixes_blocks t ≡ false
unmixed t h = rw h refl
