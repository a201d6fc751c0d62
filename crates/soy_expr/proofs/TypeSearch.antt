-- Members that are searched for, and members that are added.
use Rattle.std.proofs.Common.{◌≡◌, ℕ, ◌+◌, ◌<◌, drop, length, slice_index_or, Bool, true, false, not, ◌&&◌, ◌||◌, List}
use Rattle.std.proofs.Common.{[], ◌∷◌, ◌++◌}
use Rattle.std.specs.List.{list_any, list_all}
use mathlib.Core.Path.{refl, ap, ◌∙◌}
use Rattle.soy_tree.specs.Types.{SoyType, Members}
use Rattle.soy_tree.specs.declared.soy_type.SoyType as code
use Rattle.soy_tree.specs.ViewTypes.{view_type, view_members}
use Rattle.soy_expr.proofs.TypeTexts.{members_drop}
use Rattle.soy_rules.specs.Members.{members, union_members, is_simple, is_simple_member, with_member, with_members}
use Rattle.soy_expr.specs.declared.member_kind.MemberKind.TheVariants as kind
use Rattle.soy_expr.specs.MemberKinds.{is_of_kind}

or_assoc : (a b c : Bool) → (a || (b || c)) ≡ ((a || b) || c)
or_assoc true b c = refl
or_assoc false b c = refl

pub or_false : (b : Bool) → (b || false) ≡ b
or_false true = refl
or_false false = refl

pub any_append : {A : Type 0} (p : A → Bool) (xs ys : List A) → list_any p (xs ++ ys) ≡ (list_any p xs || list_any p ys)
any_append p [] ys = refl
any_append p (x ∷ xs) ys = ap (λ b. p x || b) (any_append p xs ys) ∙ or_assoc (p x) (list_any p xs) (list_any p ys)

both_or_neither : (a b : Bool) → not (not a || b) ≡ (a && not b)
both_or_neither true b = refl
both_or_neither false b = refl

all_simple : (ts : List SoyType) → not (list_any (is_of_kind kind.Other) ts) ≡ list_all is_simple_member ts
all_simple [] = refl
all_simple (t ∷ ts) =
    both_or_neither (is_simple_member t) (list_any (is_of_kind kind.Other) ts)
    ∙ ap (λ b. is_simple_member t && b) (all_simple ts)

pub none_other : (t : SoyType) → not (list_any (is_of_kind kind.Other) (members t)) ≡ is_simple t
none_other t = all_simple (members t)

with_append : (ts us vs : List SoyType) → with_members ts (us ++ vs) ≡ with_members (with_members ts us) vs
with_append ts [] vs = refl
with_append ts (u ∷ us) vs = with_append (with_member ts u) us vs

-- the members of the type at an index go before those of the types after it
pub with_step : (ts : List SoyType) (types : List code.SoyType) (n : ℕ) (t : code.SoyType) → n < length types
    → t ≡ slice_index_or types n t
    → with_members ts (union_members (view_members (drop n types))) ≡ with_members
    (with_members ts (members (view_type t))) (union_members (view_members (drop (n + 1) types)))
with_step ts types n t below is =
    ap (λ (ms : Members). with_members ts (union_members ms)) (members_drop types n t below is)
    ∙ with_append ts (members (view_type t)) (union_members (view_members (drop (n + 1) types)))
