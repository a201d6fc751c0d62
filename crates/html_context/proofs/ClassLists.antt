-- Classes of lists of types.
use Rattle.std.proofs.Common.{◌≡◌, ℕ, zero, suc, ◌+◌, ◌<◌, List, [], ◌∷◌, ◌++◌, drop, length, slice_index_or}
use Rattle.std.proofs.Common.{refl, ap, sym, ◌∙◌, arith}
use Rattle.soy_base.specs.declared.place.ValueClass.{ValueClass}
use Rattle.soy_tree.specs.Types.{SoyType}
use Rattle.soy_rules.specs.Members.{members, union_members}
use Rattle.soy_tree.specs.ViewTypes.{view_members, view_type}
use Rattle.soy_tree.specs.declared.soy_type.SoyType as code
use Rattle.soy_meaning.specs.Paths.PlanOfParts.{classes_of_all, member_classes}

pub append_assoc : (xs ys zs : List ValueClass) → (xs ++ ys) ++ zs ≡ xs ++ (ys ++ zs)
append_assoc [] ys zs = refl
append_assoc (x ∷ xs) ys zs = ap (λ l. x ∷ l) (append_assoc xs ys zs)

-- the classes of two lists
pub classes_append : (ts us : List SoyType) → classes_of_all (ts ++ us) ≡ classes_of_all ts ++ classes_of_all us
classes_append [] us = refl
classes_append (t ∷ ts) us =
    ap (λ l. member_classes t ++ l) (classes_append ts us)
    ∙ sym (append_assoc (member_classes t) (classes_of_all ts) (classes_of_all us))

-- the classes of the type at an index go before those of the types after it
pub classes_from : (ts : List code.SoyType) (n : ℕ) (t : code.SoyType) → n < length ts → t ≡ slice_index_or ts n t
    → classes_of_all (union_members (view_members (drop n ts)))
    ≡ classes_of_all (members (view_type t)) ++ classes_of_all (union_members (view_members (drop (n + 1) ts)))
classes_from [] n t below is = absurd (omega arith)
classes_from (x ∷ ts) zero t below is =
    rw is (classes_append (members (view_type x)) (union_members (view_members ts)))
classes_from (x ∷ ts) (suc n) t below is =
    let e : suc n + 1 ≡ suc (n + 1) = omega arith in rw e (classes_from ts n t (omega arith) is)

-- the same behind classes that are there
pub classes_added : (cs : List ValueClass) (ts : List code.SoyType) (n : ℕ) (t : code.SoyType)
    → n < length ts → t ≡ slice_index_or ts n t
    → (cs ++ classes_of_all (members (view_type t))) ++ classes_of_all (union_members (view_members (drop (n + 1) ts)))
    ≡ cs ++ classes_of_all (union_members (view_members (drop n ts)))
classes_added cs ts n t below is =
    append_assoc cs (classes_of_all (members (view_type t))) (classes_of_all
    (union_members (view_members (drop (n + 1) ts))))
    ∙ ap (λ l. cs ++ l) (sym (classes_from ts n t below is))
