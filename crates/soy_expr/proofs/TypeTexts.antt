-- The text of a type, part after part.
use Rattle.std.proofs.Common.{◌≡◌, ℕ, zero, suc, ◌+◌, ◌<◌, ◌≤◌, List, [], ◌∷◌, ◌++◌, drop, length, slice_index_or}
use Rattle.std.proofs.Common.{arith}
use Rattle.std.specs.Prelude.{codes}
use mathlib.Core.Path.{refl, sym, ap, ◌∙◌}
use Rattle.soy_tree.specs.declared.soy_type.SoyType as code
use Rattle.soy_tree.specs.declared.soy_type.Field as code_field
use Rattle.soy_tree.specs.Types.{SoyType, Members, FieldTypes, member, field, no_member, no_field}
use Rattle.soy_rules.specs.TypeText.{type_text}
use Rattle.soy_tree.specs.ViewTypes.{view_type, view_members, view_fields}
use Rattle.soy_rules.proofs.Views.{fields-drop}
use Rattle.soy_expr.specs.Separators.{separator_before}
use Rattle.soy_expr.proofs.TextsLeft.{members_left, fields_left}

pub append_assoc : {A : Type 0} (xs ys zs : List A) → (xs ++ ys) ++ zs ≡ xs ++ (ys ++ zs)
append_assoc [] ys zs = refl
append_assoc (x ∷ xs) ys zs = ap (λ l. x ∷ l) (append_assoc xs ys zs)

-- the member at an index stands before those from the next index on
pub members_drop : (ms : List code.SoyType) (n : ℕ) (m : code.SoyType) → n < length ms → m ≡ slice_index_or ms n m
    → view_members (drop n ms) ≡ member (view_type m) (view_members (drop (n + 1) ms))
members_drop [] n m below is = absurd (omega arith)
members_drop (x ∷ ms) zero m below is = rw is refl
members_drop (x ∷ ms) (suc n) m below is =
    let e : suc n + 1 ≡ suc (n + 1) = omega arith in rw e (members_drop ms n m (omega arith) is)

first_member : (n : ℕ) (t : SoyType) (ts : Members)
    → members_left n (member t ts) ≡ separator_before n (codes "|") ++ (type_text t ++ members_left (n + 1) ts)
first_member zero t ts = refl
first_member (suc n) t ts = let e : suc n + 1 ≡ suc (suc n) = omega arith in rw e refl

pub members_step : (ms : List code.SoyType) (n : ℕ) (m : code.SoyType) → n < length ms → m ≡ slice_index_or ms n m
    → members_left n (view_members (drop n ms)) ≡ separator_before n (codes "|") ++
    (type_text (view_type m) ++ members_left (n + 1) (view_members (drop (n + 1) ms)))
members_step ms n m below is =
    ap (members_left n) (members_drop ms n m below is) ∙ first_member n (view_type m) (view_members (drop (n + 1) ms))

no_members : (n : ℕ) → members_left n no_member ≡ []
no_members zero = refl
no_members (suc n) = refl

pub members_over : (ms : List code.SoyType) (n k : ℕ) → length ms ≤ n → members_left k (view_members (drop n ms)) ≡ []
members_over [] zero k below = no_members k
members_over [] (suc n) k below = no_members k
members_over (x ∷ ms) zero k below = absurd (omega arith)
members_over (x ∷ ms) (suc n) k below = members_over ms n k (omega arith)

first_field : (n : ℕ) (name : List ℕ) (t : SoyType) (fs : FieldTypes)
    → fields_left n (field name t fs) ≡ separator_before n (codes ", ") ++
    ((name ++ codes ": ") ++ (type_text t ++ fields_left (n + 1) fs))
first_field zero name t fs = sym (append_assoc name (codes ": ") _)
first_field (suc n) name t fs = let e : suc n + 1 ≡ suc (suc n) = omega arith in
    rw e (ap (λ (l : List ℕ). codes ", " ++ l) (sym (append_assoc name (codes ": ") _)))

pub fields_step : (fs : List code_field.Field) (n : ℕ) (f : code_field.Field) → n < length fs
    → f ≡ slice_index_or fs n f
    → fields_left n (view_fields (drop n fs)) ≡ separator_before n (codes ", ") ++
    ((f.name ++ codes ": ") ++ (type_text (view_type f.of) ++ fields_left (n + 1) (view_fields (drop (n + 1) fs))))
fields_step fs n f below is =
    ap (fields_left n) (fields-drop fs n f below is)
    ∙ first_field n f.name (view_type f.of) (view_fields (drop (n + 1) fs))

no_fields : (n : ℕ) → fields_left n no_field ≡ []
no_fields zero = refl
no_fields (suc n) = refl

pub fields_over : (fs : List code_field.Field) (n k : ℕ) → length fs ≤ n → fields_left k (view_fields (drop n fs)) ≡ []
fields_over [] zero k below = no_fields k
fields_over [] (suc n) k below = no_fields k
fields_over (x ∷ fs) zero k below = absurd (omega arith)
fields_over (x ∷ fs) (suc n) k below = fields_over fs n k (omega arith)

pub three_pushed : (old first second last a b c : List ℕ) → first ≡ old ++ a → second ≡ first ++ b → last ≡ second ++ c
    → last ≡ old ++ (a ++ (b ++ c))
three_pushed old first second last a b c e f g =
    g ∙ ap (λ (l : List ℕ). l ++ c) (f ∙ ap (λ (l : List ℕ). l ++ b) e ∙ append_assoc old a b)
    ∙ append_assoc old (a ++ b) c ∙ ap (λ (l : List ℕ). old ++ l) (append_assoc a b c)
