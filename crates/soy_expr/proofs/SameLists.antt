-- Lists of members and of fields that are compared item by item.
use Rattle.std.proofs.Common.{◌≡◌, ℕ, zero, suc, ◌+◌, ◌<◌, ◌≤◌, Bool, true, false, ◌&&◌, List, [], ◌∷◌, Some}
use Rattle.std.proofs.Common.{None, drop, length, slice_get, slice_index_or, arith}
use Rattle.std.specs.Prelude.{bytes_eq}
use mathlib.Core.Path.{refl, sym, ap, ◌∙◌}
use Rattle.soy_tree.specs.declared.soy_type.SoyType as code
use Rattle.soy_tree.specs.declared.soy_type.Field as code_field
use Rattle.soy_tree.specs.Types.{Members, FieldTypes, member, field, no_member, no_field}
use Rattle.soy_rules.specs.Members.{is_same_type, are_same_members, are_same_fields}
use Rattle.soy_tree.specs.ViewTypes.{view_type, view_members, view_fields}
use Rattle.soy_rules.proofs.Views.{fields-drop}
use Rattle.soy_expr.proofs.TypeTexts.{members_drop}

at_get : {A : Type 0} (xs : List A) (n : ℕ) (x : A) → slice_get xs n ≡ Some x
    → (n < length xs) × (x ≡ slice_index_or xs n x)
at_get [] n x e = cc
at_get (y ∷ xs) zero x e = let p : y ≡ x = cc in (omega arith, sym p)
at_get (y ∷ xs) (suc n) x e =
    let h : (n < length xs) × (x ≡ slice_index_or xs n x) = at_get xs n x e in (omega (arith, h.0), h.1)

past : {A : Type 0} (xs : List A) (n : ℕ) → length xs ≤ n → drop n xs ≡ []
past [] zero below = refl
past [] (suc n) below = refl
past (x ∷ xs) zero below = absurd (omega arith)
past (x ∷ xs) (suc n) below = past xs n (omega arith)

no_more : {A : Type 0} (xs : List A) (n : ℕ) → slice_get xs n ≡ None → drop n xs ≡ []
no_more [] zero e = refl
no_more [] (suc n) e = refl
no_more (x ∷ xs) zero e = cc
no_more (x ∷ xs) (suc n) e = no_more xs n e

members_step : (ls rs : List code.SoyType) (n : ℕ) (l r : code.SoyType) → n < length ls → l ≡ slice_index_or ls n l
    → slice_get rs n ≡ Some r → are_same_members (view_members (drop n ls)) (view_members (drop n rs))
    ≡ (is_same_type (view_type l) (view_type r) && are_same_members (view_members (drop (n + 1) ls))
    (view_members (drop (n + 1) rs)))
members_step ls rs n l r below is got =
    let h : (n < length rs) × (r ≡ slice_index_or rs n r) = at_get rs n r got in
    ap (λ (ts : Members). are_same_members ts (view_members (drop n rs))) (members_drop ls n l below is)
    ∙ ap (λ (ts : Members). are_same_members (member (view_type l) (view_members (drop (n + 1) ls))) ts)
    (members_drop rs n r h.0 h.1)

pub members_same : (ls rs : List code.SoyType) (n : ℕ) (l r : code.SoyType) → n < length ls → l ≡ slice_index_or ls n l
    → slice_get rs n ≡ Some r → is_same_type (view_type l) (view_type r) ≡ true
    → are_same_members (view_members (drop n ls)) (view_members (drop n rs)) ≡ are_same_members
    (view_members (drop (n + 1) ls)) (view_members (drop (n + 1) rs))
members_same ls rs n l r below is got same =
    members_step ls rs n l r below is got
    ∙ ap (λ b. b && are_same_members (view_members (drop (n + 1) ls)) (view_members (drop (n + 1) rs))) same

pub members_differ : (ls rs : List code.SoyType) (n : ℕ) (l r : code.SoyType) → n < length ls
    → l ≡ slice_index_or ls n l → slice_get rs n ≡ Some r → is_same_type (view_type l) (view_type r) ≡ false
    → are_same_members (view_members (drop n ls)) (view_members (drop n rs)) ≡ false
members_differ ls rs n l r below is got other =
    members_step ls rs n l r below is got
    ∙ ap (λ b. b && are_same_members (view_members (drop (n + 1) ls)) (view_members (drop (n + 1) rs))) other

pub members_short : (ls rs : List code.SoyType) (n : ℕ) (l : code.SoyType) → n < length ls → l ≡ slice_index_or ls n l
    → slice_get rs n ≡ None → are_same_members (view_members (drop n ls)) (view_members (drop n rs)) ≡ false
members_short ls rs n l below is none =
    ap (λ (ts : Members). are_same_members ts (view_members (drop n rs))) (members_drop ls n l below is)
    ∙ ap (λ (ts : List code.SoyType). are_same_members (member (view_type l) (view_members (drop (n + 1) ls)))
    (view_members ts)) (no_more rs n none)

pub members_end : (ls rs : List code.SoyType) (n : ℕ) → length ls ≤ n → slice_get rs n ≡ None
    → are_same_members (view_members (drop n ls)) (view_members (drop n rs)) ≡ true
members_end ls rs n below none =
    ap (λ (ts : List code.SoyType). are_same_members (view_members ts) (view_members (drop n rs))) (past ls n below)
    ∙ ap (λ (ts : List code.SoyType). are_same_members no_member (view_members ts)) (no_more rs n none)

pub members_longer : (ls rs : List code.SoyType) (n : ℕ) (r : code.SoyType) → length ls ≤ n → slice_get rs n ≡ Some r
    → are_same_members (view_members (drop n ls)) (view_members (drop n rs)) ≡ false
members_longer ls rs n r below got =
    let h : (n < length rs) × (r ≡ slice_index_or rs n r) = at_get rs n r got in
    ap (λ (ts : List code.SoyType). are_same_members (view_members ts) (view_members (drop n rs))) (past ls n below)
    ∙ ap (λ (ts : Members). are_same_members no_member ts) (members_drop rs n r h.0 h.1)

fields_step : (ls rs : List code_field.Field) (n : ℕ) (l r : code_field.Field) → n < length ls
    → l ≡ slice_index_or ls n l → slice_get rs n ≡ Some r
    → are_same_fields (view_fields (drop n ls)) (view_fields (drop n rs))
    ≡ (bytes_eq l.name r.name && is_same_type (view_type l.of) (view_type r.of)
    && are_same_fields (view_fields (drop (n + 1) ls)) (view_fields (drop (n + 1) rs)))
fields_step ls rs n l r below is got =
    let h : (n < length rs) × (r ≡ slice_index_or rs n r) = at_get rs n r got in
    ap (λ (ts : FieldTypes). are_same_fields ts (view_fields (drop n rs))) (fields-drop ls n l below is)
    ∙ ap (λ (ts : FieldTypes). are_same_fields (field l.name (view_type l.of) (view_fields (drop (n + 1) ls))) ts)
    (fields-drop rs n r h.0 h.1)

all_true : (a b c : Bool) → a ≡ true → b ≡ true → (a && b && c) ≡ c
all_true a b c e f = rw (e, f) refl

first_false : (a b c : Bool) → a ≡ false → (a && b && c) ≡ false
first_false a b c e = rw e refl

second_false : (a b c : Bool) → b ≡ false → (a && b && c) ≡ false
second_false true b c e = rw e refl
second_false false b c e = refl

pub fields_same : (ls rs : List code_field.Field) (n : ℕ) (l r : code_field.Field) → n < length ls
    → l ≡ slice_index_or ls n l → slice_get rs n ≡ Some r → bytes_eq l.name r.name ≡ true
    → is_same_type (view_type l.of) (view_type r.of) ≡ true
    → are_same_fields (view_fields (drop n ls)) (view_fields (drop n rs)) ≡ are_same_fields
    (view_fields (drop (n + 1) ls)) (view_fields (drop (n + 1) rs))
fields_same ls rs n l r below is got name same = fields_step ls rs n l r below is got ∙ all_true _ _ _ name same

pub names_differ : (ls rs : List code_field.Field) (n : ℕ) (l r : code_field.Field) → n < length ls
    → l ≡ slice_index_or ls n l → slice_get rs n ≡ Some r → bytes_eq l.name r.name ≡ false
    → are_same_fields (view_fields (drop n ls)) (view_fields (drop n rs)) ≡ false
names_differ ls rs n l r below is got name = fields_step ls rs n l r below is got ∙ first_false _ _ _ name

pub fields_differ : (ls rs : List code_field.Field) (n : ℕ) (l r : code_field.Field) → n < length ls
    → l ≡ slice_index_or ls n l → slice_get rs n ≡ Some r → is_same_type (view_type l.of) (view_type r.of) ≡ false
    → are_same_fields (view_fields (drop n ls)) (view_fields (drop n rs)) ≡ false
fields_differ ls rs n l r below is got other = fields_step ls rs n l r below is got ∙ second_false _ _ _ other

pub fields_short : (ls rs : List code_field.Field) (n : ℕ) (l : code_field.Field) → n < length ls
    → l ≡ slice_index_or ls n l → slice_get rs n ≡ None
    → are_same_fields (view_fields (drop n ls)) (view_fields (drop n rs)) ≡ false
fields_short ls rs n l below is none =
    ap (λ (ts : FieldTypes). are_same_fields ts (view_fields (drop n rs))) (fields-drop ls n l below is)
    ∙ ap (λ (ts : List code_field.Field). are_same_fields
    (field l.name (view_type l.of) (view_fields (drop (n + 1) ls))) (view_fields ts)) (no_more rs n none)

pub fields_end : (ls rs : List code_field.Field) (n : ℕ) → length ls ≤ n → slice_get rs n ≡ None
    → are_same_fields (view_fields (drop n ls)) (view_fields (drop n rs)) ≡ true
fields_end ls rs n below none =
    ap (λ (ts : List code_field.Field). are_same_fields (view_fields ts) (view_fields (drop n rs))) (past ls n below)
    ∙ ap (λ (ts : List code_field.Field). are_same_fields no_field (view_fields ts)) (no_more rs n none)

pub fields_longer : (ls rs : List code_field.Field) (n : ℕ) (r : code_field.Field) → length ls ≤ n
    → slice_get rs n ≡ Some r → are_same_fields (view_fields (drop n ls)) (view_fields (drop n rs)) ≡ false
fields_longer ls rs n r below got =
    let h : (n < length rs) × (r ≡ slice_index_or rs n r) = at_get rs n r got in
    ap (λ (ts : List code_field.Field). are_same_fields (view_fields ts) (view_fields (drop n rs))) (past ls n below)
    ∙ ap (λ (ts : FieldTypes). are_same_fields no_field ts) (fields-drop rs n r h.0 h.1)
