-- A base name with a single content is the name of it.
use Rattle.std.proofs.Common.{◌≡◌, ℕ, zero, suc, ◌==◌, Bool, true, false, List, [], ◌∷◌, length, Option, Some, None}
use Rattle.std.proofs.Common.{bytes_eq, slice_get, refl, sym, ap, ◌∙◌, arith}
use Rattle.std.specs.Prelude.{if◌then◌else◌}
use Rattle.std.specs.List.{position}
use Rattle.std.specs.Option.{option_and_then, option_map}
use Rattle.std.proofs.lemmas.Bool.{eqb-true}
use Rattle.soy_tree.specs.Types.{Name}
use Rattle.soy_rules.specs.Placeholders.{Content, Use, content_name, is_same_content, name_of, named_contents}
use Rattle.msg_extract.specs.NameGroups.{AreNames, group_found, is_single}
use Rattle.msg_extract.proofs.JoinedTests.{holds_or}
use Rattle.msg_extract.proofs.Naming.NameGroups.{contents_are, group_of, position_cons, then_suc}

no_group : (group : List Content) (found : Option ℕ) → option_and_then (λ n. slice_get [] n) found ≡ Some group → ⊥
no_group group None e = cc e
no_group group (Some zero) e = cc e
no_group group (Some (suc n)) e = cc e

-- a group that is found by its base name
group_is : (base : Name) (bases : List Name) (groups : List (List Content)) (group : List Content)
    → group_found bases groups base ≡ Some group → group_of bases groups base ≡ group
group_is base [] groups group e = absurd (cc e)
group_is base (b ∷ bs) [] group e = absurd (no_group group (position (bytes_eq base) (b ∷ bs)) e)
group_is base (b ∷ bs) (g ∷ gs) group e =
    holds_or _ (bytes_eq base b) here (behind (λ f. group_is base bs gs group f))
  where
    at : ℕ → Option (List Content)
    at n = slice_get (g ∷ gs) n

    from : Bool → Option (List Content)
    from t = option_and_then at (if t then Some 0 else option_map (λ n. suc n) (position (bytes_eq base) bs))

    found : from (bytes_eq base b) ≡ Some group
    found = sym (ap (option_and_then at) (position_cons (bytes_eq base) b bs)) ∙ e

    here : bytes_eq base b ≡ true → (if bytes_eq base b then g else group_of bs gs base) ≡ group
    here h =
        let same : Some g ≡ Some group = sym (ap from h) ∙ found in
        let is : g ≡ group = cc same in
        rw h is

    behind : (group_found bs gs base ≡ Some group → group_of bs gs base ≡ group) → bytes_eq base b ≡ false
        → (if bytes_eq base b then g else group_of bs gs base) ≡ group
    behind rest h =
        rw h (rest (sym (then_suc at (position (bytes_eq base) bs)) ∙ (sym (ap from h) ∙ found)))

same_either : (base : Name) (t : Bool) → (if t then base else base) ≡ base
same_either base true = refl
same_either base false = refl

single_name : (uses : List Use) (base : Name) (content : Content) (group : List Content) → (length group == 1) ≡ true
    → content_name content base (named_contents base uses group) ≡ base
single_name uses base content [] e = let no : 0 ≡ 1 = eqb-true 0 1 e in absurd (cc no)
single_name uses base content (c ∷ []) e = same_either base (is_same_content c content)
single_name uses base content (c ∷ (d ∷ cs)) e =
    let no : length (c ∷ (d ∷ cs)) ≡ 1 = eqb-true (length (c ∷ (d ∷ cs))) 1 e in absurd (omega (arith, no))

pub name_single : (uses : List Use) (bases : List Name) (groups : List (List Content)) (names : List (List Name))
    (base : Name) (content : Content) → AreNames uses bases groups names
    → is_single (group_found bases groups base) ≡ true → base ≡ name_of uses base content
name_single uses bases groups names base content are e = at (group_found bases groups base) refl e
  where
    at : (found : Option (List Content)) → group_found bases groups base ≡ found → is_single found ≡ true
        → base ≡ name_of uses base content
    at None f e = absurd (cc e)
    at (Some group) f e =
        sym (ap (λ g. content_name content base (named_contents base uses g))
        (sym (contents_are uses bases groups names base are) ∙ group_is base bases groups group f)
        ∙ single_name uses base content group e)
