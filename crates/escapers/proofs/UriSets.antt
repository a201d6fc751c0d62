-- The sets of bytes that are encoded, against the characters that stand for themselves.
use Rattle.std.proofs.Common.{◌≡◌, ℕ, ◌≤◌, true, false, not, eqb, List, [], ◌∷◌, ◌++◌, refl, sym, ap, ◌∙◌, arith}
use Rattle.std.specs.List.{flat_map}
use Rattle.std.proofs.lemmas.Bool.{agree_below, agree_below_at, and_parts, cond-false, not-true, or_parts}
use Rattle.std.proofs.lemmas.Bool.Decides.{nat_tests}
use Rattle.percent_encoding.specs.AsciiSet.{contains}
use Rattle.escapers.specs.declared.uri.TheConstants.{OUTSIDE_COMPONENT, OUTSIDE_URI}
use Rattle.soy_base.specs.Among.{lacks}
use Rattle.escapers.specs.UriComponent.{is_unreserved}
use Rattle.soy_base.specs.Characters.{ampersand}
use Rattle.escapers.specs.UriNormal.{is_normal, normal_character, uri_normal}
use Rattle.escapers.proofs.PercentBytes.{IsOutside, stands_for}

-- the two agree on all of ASCII, by computing both
component_checked : agree_below (contains OUTSIDE_COMPONENT) (λ b. not (is_unreserved b)) 128 ≡ true
component_checked = refl

-- no character above ASCII stands for itself
unreserved_ascii : (c : ℕ) → 128 ≤ c → is_unreserved c ≡ false
unreserved_ascii c high = grind (arith, nat_tests)

pub outside_component : IsOutside OUTSIDE_COMPONENT is_unreserved
outside_component = record {
  ascii = λ b low. agree_below_at (contains OUTSIDE_COMPONENT) (λ b. not (is_unreserved b)) 128 b component_checked low;
  above = unreserved_ascii;
}

normal_checked : agree_below (contains OUTSIDE_URI) (λ b. not (is_normal b)) 128 ≡ true
normal_checked = refl

normal_ascii : (c : ℕ) → 128 ≤ c → is_normal c ≡ false
normal_ascii c high = grind (arith, nat_tests)

pub outside_uri : IsOutside OUTSIDE_URI is_normal
outside_uri = record {
  ascii = λ b low. agree_below_at (contains OUTSIDE_URI) (λ b. not (is_normal b)) 128 b normal_checked low;
  above = normal_ascii;
}

-- where there is no `&`, the others stand for what they do
pub normal_without : (cs : List ℕ) → lacks (ampersand ∷ []) cs ≡ true
    → flat_map (stands_for is_normal) cs ≡ uri_normal cs
normal_without [] none = refl
normal_without (c ∷ cs) none =
    let parts = and_parts _ _ none in
    let other = (or_parts _ _ (not-true _ parts.0)).0 in
    ap (λ l. l ++ flat_map (stands_for is_normal) cs)
    (sym (cond-false (eqb c ampersand) _ (stands_for is_normal c) other))
    ∙ ap (λ l. normal_character c ++ l) (normal_without cs parts.1)
