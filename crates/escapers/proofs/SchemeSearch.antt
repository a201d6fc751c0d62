-- A text has a scheme where nothing before its first `:` ends one.
use Rattle.std.proofs.Common.{◌≡◌, ℕ, Bool, true, false, not, ◌&&◌, ◌||◌, eqb, List, [], ◌∷◌, ◌++◌, refl, ap, ◌∙◌}
use Rattle.std.specs.List.{list_any}
use Rattle.std.proofs.lemmas.Bool.{and_parts, and_right, not-true, or_parts}
use Rattle.soy_base.specs.Among.{lacks}
use Rattle.soy_base.specs.Characters.{colon}
use Rattle.escapers.specs.UriStart.{ends_scheme, has_scheme}

-- the first character of a text without a `:`
not_colon : (c : ℕ) (text : List ℕ) → lacks (colon ∷ []) (c ∷ text) ≡ true → eqb c colon ≡ false
not_colon c text none = (or_parts _ _ (not-true _ (and_parts _ _ none).0)).0

-- a text without a `:` has no scheme
pub no_colon : (text : List ℕ) → lacks (colon ∷ []) text ≡ true → has_scheme text ≡ false
no_colon [] none = refl
no_colon (c ∷ text) none =
    ap (λ t. t || (not (ends_scheme c) && has_scheme text)) (not_colon c text none)
    ∙ and_right (not (ends_scheme c)) (has_scheme text) (no_colon text (and_parts _ _ none).1)

-- one of two is left out
not_either : (a b : Bool) → (not a && not b) ≡ not (a || b)
not_either true b = refl
not_either false b = refl

-- what stands before the first `:` decides
pub before_colon : (prefix back : List ℕ) → lacks (colon ∷ []) prefix ≡ true
    → has_scheme (prefix ++ colon ∷ back) ≡ not (list_any ends_scheme prefix)
before_colon [] back none = refl
before_colon (c ∷ prefix) back none =
    ap (λ t. t || (not (ends_scheme c) && has_scheme (prefix ++ colon ∷ back))) (not_colon c prefix none)
    ∙ ap (λ t. not (ends_scheme c) && t) (before_colon prefix back (and_parts _ _ none).1)
    ∙ not_either (ends_scheme c) (list_any ends_scheme prefix)
