-- A text as the start of a URI keeps its scheme, or has none still, once it is escaped.
use Rattle.std.proofs.Common.{◌≡◌, ℕ, ◌/◌, ◌%◌, Bool, true, false, not, ◌&&◌, ◌||◌, eqb, List, [], ◌∷◌, ◌++◌, refl, sym}
use Rattle.std.proofs.Common.{ap, ◌∙◌, subst, inl, inr, ⊎_elim, if◌then◌else◌, codes, encode_utf8, arith}
use Rattle.std.specs.Char.{to_ascii_lowercase}
use Rattle.std.specs.List.{flat_map, list_all, list_any}
use Rattle.std.proofs.lemmas.Bool.{and_from, and_parts, cases_Bool, cond-true, cond-false, eqb-true, not-true, or_cases}
use Rattle.std.proofs.lemmas.Bool.{or_left, or_right}
use Rattle.std.proofs.lemmas.Bool.Decides.{nat_tests}
use Rattle.escapers.specs.IsUriStartText.{IsUriStartText}
use Rattle.escapers.specs.PercentEncoded.{upper_digit, encoded_byte, percent_encoded}
use Rattle.soy_base.specs.Characters.{ampersand, colon}
use Rattle.escapers.specs.UriNormal.{is_normal, normal_character, uri_normal}
use Rattle.escapers.specs.UriStart.{allowed_schemes, begins_in_any_case, ends_scheme, has_allowed_scheme, has_scheme}
use Rattle.escapers.specs.UriStart.{invalid_uri, is_scheme_character, may_start_uri, uri_start}

-- ---- a text without a scheme

-- the character neither ends a scheme nor what stands before it
abbrev is_inert : ℕ → Bool
is_inert c = not (eqb c colon) && not (ends_scheme c)

-- the rest decides after such a character
past_inert : (c : ℕ) (rest : List ℕ) → is_inert c ≡ true → has_scheme (c ∷ rest) ≡ has_scheme rest
past_inert c rest inert = grind (arith, nat_tests)

-- a digit is such a character
digit_inert : (n : ℕ) → is_inert (upper_digit n) ≡ true
digit_inert n = grind (arith, nat_tests)

-- so the rest decides after encoded bytes
past_bytes : (bs rest : List ℕ) → has_scheme (flat_map encoded_byte bs ++ rest) ≡ has_scheme rest
past_bytes [] rest = refl
past_bytes (b ∷ bs) rest =
    let after = flat_map encoded_byte bs ++ rest in
    past_inert (upper_digit (b / 16)) (upper_digit (b % 16) ∷ after) (digit_inert (b / 16))
    ∙ past_inert (upper_digit (b % 16)) after (digit_inert (b % 16))
    ∙ past_bytes bs rest

-- and so is a character that is encoded
other_inert : (c : ℕ) → eqb c ampersand ≡ false → is_normal c ≡ false → is_inert c ≡ true
other_inert c not_ampersand not_normal = grind (arith, nat_tests)

-- what a character makes of the rest is what its escaped form makes
module _ (c : ℕ) (text : List ℕ) (same : has_scheme (uri_normal text) ≡ has_scheme text) where
  at_ampersand : eqb c ampersand ≡ true → has_scheme (normal_character c ++ uri_normal text) ≡ has_scheme (c ∷ text)
  at_ampersand is =
      ap (λ l. has_scheme (l ++ uri_normal text)) (cond-true (eqb c ampersand) _ _ is)
      ∙ sym (ap (λ d. has_scheme (d ∷ text)) (eqb-true c ampersand is))

  at_other : eqb c ampersand ≡ false → has_scheme (normal_character c ++ uri_normal text) ≡ has_scheme (c ∷ text)
  at_other other =
      ap (λ l. has_scheme (l ++ uri_normal text))
      (cond-false (eqb c ampersand) (codes "&amp;") (if is_normal c then c ∷ [] else percent_encoded c) other)
      ∙ ⊎_elim
      (λ normal.
      ap (λ l. has_scheme (l ++ uri_normal text)) (cond-true (is_normal c) (c ∷ []) (percent_encoded c) normal)
      ∙ ap (λ t. eqb c colon || (not (ends_scheme c) && t)) same)
      (λ not_normal.
      ap (λ l. has_scheme (l ++ uri_normal text)) (cond-false (is_normal c) (c ∷ []) (percent_encoded c) not_normal)
      ∙ past_bytes (encode_utf8 c) (uri_normal text) ∙ same ∙ sym (past_inert c text (other_inert c other not_normal)))
      (cases_Bool (is_normal c))

pub has_scheme-uri_normal : (text : List ℕ) → has_scheme (uri_normal text) ≡ has_scheme text
has_scheme-uri_normal [] = refl
has_scheme-uri_normal (c ∷ text) =
    ⊎_elim (at_ampersand c text (has_scheme-uri_normal text)) (at_other c text (has_scheme-uri_normal text))
    (cases_Bool (eqb c ampersand))

-- ---- a text with an allowed scheme

-- a character of a scheme, in either case, stands for itself
scheme_normal : (c d : ℕ) → is_scheme_character d ≡ true → to_ascii_lowercase c ≡ d
    → (eqb c ampersand ≡ false) × (is_normal c ≡ true)
scheme_normal c d scheme lower = grind (arith, nat_tests)

-- so a scheme at the prefix stays there
begins_normal : (prefix text : List ℕ) → list_all is_scheme_character prefix ≡ true
    → begins_in_any_case prefix text ≡ true → begins_in_any_case prefix (uri_normal text) ≡ true
begins_normal [] text are begins = refl
begins_normal (d ∷ prefix) [] are begins = begins
begins_normal (d ∷ prefix) (c ∷ text) are begins =
    let scheme = and_parts _ _ are in
    let parts = and_parts _ _ begins in
    let facts = scheme_normal c d scheme.0 (eqb-true (to_ascii_lowercase c) d parts.0) in
    let stays : normal_character c ≡ c ∷ [] = cond-false (eqb c ampersand) _ _ facts.0
    ∙ cond-true (is_normal c) _ (percent_encoded c) facts.1 in
    ap (λ l. begins_in_any_case (d ∷ prefix) (l ++ uri_normal text)) stays
    ∙ and_from _ _ parts.0 (begins_normal prefix text scheme.1 parts.1)

-- whichever of the schemes it is
any_normal : (schemes : List (List ℕ)) (text : List ℕ) → list_all (list_all is_scheme_character) schemes ≡ true
    → list_any (λ scheme. begins_in_any_case scheme text) schemes ≡ true
    → list_any (λ scheme. begins_in_any_case scheme (uri_normal text)) schemes ≡ true
any_normal [] text are one = one
any_normal (scheme ∷ schemes) text are one =
    let parts = and_parts _ _ are in
    ⊎_elim
    (λ here. or_left _ _ (begins_normal scheme text parts.0 here))
    (λ later. or_right _ _ (any_normal schemes text parts.1 later))
    (or_cases (begins_in_any_case scheme text) (list_any (λ scheme. begins_in_any_case scheme text) schemes) one)

-- ---- both

passed : (text : List ℕ) → may_start_uri text ≡ true → IsUriStartText (uri_normal text)
passed text may =
    ⊎_elim
    (λ allowed. inr (inl (any_normal allowed_schemes text refl allowed)))
    (λ none. inr (inr (has_scheme-uri_normal text ∙ not-true (has_scheme text) none)))
    (or_cases (has_allowed_scheme text) (not (has_scheme text)) may)

pub start_text : (text : List ℕ) → IsUriStartText (uri_start text)
start_text text =
    ⊎_elim
    (λ may. subst IsUriStartText (sym (cond-true (may_start_uri text) (uri_normal text) invalid_uri may))
    (passed text may))
    (λ may_not. subst IsUriStartText (sym (cond-false (may_start_uri text) (uri_normal text) invalid_uri may_not))
    (inl refl))
    (cases_Bool (may_start_uri text))
