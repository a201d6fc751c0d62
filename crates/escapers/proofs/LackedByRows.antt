-- Characters that have rows, and are in no row's text, are in no text escaped by the rows.
use Rattle.std.proofs.Common.{◌≡◌, ℕ, Bool, true, false, not, ◌&&◌, eqb, List, [], ◌∷◌, ◌++◌, None, refl, ap, ◌∙◌}
use Rattle.std.proofs.Common.{⊎_elim}
use Rattle.std.specs.Prelude.{is_some}
use Rattle.std.specs.List.{AllByRecursion, list_all}
use Rattle.std.proofs.lemmas.Bool.{and_from, and_parts, both_ways, eqb-true, false_from_ne_true, or_cases}
use Rattle.esc_table.specs.EscapedText.{escaped_text}
use Rattle.esc_table.specs.RowText.{row_text}
use Rattle.soy_base.specs.Among.{lacks}
use Rattle.soy_base.specs.Among.{is_one_of}
use Rattle.escapers.proofs.KeptByRows.{Keeps, escaped_keeps}

-- a test that holds of each of these holds of any one of them
pub of_one : (test : ℕ → Bool) (these : List ℕ) (c : ℕ) → list_all test these ≡ true → is_one_of these c ≡ true
    → test c ≡ true
of_one test [] c each one = absurd (both_ways false refl one)
of_one test (d ∷ these) c each one =
    let parts = and_parts _ _ each in
    ⊎_elim
    (λ same. ap test (eqb-true c d same) ∙ parts.0)
    (λ later. of_one test these c parts.1 later)
    (or_cases (eqb c d) (is_one_of these c) one)

-- two texts that lack these make one that does
pub lacks-append : (these prefix rest : List ℕ) → lacks these prefix ≡ true → lacks these rest ≡ true
    → lacks these (prefix ++ rest) ≡ true
lacks-append these [] rest in_prefix in_rest = in_rest
lacks-append these (c ∷ prefix) rest in_prefix in_rest =
    let parts = and_parts _ _ in_prefix in
    and_from _ _ parts.0 (lacks-append these prefix rest parts.1 in_rest)

module _ (these : List ℕ) (rows : List (ℕ × List ℕ)) (have_rows : list_all (λ d. is_some (row_text rows d)) these
    ≡ true) where
  -- a character without a row is none of these
  plain : (c : ℕ) → row_text rows c ≡ None → is_one_of these c ≡ false
  plain c none =
      false_from_ne_true (is_one_of these c) (λ one. both_ways (is_some (row_text rows c)) (ap is_some none)
      (of_one (λ d. is_some (row_text rows d)) these c have_rows one))

  -- a row's text that lacks these may be put before a text
  each_row : (some : List (ℕ × List ℕ)) → list_all (λ row. lacks these row.1) some ≡ true
      → AllByRecursion (λ row. Keeps (λ text. lacks these text ≡ true) row.1) some
  each_row [] lacking = tt
  each_row (row ∷ some) lacking =
      let parts = and_parts _ _ lacking in
      (λ rest in_rest. lacks-append these row.1 rest parts.0 in_rest, each_row some parts.1)

  -- so no escaped text has them
  pub escaped_lacks : list_all (λ row. lacks these row.1) rows ≡ true → (text : List ℕ)
      → lacks these (escaped_text rows text) ≡ true
  escaped_lacks lacking =
      escaped_keeps (λ text. lacks these text ≡ true) rows (each_row rows lacking)
      (λ c none rest in_rest. ap (λ t. not t && lacks these rest) (plain c none) ∙ in_rest) refl
