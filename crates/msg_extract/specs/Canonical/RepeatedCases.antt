-- Whether no plural or select of a message has two cases of one key. Of two such cases the first is read alone, so a
-- canonical text says more than its parts. Example: `{case 1}a{case 1}b` is repeated.
use Rattle.std.specs.Prelude.{ℤ, ℕ, Bool, true, not, ◌&&◌, List, [], ◌∷◌, bytes_eq}
use Rattle.std.specs.List.{list_any}
use Rattle.soy_tree.specs.Nodes.{MessageBody, PluralCases, SelectCases, Parts, Plural, Select, no_plural_case}
use Rattle.soy_tree.specs.Nodes.{plural_case, no_select_case, select_case}
use Rattle.soy_rules.specs.IcuText.{is_int_among}

abbrev mutual
  pub has_distinct_cases : MessageBody → Bool
  has_distinct_cases (Parts ns) = true
  has_distinct_cases (Plural e offset cases other) = are_distinct_plural_cases [] cases && has_distinct_cases other
  has_distinct_cases (Select e cases other) = are_distinct_select_cases [] cases && has_distinct_cases other

  -- no number is among those before it
  pub are_distinct_plural_cases : List ℤ → PluralCases → Bool
  are_distinct_plural_cases before no_plural_case = true
  are_distinct_plural_cases before (plural_case n body cases) =
      not (is_int_among n before) && has_distinct_cases body && are_distinct_plural_cases (n ∷ before) cases

  -- no word is among those before it
  pub are_distinct_select_cases : List (List ℕ) → SelectCases → Bool
  are_distinct_select_cases before no_select_case = true
  are_distinct_select_cases before (select_case word body cases) =
      not (list_any (bytes_eq word) before) && has_distinct_cases body
      && are_distinct_select_cases (word ∷ before) cases
