-- What a search among rows in ascending order finds.
use Rattle.std.proofs.Common.{◌≡◌, ℕ, zero, suc, ◌<◌, ◌≤◌, ◌≢◌, List, [], ◌∷◌, length, get_or, None, Some, Ok, Err}
use Rattle.std.proofs.Common.{IsTrue, Bool, true, false, ◌&&◌, nat_lt, refl, sym, ap, arith}
use Rattle.std.specs.Str.{chars}
use Rattle.std.specs.List.Sorted.{IsBinarySearchResult, IsNonDecreasingBy}
use Rattle.std.specs.Ordering.{nat_cmp, ordering_index}
use Rattle.std.proofs.lemmas.Cmp.{ranked}
use Rattle.std.proofs.lemmas.List.Sorted.{IsNonDecreasingBy-from_default}
use Rattle.std.proofs.lemmas.Bool.Decides.{nat_tests}
use Rattle.esc_table.specs.declared.table.Row.{Row}
use mathlib.Core.Bool.{false≢true}
use Rattle.esc_table.specs.Ascends.{Ascends, is_ascending}
use Rattle.esc_table.specs.RowPairs.{row_pairs}
use Rattle.esc_table.specs.RowText.{row_text}

-- no row before place i has the character
abbrev pub NoneBefore : Row → List Row → ℕ → ℕ → Type 0
NoneBefore d rows c i = (j : ℕ) → j < i → (get_or rows j d).from ≢ c

-- a character that no row has has no text
pub row_text_absent : (d : Row) (rows : List Row) (c : ℕ) → NoneBefore d rows c (length rows)
    → row_text (row_pairs rows) c ≡ None
row_text_absent d [] c none = refl
row_text_absent d (row ∷ rows) c none =
    grind (arith, nat_tests, none 0 (omega arith), row_text_absent d rows c (λ j lt. none (suc j) (omega arith)))

-- the first row that has the character gives the text
pub row_text_present : (d : Row) (rows : List Row) (c i : ℕ) → i < length rows → (get_or rows i d).from ≡ c
    → NoneBefore d rows c i →
    row_text (row_pairs rows) c ≡ Some (chars (get_or rows i d).to.now)
row_text_present d [] c i lt same none = absurd (omega (arith, lt))
row_text_present d (row ∷ rows) c zero lt same none = grind (arith, nat_tests, same)
row_text_present d (row ∷ rows) c (suc i) lt same none =
    grind (
      arith,
      nat_tests,
      none 0 (omega arith),
      row_text_present d rows c i (omega arith) same
          (λ j below. none (suc j) (omega arith)),
    )

-- each half of a test that holds
first_holds : (a b : Bool) → IsTrue (a && b) → IsTrue a
first_holds true b both = refl
first_holds false b both = both

second_holds : (a b : Bool) → IsTrue (a && b) → IsTrue b
second_holds true b both = both
second_holds false b both = absurd (false≢true both)

-- the first two characters of rows that ascend, and what follows the first row
next_above : (row next : Row) (rows : List Row) → Ascends (row_pairs (row ∷ next ∷ rows)) → row.from < next.from
next_above row next rows ascends =
    let above = first_holds (nat_lt row.from next.from) (is_ascending (row_pairs (next ∷ rows))) ascends in
    grind (arith, nat_tests, above)

rest_ascends : (row next : Row) (rows : List Row) → Ascends (row_pairs (row ∷ next ∷ rows))
    → Ascends (row_pairs (next ∷ rows))
rest_ascends row next rows ascends =
    second_holds (nat_lt row.from next.from) (is_ascending (row_pairs (next ∷ rows))) ascends

-- the characters rise along the rows
pub characters_rise : (d : Row) (rows : List Row) → Ascends (row_pairs rows) → (i j : ℕ) → i < j → j < length rows →
    (get_or rows i d).from < (get_or rows j d).from
characters_rise d [] ascends i j lt within = absurd (omega (arith, within))
characters_rise d (row ∷ []) ascends i j lt within = absurd (omega (arith, within))
characters_rise d (row ∷ next ∷ rows) ascends zero zero lt within = absurd (omega (arith, lt))
characters_rise d (row ∷ next ∷ rows) ascends (suc i) zero lt within = absurd (omega (arith, lt))
characters_rise d (row ∷ next ∷ rows) ascends zero (suc zero) lt within = next_above row next rows ascends
characters_rise d (row ∷ next ∷ rows) ascends zero (suc (suc j)) lt within =
    let above = next_above row next rows ascends in
    let later = characters_rise d (next ∷ rows) (rest_ascends row next rows ascends) zero (suc j) (omega arith)
    (omega (arith, within)) in
    omega (arith, above, later)
characters_rise d (row ∷ next ∷ rows) ascends (suc i) (suc j) lt within =
    characters_rise d (next ∷ rows) (rest_ascends row next rows ascends) i j (omega (arith, lt)) (omega (arith, within))

module _ (d : Row) (rows : List Row) (ascends : Ascends (row_pairs rows)) (c : ℕ) where
  -- the comparisons with the character rise along the rows, as a binary search asks
  comparisons_rise : IsNonDecreasingBy (λ row. ordering_index (nat_cmp row.from c)) rows
  comparisons_rise = IsNonDecreasingBy-from_default (λ row. ordering_index (nat_cmp row.from c)) rows d
      (λ i j le within.
      let rise : (get_or rows i d).from ≤ (get_or rows j d).from =
      grind (arith, characters_rise d rows ascends i j, λ (same : i ≡ j). ap (λ k. (get_or rows k d).from) same) in
      grind (arith, nat_tests))

  -- the row that a binary search finds gives the text
  pub searched_text : (at : ℕ) → at < length rows → IsBinarySearchResult (λ row. nat_cmp row.from c) rows (Ok at) →
      Some (chars (get_or rows at d).to.now) ≡ row_text (row_pairs rows) c
  searched_text at within equal =
      let same : (get_or rows at d).from ≡ c = ranked _ c _ (sym (equal d)) in
      sym (row_text_present d rows c at within same
      (λ j below here. omega (arith, characters_rise d rows ascends j at below within, same, here)))

  -- where it finds none, no row has the character
  pub searched_none : (at : ℕ) → at ≤ length rows → IsBinarySearchResult (λ row. nat_cmp row.from c) rows (Err at) →
      None ≡ row_text (row_pairs rows) c
  searched_none at within parted =
      sym (row_text_absent d rows c (λ j below here.
      let before : j < at → (get_or rows j d).from < c =
      λ lt. ranked _ c _ (sym ((parted comparisons_rise).0 j d (omega arith) lt)) in
      let after : at ≤ j → c < (get_or rows j d).from =
      λ le. ranked _ c _ (sym ((parted comparisons_rise).1 j d le below)) in
      grind (arith, before, after, here)))
