-- Order in the worked lines: what the checker computes for the value `c` holds for every value.
use Rattle.std.proofs.Common.{◌≡◌, ℕ, zero, suc, ◌+◌, ◌<◌, true, false, List, [], ◌∷◌, ◌++◌, length, refl, sym, subst}
use Rattle.std.proofs.Common.{◌∙◌, ◌&&◌, ap, not, length-append, arith}
use Rattle.std.proofs.lemmas.Bool.{and_from}
use Rattle.bidi_class.specs.Brackets.{bracket}
use Rattle.bidi_class.specs.Class.{bidi_class}
use Rattle.bidi_text.specs.Clean.{cleaned_text}
use Rattle.ucd_category.specs.GeneralCategory.{general_category}
use Rattle.ucd_category.specs.GeneralCategoryRows.{general_category_rows}
use Rattle.ucd_table.specs.Rows.{value_in}
use Rattle.bidi_order.specs.Levels.{line_levels}
use Rattle.bidi_order.specs.Resolve.{resolve}
use Rattle.bidi_order.specs.TwoLines.{Both, ComparedLines, HoldsCleaned, are_surrounding, is_surrounding, one_first}
use Rattle.bidi_order.specs.TwoLines.{one_labelled, one_line, one_second, other_first, other_line, other_second}
use Rattle.bidi_order.specs.TwoLines.{whole_line}
use Rattle.bidi_order.specs.TwoLines.Both.{Shared}
use Rattle.bidi_order.specs.TwoLines.Chosen.{Outside, Inside}
use Rattle.bidi_order.specs.VisualOrder.{is_left_of}
use Rattle.bidi_order.specs.WithinLimit.{is_value_initiator, is_within_limit}
use Rattle.bidi_order.specs.WorkedLines.{auto_line, override_line}
use Rattle.bidi_order.proofs.NestedLines.{cleaned-c, cleaned-abc}
use Rattle.bidi_order.proofs.SameLine.{compared_order, other-contrary}

-- where the one line has the second character left of the first, so has the other line
second_first : (base : ℕ) (c : ComparedLines) → HoldsCleaned (whole_line c) → are_surrounding c ≡ true
    → is_within_limit base (one_labelled (whole_line c)) ≡ true
    → is_left_of (line_levels base (one_line (whole_line c))) (one_first c) (one_second c) ≡ false
    → is_left_of (line_levels base (other_line (whole_line c))) (other_second c) (other_first c) ≡ true
second_first base c held surrounding within one =
    other-contrary base c surrounding ∙ ap not (sym (compared_order base c held surrounding within) ∙ one)

-- ---- `a` and the value, in the override

abbrev a_and_value : (i c : ℕ) (v w : List ℕ) → ComparedLines
a_and_value i c v w = record {
  prefix = Shared 0x2067 ∷ Shared 0x202E ∷ [];
  first = Outside 0x61;
  mid = [];
  second = Inside 0 0x2066 i [] 0x63 [] v c w;
  suffix = Shared 0x62 ∷ Shared 0x202C ∷ Shared 0x2069 ∷ [];
}

a_and_value-surrounding : (i c : ℕ) (v w : List ℕ) → is_surrounding (bidi_class c) ≡ true
    → are_surrounding (a_and_value i c v w) ≡ true
unfolding bidi_class general_category value_in general_category_rows
a_and_value-surrounding i c v w h = h

a_and_value-within : (i c : ℕ) (v w : List ℕ)
    → is_within_limit 0 (one_labelled (whole_line (a_and_value i c v w))) ≡ true
unfolding is_within_limit bidi_class general_category value_in general_category_rows
a_and_value-within i c v w = refl

a_and_value-one : (i c : ℕ) (v w : List ℕ)
    → is_left_of (line_levels 0 (one_line (whole_line (a_and_value i c v w)))) (one_first (a_and_value i c v w))
    (one_second (a_and_value i c v w)) ≡ false
unfolding is_left_of line_levels resolve bidi_class bracket general_category value_in general_category_rows
a_and_value-one i c v w = refl

pub before_value : (i c : ℕ) (v w : List ℕ) → is_value_initiator i ≡ true
    → cleaned_text (v ++ c ∷ w) ≡ v ++ c ∷ w → is_surrounding (bidi_class c) ≡ true
    → is_left_of (line_levels 0 (other_line (override_line i (v ++ c ∷ w)))) (4 + length v) 2 ≡ true
before_value i c v w initiator clean surrounding =
    let held : HoldsCleaned (whole_line (a_and_value i c v w)) = ((refl, initiator, cleaned-c, clean), tt) in
    let at : other_second (a_and_value i c v w) ≡ 4 + length v = omega arith in
    subst (λ n. is_left_of (line_levels 0 (other_line (override_line i (v ++ c ∷ w)))) n 2 ≡ true) at
    (second_first 0 (a_and_value i c v w) held (a_and_value-surrounding i c v w surrounding)
    (a_and_value-within i c v w) (a_and_value-one i c v w))

-- ---- the value and `b`, in the override

abbrev value_and_b : (i c : ℕ) (v w : List ℕ) → ComparedLines
value_and_b i c v w = record {
  prefix = Shared 0x2067 ∷ Shared 0x202E ∷ Shared 0x61 ∷ [];
  first = Inside 0 0x2066 i [] 0x63 [] v c w;
  mid = [];
  second = Outside 0x62;
  suffix = Shared 0x202C ∷ Shared 0x2069 ∷ [];
}

value_and_b-surrounding : (i c : ℕ) (v w : List ℕ) → is_surrounding (bidi_class c) ≡ true
    → are_surrounding (value_and_b i c v w) ≡ true
unfolding bidi_class general_category value_in general_category_rows
value_and_b-surrounding i c v w h = and_from (is_surrounding (bidi_class c)) true h refl

value_and_b-within : (i c : ℕ) (v w : List ℕ)
    → is_within_limit 0 (one_labelled (whole_line (value_and_b i c v w))) ≡ true
unfolding is_within_limit bidi_class general_category value_in general_category_rows
value_and_b-within i c v w = refl

value_and_b-one : (i c : ℕ) (v w : List ℕ)
    → is_left_of (line_levels 0 (one_line (whole_line (value_and_b i c v w)))) (one_first (value_and_b i c v w))
    (one_second (value_and_b i c v w)) ≡ false
unfolding is_left_of line_levels resolve bidi_class bracket general_category value_in general_category_rows
value_and_b-one i c v w = refl

pub after_value : (i c : ℕ) (v w : List ℕ) → is_value_initiator i ≡ true
    → cleaned_text (v ++ c ∷ w) ≡ v ++ c ∷ w → is_surrounding (bidi_class c) ≡ true
    → is_left_of (line_levels 0 (other_line (override_line i (v ++ c ∷ w)))) (6 + length v + length w)
    (4 + length v) ≡ true
after_value i c v w initiator clean surrounding =
    let held : HoldsCleaned (whole_line (value_and_b i c v w)) = ((refl, initiator, cleaned-c, clean), tt) in
    let at : other_first (value_and_b i c v w) ≡ 4 + length v = omega arith in
    let next : other_second (value_and_b i c v w) ≡ 6 + length v + length w =
    omega (arith, length-append w (0x2069 ∷ []), length-append (w ++ 0x2069 ∷ []) []) in
    subst (λ n. is_left_of (line_levels 0 (other_line (override_line i (v ++ c ∷ w)))) n (4 + length v) ≡ true) next
    (subst (λ n. is_left_of (line_levels 0 (other_line (override_line i (v ++ c ∷ w))))
    (other_second (value_and_b i c v w)) n ≡ true) at
    (second_first 0 (value_and_b i c v w) held (value_and_b-surrounding i c v w surrounding)
    (value_and_b-within i c v w) (value_and_b-one i c v w)))

-- ---- the value and a letter of the word, where the direction is found

abbrev value_and_letter : (i c : ℕ) (v w : List ℕ) (mid : List Both) (letter : ℕ) (suffix : List Both) → ComparedLines
value_and_letter i c v w mid letter suffix = record {
  prefix = [];
  first = Inside 0 0x2066 i (0x61 ∷ 0x62 ∷ []) 0x63 [] v c w;
  mid = mid;
  second = Outside letter;
  suffix = suffix;
}

value_and_letter-surrounding : (i c : ℕ) (v w : List ℕ) (mid : List Both) (letter : ℕ) (suffix : List Both)
    → is_surrounding (bidi_class letter) ≡ true → is_surrounding (bidi_class c) ≡ true
    → are_surrounding (value_and_letter i c v w mid letter suffix) ≡ true
unfolding bidi_class general_category value_in general_category_rows
value_and_letter-surrounding i c v w mid letter suffix l h =
    and_from (is_surrounding (bidi_class c)) (is_surrounding (bidi_class letter)
    && is_surrounding (bidi_class letter)) h
    (and_from (is_surrounding (bidi_class letter)) (is_surrounding (bidi_class letter)) l l)

-- by what is computed of the line with `c`
value_and_letter-order : (i c : ℕ) (v w : List ℕ) (mid : List Both) (letter : ℕ) (suffix : List Both)
    → is_value_initiator i ≡ true → cleaned_text (v ++ c ∷ w) ≡ v ++ c ∷ w → is_surrounding (bidi_class c) ≡ true
    → HoldsCleaned (mid ++ Shared letter ∷ suffix) → is_surrounding (bidi_class letter) ≡ true
    → is_within_limit 1 (one_labelled (whole_line (value_and_letter i c v w mid letter suffix))) ≡ true
    → is_left_of (line_levels 1 (one_line (whole_line (value_and_letter i c v w mid letter suffix)))) 3
    (5 + length (one_line mid ++ [])) ≡ false
    → is_left_of (line_levels 1 (other_line (whole_line (value_and_letter i c v w mid letter suffix))))
    (3 + length v + length w + length (other_line mid)) (1 + length v) ≡ true
value_and_letter-order i c v w mid letter suffix initiator clean surrounding held letters within one =
    let lines : ComparedLines = value_and_letter i c v w mid letter suffix in
    let line : List ℕ = other_line (whole_line lines) in
    let all : HoldsCleaned (whole_line lines) = ((refl, initiator, cleaned-abc, clean), held) in
    let one_at : one_second lines ≡ 5 + length (one_line mid ++ []) = omega arith in
    let first_at : other_first lines ≡ 1 + length v = omega arith in
    let second_at : other_second lines ≡ 3 + length v + length w + length (other_line mid) =
    omega (
      arith,
      length-append (w ++ 0x2069 ∷ []) (other_line mid ++ []),
      length-append w (0x2069 ∷ []),
      length-append (other_line mid) [],
    ) in
    subst (λ n. is_left_of (line_levels 1 line) n (1 + length v) ≡ true) second_at
    (subst (λ n. is_left_of (line_levels 1 line) (other_second lines) n ≡ true) first_at
    (second_first 1 lines all (value_and_letter-surrounding i c v w mid letter suffix letters surrounding) within
    (subst (λ n. is_left_of (line_levels 1 (one_line (whole_line lines))) 3 n ≡ false) (sym one_at) one)))

letter_surrounding : (is_surrounding (bidi_class 0x5E9) ≡ true) × (is_surrounding (bidi_class 0x5DC) ≡ true)
    × (is_surrounding (bidi_class 0x5D5) ≡ true) × (is_surrounding (bidi_class 0x5DD) ≡ true)
unfolding bidi_class general_category value_in general_category_rows
letter_surrounding = (refl, refl, refl, refl)

auto-within : (i : ℕ) (v : List ℕ) → is_within_limit 1 (one_labelled (auto_line i v)) ≡ true
unfolding is_within_limit bidi_class general_category value_in general_category_rows
auto-within i v = refl

auto-order : (i : ℕ) (v : List ℕ)
    → (is_left_of (line_levels 1 (one_line (auto_line i v))) 3 6 ≡ false)
    × (is_left_of (line_levels 1 (one_line (auto_line i v))) 3 7 ≡ false)
    × (is_left_of (line_levels 1 (one_line (auto_line i v))) 3 8 ≡ false)
    × (is_left_of (line_levels 1 (one_line (auto_line i v))) 3 9 ≡ false)
unfolding is_left_of line_levels resolve bidi_class bracket general_category value_in general_category_rows
auto-order i v = (refl, refl, refl, refl)

pub before_word : (i c : ℕ) (v w : List ℕ) (n : ℕ) → n < 4 → is_value_initiator i ≡ true
    → cleaned_text (v ++ c ∷ w) ≡ v ++ c ∷ w → is_surrounding (bidi_class c) ≡ true
    → is_left_of (line_levels 1 (other_line (auto_line i (v ++ c ∷ w)))) (4 + length v + length w + n)
    (1 + length v) ≡ true
before_word i c v w zero small initiator clean surrounding =
    let at : 3 + length v + length w + 1 ≡ 4 + length v + length w + 0 = omega arith in
    subst (λ n. is_left_of (line_levels 1 (other_line (auto_line i (v ++ c ∷ w)))) n (1 + length v) ≡ true) at
    (value_and_letter-order i c v w (Shared 0x20 ∷ []) 0x5E9 (Shared 0x5DC ∷ Shared 0x5D5 ∷ Shared 0x5DD ∷ [])
    initiator clean surrounding tt letter_surrounding.0 (auto-within i (v ++ c ∷ w)) (auto-order i (v ++ c ∷ w)).0)
before_word i c v w (suc zero) small initiator clean surrounding =
    let at : 3 + length v + length w + 2 ≡ 4 + length v + length w + 1 = omega arith in
    subst (λ n. is_left_of (line_levels 1 (other_line (auto_line i (v ++ c ∷ w)))) n (1 + length v) ≡ true) at
    (value_and_letter-order i c v w (Shared 0x20 ∷ Shared 0x5E9 ∷ []) 0x5DC (Shared 0x5D5 ∷ Shared 0x5DD ∷ [])
    initiator clean surrounding tt letter_surrounding.1 (auto-within i (v ++ c ∷ w)) (auto-order i (v ++ c ∷ w)).1)
before_word i c v w (suc (suc zero)) small initiator clean surrounding =
    let at : 3 + length v + length w + 3 ≡ 4 + length v + length w + 2 = omega arith in
    subst (λ n. is_left_of (line_levels 1 (other_line (auto_line i (v ++ c ∷ w)))) n (1 + length v) ≡ true) at
    (value_and_letter-order i c v w (Shared 0x20 ∷ Shared 0x5E9 ∷ Shared 0x5DC ∷ []) 0x5D5 (Shared 0x5DD ∷ [])
    initiator clean surrounding tt letter_surrounding.2 (auto-within i (v ++ c ∷ w)) (auto-order i (v ++ c ∷ w)).2)
before_word i c v w (suc (suc (suc zero))) small initiator clean surrounding =
    let at : 3 + length v + length w + 4 ≡ 4 + length v + length w + 3 = omega arith in
    subst (λ n. is_left_of (line_levels 1 (other_line (auto_line i (v ++ c ∷ w)))) n (1 + length v) ≡ true) at
    (value_and_letter-order i c v w (Shared 0x20 ∷ Shared 0x5E9 ∷ Shared 0x5DC ∷ Shared 0x5D5 ∷ []) 0x5DD []
    initiator clean surrounding tt letter_surrounding.3 (auto-within i (v ++ c ∷ w)) (auto-order i (v ++ c ∷ w)).3)
before_word i c v w (suc (suc (suc (suc n)))) small initiator clean surrounding = absurd (omega arith)
