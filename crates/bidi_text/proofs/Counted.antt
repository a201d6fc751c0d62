-- What was counted of a text's words and what is still to count is what the whole text counts.
use Rattle.std.proofs.Common.{◌≡◌, ℕ, ◌+◌, ◌≤◌, Bool, false, ◌||◌, List, [], ◌∷◌, ◌++◌, length, map, count_by, refl}
use Rattle.std.proofs.Common.{sym, ap, subst, ◌∙◌, ◌<◌, if◌then◌else◌, cond, arith}
use Rattle.std.specs.Char.{is_whitespace}
use Rattle.std.specs.List.{list_any}
use Rattle.soy_base.specs.Cuts.{after_while}
use Rattle.soy_base.specs.declared.direction.Dir.{Dir}
use Rattle.bidi_text.specs.Estimate.{WordKind, counts_in_total, counts_right_to_left, direction_by, ended_word}
use Rattle.bidi_text.specs.Estimate.{estimated_direction, is_weak, word_kind, word_kinds, words_of}
use Rattle.bidi_text.specs.Estimate.WordKind.{RightToLeft, LeftToRight, Weak, Neutral}
use Rattle.std.proofs.lemmas.List.Sums.{sum_by-cons}
use Rattle.bidi_text.proofs.WordCuts.{fewer, is_solid, others, word, words_cut}
use Rattle.bidi_text.proofs.WordKinds.{kind-nothing}
use Rattle.bidi_text.proofs.Flags.{or_assoc, or-false}

-- with the characters that are left of a text, which has at most so many
pub record Counted (right_to_left total : ℕ) (weak : Bool) (rest text : List ℕ) (most : ℕ) : Type 0 where
  pub right_to_left_words : right_to_left + count_by counts_right_to_left (word_kinds rest)
      ≡ count_by counts_right_to_left (word_kinds text)
  pub total_words : total + count_by counts_in_total (word_kinds rest) ≡ count_by counts_in_total (word_kinds text)
  pub weak_words : (weak || list_any is_weak (word_kinds rest)) ≡ list_any is_weak (word_kinds text)
  pub ordered : right_to_left ≤ total
  pub fits : total + length rest ≤ most

-- the words of a text, of which the first may be empty and is counted then as well
count_first : (test : WordKind → Bool) (first : List ℕ) (words : List (List ℕ)) → test (word_kind []) ≡ false
    → count_by test (map word_kind (ended_word first ++ words))
    ≡ (if test (word_kind first) then 1 else 0) + count_by test (map word_kind words)
count_first test [] words none = omega (arith, ap {B = ℕ} (λ b. cond b 1 0) none)
count_first test (c ∷ cs) words none =
    sum_by-cons (λ (k : WordKind). cond (test k) 1 0) (word_kind (c ∷ cs)) (map word_kind words)

any_first : (first : List ℕ) (words : List (List ℕ)) → is_weak (word_kind []) ≡ false
    → list_any is_weak (map word_kind (ended_word first ++ words))
    ≡ (is_weak (word_kind first) || list_any is_weak (map word_kind words))
any_first [] words none = sym (ap (λ b. b || list_any is_weak (map word_kind words)) none)
any_first (c ∷ cs) words none = refl

-- one more word that passes a test
one_more : (test : WordKind → Bool) (text : List ℕ) (n m whole : ℕ) → test (word_kind []) ≡ false
    → m ≡ n + (if test (word_kind (word text)) then 1 else 0)
    → n + count_by test (word_kinds text) ≡ whole → m + count_by test (word_kinds (others text)) ≡ whole
one_more test text n m whole none more before =
    omega (
      arith,
      ap (λ ws. count_by test (map word_kind ws)) (words_cut text),
      count_first test (word text) (words_of (others text)) none,
    )

-- a word from right to left is in the total, which grows by one at most
counts_within : (kind : WordKind)
    → ((if counts_right_to_left kind then 1 else 0) ≤ (if counts_in_total kind then 1 else 0)) ×
    ((if counts_in_total kind then 1 else 0) ≤ 1)
counts_within RightToLeft = (omega arith, omega arith)
counts_within LeftToRight = (omega arith, omega arith)
counts_within Weak = (omega arith, omega arith)
counts_within Neutral = (omega arith, omega arith)

-- one more word of which one may be weak
one_more_weak : (text : List ℕ) (b d whole : Bool) → d ≡ (b || is_weak (word_kind (word text)))
    → (b || list_any is_weak (word_kinds text)) ≡ whole
    → (d || list_any is_weak (word_kinds (others text))) ≡ whole
one_more_weak text b d whole more before =
    let kinds : List WordKind = word_kinds (others text) in
    ap (λ e. e || list_any is_weak kinds) more
    ∙ or_assoc b (is_weak (word_kind (word text))) (list_any is_weak kinds)
    ∙ ap (λ e. b || e) (sym (ap (λ ws. list_any is_weak (map word_kind ws)) (words_cut text)
    ∙ any_first (word text) (words_of (others text)) (ap is_weak kind-nothing)))
    ∙ before

-- one more word counted
pub counted_next : (right_to_left total right_to_left' total' : ℕ) (weak weak' : Bool) (rest text : List ℕ) (most : ℕ)
    → 0 < length rest → Counted right_to_left total weak rest text most
    → right_to_left' ≡ right_to_left + (if counts_right_to_left (word_kind (word rest)) then 1 else 0)
    → total' ≡ total + (if counts_in_total (word_kind (word rest)) then 1 else 0)
    → weak' ≡ (weak || is_weak (word_kind (word rest)))
    → Counted right_to_left' total' weak' (others rest) text most
counted_next right_to_left total right_to_left' total' weak weak' rest text most some counted rtl_more total_more
    weak_more =
    record {
      right_to_left_words = one_more counts_right_to_left rest right_to_left right_to_left' _
          (ap counts_right_to_left kind-nothing) rtl_more counted.right_to_left_words;
      total_words = one_more counts_in_total rest total total' _ (ap counts_in_total kind-nothing) total_more
          counted.total_words;
      weak_words = one_more_weak rest weak weak' _ weak_more counted.weak_words;
      ordered = omega (arith, (counts_within (word_kind (word rest))).0, counted.ordered, rtl_more, total_more);
      fits = omega (arith, (counts_within (word_kind (word rest))).1, fewer rest some, counted.fits, total_more);
    }

-- the same by what two cuts say
pub counted_on : {right_to_left total right_to_left' total' most : ℕ} {weak weak' : Bool} {rest text : List ℕ}
    (first behind after : List ℕ) → 0 < length rest → Counted right_to_left total weak rest text most
    → first ≡ word rest → behind ≡ after_while is_solid rest → after ≡ after_while is_whitespace behind
    → right_to_left' ≡ right_to_left + (if counts_right_to_left (word_kind first) then 1 else 0)
    → total' ≡ total + (if counts_in_total (word_kind first) then 1 else 0)
    → weak' ≡ (weak || is_weak (word_kind first))
    → Counted right_to_left' total' weak' after text most
counted_on {right_to_left} {total} {right_to_left'} {total'} {most} {weak} {weak'} {rest} {text} first behind after some
    counted first_is behind_is after_is rtl_more total_more weak_more =
    subst (λ cs. Counted right_to_left' total' weak' cs text most)
    (sym (after_is ∙ ap (after_while is_whitespace) behind_is))
    (counted_next right_to_left total right_to_left' total' weak weak' rest text most some counted
    (rtl_more ∙ ap (λ w. right_to_left + (if counts_right_to_left (word_kind w) then 1 else 0)) first_is)
    (total_more ∙ ap (λ w. total + (if counts_in_total (word_kind w) then 1 else 0)) first_is)
    (weak_more ∙ ap (λ w. weak || is_weak (word_kind w)) first_is))

-- nothing counted of the whole text
pub counted_start : (text : List ℕ) (most : ℕ) → length text ≤ most → Counted 0 0 false text text most
counted_start text most fits = record {
  right_to_left_words = omega arith;
  total_words = omega arith;
  weak_words = refl;
  ordered = omega arith;
  fits = omega (arith, fits);
}

-- the direction where no word is left
pub counted_end : (right_to_left total : ℕ) (weak : Bool) (rest text : List ℕ) (most : ℕ) (context : Dir)
    → rest ≡ [] → Counted right_to_left total weak rest text most
    → direction_by right_to_left total weak context ≡ estimated_direction text context
counted_end right_to_left total weak [] text most context none counted =
    let rtl_is : right_to_left ≡ count_by counts_right_to_left (word_kinds text) =
    omega (arith, counted.right_to_left_words) in
    let total_is : total ≡ count_by counts_in_total (word_kinds text) = omega (arith, counted.total_words) in
    let weak_is : weak ≡ list_any is_weak (word_kinds text) = sym (or-false weak) ∙ counted.weak_words in
    ap (λ n. direction_by n total weak context) rtl_is
    ∙ ap (λ n. direction_by (count_by counts_right_to_left (word_kinds text)) n weak context) total_is
    ∙ ap (λ w. direction_by (count_by counts_right_to_left (word_kinds text))
    (count_by counts_in_total (word_kinds text)) w context) weak_is
counted_end right_to_left total weak (c ∷ cs) text most context none counted = cc
