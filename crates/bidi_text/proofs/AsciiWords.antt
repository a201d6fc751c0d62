-- The direction of a text of ASCII goes by whether it has a letter or a digit.
use Rattle.std.proofs.Common.{◌≡◌, ℕ, suc, ◌+◌, ◌*◌, ◌<◌, Bool, true, false, ◌&&◌, ◌||◌, nat_lt, nat_eq, List, []}
use Rattle.std.proofs.Common.{◌∷◌, ◌++◌, codes, map, count_by, find, refl, sym, ap, ◌∙◌, ◌⊎◌, inl, inr, cond, Some}
use Rattle.std.proofs.Common.{if◌then◌else◌, length, take, arith}
use Rattle.std.specs.Char.{is_ascii_alphanumeric, is_ascii_digit, is_whitespace}
use Rattle.std.specs.List.{list_all, list_any, starts_with}
use Rattle.std.specs.Option.{option_map_or}
use Rattle.std.specs.Str.{IsAscii, chars}
use Rattle.std.proofs.lemmas.Bool.{agree_below_at, and_from, and_parts, cases_Bool, cond-false, cond-true, eqb-true}
use Rattle.std.proofs.lemmas.Bool.{true≢false}
use Rattle.std.proofs.lemmas.Bool.Decides.{nat_tests}
use Rattle.std.proofs.lemmas.List.Folds.{list_all-append, list_any-append}
use Rattle.std.proofs.lemmas.List.Sums.{sum_by-cons}
use Rattle.std.proofs.lemmas.Str.{chars-IsAscii}
use lib.Pointwise.{pointwise}
use Rattle.soy_base.specs.declared.direction.Dir.{Dir}
use Rattle.soy_base.specs.declared.direction.Dir.TheVariants.{Ltr, Rtl}
use Rattle.unicode.specs.Rows.{value_in}
use Rattle.ucd_category.specs.GeneralCategory.{general_category}
use Rattle.ucd_category.specs.GeneralCategoryRows.{general_category_rows}
use Rattle.bidi_class.specs.Class.{bidi_class}
use Rattle.bidi_text.specs.Estimate.{WordKind, counts_in_total, counts_right_to_left, direction_by, ended_word}
use Rattle.bidi_text.specs.Estimate.{estimated_direction, first_strong, is_address, is_left_to_right, is_right_to_left}
use Rattle.bidi_text.specs.Estimate.{is_strong, is_weak, word_kind, word_kinds, words_after}
use Rattle.bidi_text.specs.Estimate.WordKind.{LeftToRight, Neutral, RightToLeft, Weak}
use Rattle.bidi_text.proofs.Flags.{or-false, or_assoc}

abbrev is_low : ℕ → Bool
is_low c = nat_lt c 128

abbrev is_alphanumeric : ℕ → Bool
is_alphanumeric = is_ascii_alphanumeric

-- the character is from left to right
abbrev is_forward : ℕ → Bool
is_forward c = is_left_to_right (bidi_class c)

-- ---- one character, by the table of ASCII

low_below : (c : ℕ) → is_low c ≡ true → c < 128
low_below c low = grind (arith, nat_tests, low)

backward_class : (c : ℕ) → c < 128 → is_right_to_left (bidi_class c) ≡ false
unfolding bidi_class general_category general_category_rows value_in
backward_class c low = agree_below_at (λ n. is_right_to_left (bidi_class n)) (λ n. false) 128 c refl low

telling_class : (c : ℕ) → c < 128 → (is_forward c || is_ascii_digit c) ≡ is_alphanumeric c
unfolding bidi_class general_category general_category_rows value_in
telling_class c low = agree_below_at (λ n. is_forward n || is_ascii_digit n) is_alphanumeric 128 c refl low

space_silent : (c : ℕ) → c < 128 → is_whitespace c ≡ true → is_alphanumeric c ≡ false
space_silent c low space =
    ap (λ b. b && is_alphanumeric c) (sym space)
    ∙ agree_below_at (λ n. is_whitespace n && is_alphanumeric n) (λ n. false) 128 c refl low

-- ---- one word

-- two tests of two
or_swap : (a b d e : Bool) → ((a || b) || (d || e)) ≡ ((a || d) || (b || e))
or_swap true b d e = refl
or_swap false true true e = refl
or_swap false true false e = refl
or_swap false false d e = refl

word_backward : (word : List ℕ) → list_all is_low word ≡ true
    → option_map_or is_right_to_left (find is_strong (map bidi_class word)) false ≡ false
word_backward [] are = refl
word_backward (c ∷ cs) are =
    let parts = and_parts (is_low c) (list_all is_low cs) are in
    elim (cases_Bool (is_strong (bidi_class c))) [
      | inl strong ↦ ap (λ o. option_map_or is_right_to_left o false)
          (cond-true (is_strong (bidi_class c)) (Some (bidi_class c)) (find is_strong (map bidi_class cs)) strong)
          ∙ backward_class c (low_below c parts.0)
      | inr other ↦ ap (λ o. option_map_or is_right_to_left o false)
          (cond-false (is_strong (bidi_class c)) (Some (bidi_class c)) (find is_strong (map bidi_class cs)) other)
          ∙ word_backward cs parts.1
    ]

word_letters : (word : List ℕ) → list_all is_low word ≡ true
    → (list_any is_forward word || list_any is_ascii_digit word) ≡ list_any is_alphanumeric word
word_letters [] are = refl
word_letters (c ∷ cs) are =
    let parts = and_parts (is_low c) (list_all is_low cs) are in
    or_swap (is_forward c) (list_any is_forward cs) (is_ascii_digit c) (list_any is_ascii_digit cs)
    ∙ ap (λ b. b || (list_any is_forward cs || list_any is_ascii_digit cs))
    (telling_class c (low_below c parts.0))
    ∙ ap (λ b. is_alphanumeric c || b) (word_letters cs parts.1)

-- an address begins with a letter
begins_letter : (c : ℕ) (cs rest : List ℕ) → starts_with nat_eq (c ∷ cs) (104 ∷ rest) ≡ true → is_alphanumeric c ≡ true
begins_letter c cs rest e =
    let first = (and_parts (nat_eq 104 c) (pointwise nat_eq rest (take (length rest) cs)) e).0 in
    ap is_ascii_alphanumeric (sym (eqb-true 104 c first))

either : (a b : Bool) → (a || b) ≡ true → (a ≡ true) ⊎ (b ≡ true)
either true b e = inl refl
either false b e = inr e

address_tells : (word : List ℕ) → is_address word ≡ true → list_any is_alphanumeric word ≡ true
unfolding is_address
address_tells [] e = absurd (true≢false (sym e))
address_tells (c ∷ cs) e =
    let first : is_alphanumeric c ≡ true = elim (either (starts_with nat_eq (c ∷ cs) (codes "http://"))
    (starts_with nat_eq (c ∷ cs) (codes "https://")) e) [
      | inl http ↦ begins_letter c cs (codes "ttp://") http
      | inr https ↦ begins_letter c cs (codes "ttps://") https
    ] in
    ap (λ b. b || list_any is_alphanumeric cs) first

-- the word has a direction, or says a little for one
abbrev tells : WordKind → Bool
tells kind = counts_in_total kind || is_weak kind

kind_tells : (a b d all : Bool) → (b || d) ≡ all → (a ≡ true → all ≡ true)
    → tells (cond a Weak (cond b LeftToRight (cond d Weak Neutral))) ≡ all
kind_tells true b d all is address = sym (address refl)
kind_tells false true d all is address = is
kind_tells false false true all is address = is
kind_tells false false false all is address = is

kind_backward : (a b d : Bool)
    → counts_right_to_left (cond a Weak (cond b LeftToRight (cond d Weak Neutral))) ≡ false
kind_backward true b d = refl
kind_backward false true d = refl
kind_backward false false true = refl
kind_backward false false false = refl

kind_is : (word : List ℕ) → list_all is_low word ≡ true
    → word_kind word
    ≡ cond (is_address word) Weak (cond (list_any is_forward word) LeftToRight
    (cond (list_any is_ascii_digit word) Weak Neutral))
unfolding word_kind first_strong
kind_is word are =
    cond-false (option_map_or is_right_to_left (find is_strong (map bidi_class word)) false) RightToLeft _
    (word_backward word are)

word_tells : (word : List ℕ) → list_all is_low word ≡ true → tells (word_kind word) ≡ list_any is_alphanumeric word
word_tells word are =
    ap tells (kind_is word are)
    ∙ kind_tells (is_address word) (list_any is_forward word) (list_any is_ascii_digit word) _ (word_letters word are)
    (address_tells word)

word_not_backward : (word : List ℕ) → list_all is_low word ≡ true → counts_right_to_left (word_kind word) ≡ false
word_not_backward word are =
    ap counts_right_to_left (kind_is word are)
    ∙ kind_backward (is_address word) (list_any is_forward word) (list_any is_ascii_digit word)

-- ---- all words

abbrev count : (WordKind → Bool) → List (List ℕ) → ℕ
count test words = count_by test (map word_kind words)

count_more : (test : WordKind → Bool) (word : List ℕ) (words : List (List ℕ))
    → count test (word ∷ words) ≡ cond (test (word_kind word)) 1 0 + count test words
count_more test word words = sum_by-cons (λ (k : WordKind). cond (test k) 1 0) (word_kind word) (map word_kind words)

-- what words of ASCII say, of a text with these letters and digits
pub record Said (words : List (List ℕ)) (letters : Bool) : Type 0 where
  pub backward : count counts_right_to_left words ≡ 0
  pub telling : list_any tells (map word_kind words) ≡ letters

-- a word that ends, before others
ended_said : (word : List ℕ) (words : List (List ℕ)) (letters : Bool) → list_all is_low word ≡ true
    → Said words letters → Said (ended_word word ++ words) (list_any is_alphanumeric word || letters)
ended_said [] words letters are said = said
ended_said (c ∷ cs) words letters are said = record {
  backward = omega (
    arith,
    count_more counts_right_to_left (c ∷ cs) words,
    ap {B = ℕ} (λ b. cond b 1 0) (word_not_backward (c ∷ cs) are),
    said.backward,
  );
  telling = ap (λ b. b || list_any tells (map word_kind words)) (word_tells (c ∷ cs) are)
      ∙ ap (λ b. list_any is_alphanumeric (c ∷ cs) || b) said.telling;
}

said_same : {words others : List (List ℕ)} {letters same : Bool} → Said words letters → others ≡ words
    → same ≡ letters → Said others same
said_same {words} {others} {letters} {same} said is alike = record {
  backward = ap (count counts_right_to_left) is ∙ said.backward;
  telling = ap (λ ws. list_any tells (map word_kind ws)) is ∙ said.telling ∙ sym alike;
}

words_said : (word cs : List ℕ) → list_all is_low word ≡ true → list_all is_low cs ≡ true
    → Said (words_after word cs) (list_any is_alphanumeric word || list_any is_alphanumeric cs)
words_said [] [] before are = record { backward = refl; telling = refl }
words_said (d ∷ word) [] before are =
    said_same (ended_said (d ∷ word) [] false before (record { backward = refl; telling = refl })) refl refl
words_said word (c ∷ cs) before are =
    let parts = and_parts (is_low c) (list_all is_low cs) are in
    elim (cases_Bool (is_whitespace c)) [
      | inl space ↦ said_same (ended_said word (words_after [] cs) _ before (words_said [] cs refl parts.1))
          (cond-true (is_whitespace c) (ended_word word ++ words_after [] cs) (words_after (word ++ c ∷ []) cs) space)
          (ap (λ b. list_any is_alphanumeric word || (b || list_any is_alphanumeric cs))
          (space_silent c (low_below c parts.0) space))
      | inr other ↦ said_same (words_said (word ++ c ∷ []) cs
          (list_all-append is_low word (c ∷ []) ∙ and_from _ _ before (and_from _ _ parts.0 refl)) parts.1)
          (cond-false (is_whitespace c) (ended_word word ++ words_after [] cs) (words_after (word ++ c ∷ []) cs) other)
          (sym (ap (λ b. b || list_any is_alphanumeric cs) (list_any-append is_alphanumeric word (c ∷ []))
          ∙ or_assoc (list_any is_alphanumeric word) (is_alphanumeric c || false) (list_any is_alphanumeric cs)
          ∙ ap (λ b. list_any is_alphanumeric word || (b || list_any is_alphanumeric cs))
          (or-false (is_alphanumeric c))))
    ]

-- ---- the direction

some_counted : (test : WordKind → Bool) (kind : WordKind) (kinds : List WordKind)
    → nat_lt 0 (count_by test (kind ∷ kinds)) ≡ (test kind || nat_lt 0 (count_by test kinds))
some_counted test kind kinds =
    ap (nat_lt 0) (sum_by-cons (λ (k : WordKind). cond (test k) 1 0) kind kinds)
    ∙ some_more (test kind) (count_by test kinds)
  where
    some_more : (b : Bool) (n : ℕ) → nat_lt 0 (cond b 1 0 + n) ≡ (b || nat_lt 0 n)
    some_more true n = grind (arith, nat_tests)
    some_more false n = let none : 0 + n ≡ n = omega arith in ap (nat_lt 0) none

kinds_tell : (kinds : List WordKind)
    → (nat_lt 0 (count_by counts_in_total kinds) || list_any is_weak kinds) ≡ list_any tells kinds
kinds_tell [] = refl
kinds_tell (kind ∷ kinds) =
    ap (λ b. b || (is_weak kind || list_any is_weak kinds)) (some_counted counts_in_total kind kinds)
    ∙ or_swap (counts_in_total kind) (nat_lt 0 (count_by counts_in_total kinds)) (is_weak kind)
    (list_any is_weak kinds)
    ∙ ap (λ b. tells kind || b) (kinds_tell kinds)

direction_forward : (total : ℕ) (weak letters : Bool) (context : Dir) → (nat_lt 0 total || weak) ≡ letters
    → direction_by 0 total weak context ≡ (if letters then Ltr else context)
direction_forward total weak letters context is =
    let none : nat_lt (2 * total) (5 * 0) ≡ false = grind (arith, nat_tests) in
    cond-false (nat_lt (2 * total) (5 * 0)) Rtl (cond (nat_lt 0 total || weak) Ltr context) none
    ∙ ap (λ b. if b then Ltr else context) is

estimate_ascii : (text : List ℕ) (context : Dir) → list_all is_low text ≡ true
    → estimated_direction text context ≡ (if list_any is_alphanumeric text then Ltr else context)
estimate_ascii text context are =
    let said = words_said [] text refl are in
    ap (λ n. direction_by n (count_by counts_in_total (word_kinds text)) (list_any is_weak (word_kinds text)) context)
    said.backward
    ∙ direction_forward (count_by counts_in_total (word_kinds text)) (list_any is_weak (word_kinds text)) _ context
    (kinds_tell (word_kinds text) ∙ said.telling)

all_low : (bytes : List ℕ) → IsAscii bytes → list_all is_low bytes ≡ true
all_low [] are = refl
all_low (byte ∷ bytes) are =
    let first = are 0 in
    and_from (is_low byte) (list_all is_low bytes) (grind (arith, nat_tests, first)) (all_low bytes (λ i. are (suc i)))

pub ascii_estimate : (bytes : List ℕ) (context : Dir) → IsAscii bytes
    → estimated_direction (chars bytes) context ≡ (if list_any is_ascii_alphanumeric bytes then Ltr else context)
ascii_estimate bytes context are =
    ap (λ text. estimated_direction text context) (chars-IsAscii bytes are)
    ∙ estimate_ascii bytes context (all_low bytes are)
