-- How a text falls into words: one ends at the first white space, and the next begins behind the white space.
use Rattle.std.proofs.Common.{◌≡◌, ℕ, ◌+◌, ◌≤◌, Bool, true, false, not, List, [], ◌∷◌, ◌++◌, length, refl, sym, ap, ◌∙◌}
use Rattle.std.proofs.Common.{◌<◌, append-nil, append_assoc, encode_utf8_all, inl, inr, arith}
use Rattle.std.specs.Char.{is_whitespace}
use Rattle.std.specs.Str.{IsUtf8, chars}
use Rattle.std.proofs.lemmas.Bool.{cases_Bool, cond-true, cond-false}
use Rattle.std.proofs.lemmas.Str.{encodes-chars, length-le-encodes}
use Rattle.soy_base.specs.Cuts.{after_while, prefix_while}
use Rattle.bidi_text.specs.Estimate.{words_of, words_after, ended_word}

-- the character is part of a word
abbrev pub is_solid : ℕ → Bool
is_solid c = not (is_whitespace c)

-- the characters before the first white space, those from it on, and those behind the white space
abbrev pub word : List ℕ → List ℕ
word text = prefix_while is_solid text

abbrev pub behind : List ℕ → List ℕ
behind text = after_while is_solid text

abbrev pub others : List ℕ → List ℕ
others text = after_while is_whitespace (behind text)

solid_is : (c : ℕ) → is_whitespace c ≡ false → is_solid c ≡ true
solid_is c other = ap not other

space_is : (c : ℕ) → is_whitespace c ≡ true → is_solid c ≡ false
space_is c space = ap not space

-- white space before a text adds no word
after_gap : (text : List ℕ) → words_of text ≡ words_of (after_while is_whitespace text)
after_gap [] = refl
after_gap (c ∷ cs) = elim (cases_Bool (is_whitespace c)) [
  | inl space ↦ cond-true (is_whitespace c) (words_after [] cs) (words_after (c ∷ []) cs) space ∙ after_gap cs
      ∙ sym (ap words_of (cond-true (is_whitespace c) (after_while is_whitespace cs) (c ∷ cs) space))
  | inr other ↦ sym (ap words_of (cond-false (is_whitespace c) (after_while is_whitespace cs) (c ∷ cs) other))
]

word_ends : (before text : List ℕ)
    → words_after before text ≡ ended_word (before ++ word text) ++ words_of (others text)
word_ends before [] = sym (ap (λ w. ended_word w ++ []) (append-nil before) ∙ append-nil (ended_word before))
word_ends before (c ∷ cs) = elim (cases_Bool (is_whitespace c)) [
  | inl space ↦ cond-true (is_whitespace c) (ended_word before ++ words_after [] cs)
      (words_after (before ++ c ∷ []) cs) space
      ∙ ap (λ ws. ended_word before ++ ws) (after_gap cs)
      ∙ sym (ap (λ w. ended_word w ++ words_of (others (c ∷ cs)))
      (ap (λ w. before ++ w) (cond-false (is_solid c) (c ∷ word cs) [] (space_is c space)) ∙ append-nil before)
      ∙ ap (λ t. ended_word before ++ words_of (after_while is_whitespace t))
      (cond-false (is_solid c) (behind cs) (c ∷ cs) (space_is c space))
      ∙ ap (λ t. ended_word before ++ words_of t)
      (cond-true (is_whitespace c) (after_while is_whitespace cs) (c ∷ cs) space))
  | inr other ↦ cond-false (is_whitespace c) (ended_word before ++ words_after [] cs)
      (words_after (before ++ c ∷ []) cs) other
      ∙ word_ends (before ++ c ∷ []) cs
      ∙ ap (λ w. ended_word w ++ words_of (others cs)) (append_assoc before (c ∷ []) (word cs))
      ∙ sym (ap (λ w. ended_word (before ++ w) ++ words_of (others (c ∷ cs)))
      (cond-true (is_solid c) (c ∷ word cs) [] (solid_is c other))
      ∙ ap (λ t. ended_word (before ++ (c ∷ word cs)) ++ words_of (after_while is_whitespace t))
      (cond-true (is_solid c) (behind cs) (c ∷ cs) (solid_is c other)))
]

-- the first word of a text, if it begins with one, and the words behind it
pub words_cut : (text : List ℕ) → words_of text ≡ ended_word (word text) ++ words_of (others text)
words_cut text = word_ends [] text

-- fewer characters are left
no_longer : (test : ℕ → Bool) (text : List ℕ) → length (after_while test text) ≤ length text
no_longer test [] = omega arith
no_longer test (c ∷ cs) = elim (cases_Bool (test c)) [
  | inl passes ↦ omega (arith, ap length (cond-true (test c) (after_while test cs) (c ∷ cs) passes), no_longer test cs)
  | inr stops ↦ omega (arith, ap length (cond-false (test c) (after_while test cs) (c ∷ cs) stops))
]

pub fewer : (text : List ℕ) → 0 < length text → length (others text) < length text
fewer [] some = absurd (omega (arith, some))
fewer (c ∷ cs) some = elim (cases_Bool (is_whitespace c)) [
  | inl space ↦ omega (
    arith,
    ap (λ t. length (after_while is_whitespace t)) (cond-false (is_solid c) (behind cs) (c ∷ cs) (space_is c space)),
    ap length (cond-true (is_whitespace c) (after_while is_whitespace cs) (c ∷ cs) space),
    no_longer is_whitespace cs,
  )
  | inr other ↦ omega (
    arith,
    ap (λ t. length (after_while is_whitespace t)) (cond-true (is_solid c) (behind cs) (c ∷ cs) (solid_is c other)),
    no_longer is_whitespace (behind cs),
    no_longer is_solid cs,
  )
]

-- bytes of a text are those of characters
pub some_characters : (bytes : List ℕ) → IsUtf8 bytes → 0 < length bytes → 0 < length (chars bytes)
some_characters bytes utf8 some = some_of (chars bytes) bytes (encodes-chars bytes utf8) some
  where
    some_of : (cs bytes : List ℕ) → encode_utf8_all cs ≡ bytes → 0 < length bytes → 0 < length cs
    some_of [] bytes is some = absurd (omega (arith, ap length is, some))
    some_of (c ∷ cs) bytes is some = omega arith

pub no_more_characters : (bytes : List ℕ) → IsUtf8 bytes → length (chars bytes) ≤ length bytes
no_more_characters bytes utf8 =
    omega (arith, length-le-encodes (chars bytes), ap length (encodes-chars bytes utf8))

-- the same by what two cuts say
pub fewer_on : (text behind_it others_it : List ℕ) → 0 < length text → behind_it ≡ after_while is_solid text
    → others_it ≡ after_while is_whitespace behind_it → length others_it < length text
fewer_on text behind_it others_it some behind_is others_is =
    omega (
      arith,
      fewer text some,
      ap length others_is,
      ap (λ t. length (after_while is_whitespace t)) behind_is,
    )
