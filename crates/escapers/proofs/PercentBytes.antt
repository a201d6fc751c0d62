-- How the bytes of a text are percent-encoded, character by character.
use Rattle.std.proofs.Common.{◌≡◌, ℕ, ◌/◌, ◌%◌, ◌<◌, ◌≤◌, Bool, true, false, not, List, [], ◌∷◌, ◌++◌, if◌then◌else◌}
use Rattle.std.proofs.Common.{sym, ap, ◌∙◌, ⊎_elim, encode_utf8, encode_utf8_all, arith}
use Rattle.std.specs.Char.{IsScalar}
use Rattle.std.specs.Fmt.{digit_glyph}
use Rattle.std.specs.List.{AllByRecursion, flat_map}
use Rattle.std.specs.Str.{chars, IsUtf8, all_scalars}
use Rattle.std.proofs.lemmas.Bool.{and_parts, cases_Bool, cases_lt, cond-true, cond-false}
use Rattle.std.proofs.lemmas.Bool.Decides.{nat_tests}
use Rattle.std.proofs.lemmas.Str.{chars-append, chars-IsAscii, encode_ascii, encodes-chars, scalars-chars}
use lib.Utf8.{encode, scalar_cases}
use Rattle.percent_encoding.specs.declared.ascii_set.AsciiSet.{AsciiSet}
use Rattle.percent_encoding.specs.AsciiSet.{contains, should_percent_encode}
use Rattle.percent_encoding.specs.Percent.{percent_encode, percent_encode_byte}
use Rattle.percent_encoding.proofs.AsciiSetLemmas.{kept_from_outside, escaped_from_inside}
use Rattle.percent_encoding.proofs.PercentLemmas.{percent_encode-nil, percent_encode-append, percent_encode_escaped}
use Rattle.percent_encoding.proofs.PercentLemmas.{percent_encode_kept, IsAscii-percent_encode}
use Rattle.soy_base.specs.Characters.{percent_sign}
use Rattle.escapers.specs.PercentEncoded.{encoded_byte, percent_encoded}

-- a byte of a character above ASCII
abbrev pub IsHighByte : ℕ → Type 0
IsHighByte b = (128 ≤ b) × (b < 256)

-- a scalar value is below the end of Unicode
pub scalar_below : (c : ℕ) → IsScalar c → c < 1114112
scalar_below c is = ⊎_elim (λ (h : c < 55296). omega arith) (λ (h : (57344 ≤ c) × (c < 1114112)). h.1)
    (scalar_cases c is)

-- each byte of a character above ASCII is above it
pub high_bytes : (c : ℕ) → 128 ≤ c → c < 1114112 → AllByRecursion IsHighByte (encode_utf8 c)
unfolding encode
high_bytes c high small = grind (arith, nat_tests)

-- the kit's escape of a byte is the same
pub encoded_byte_is : (b : ℕ) → b < 256 → percent_encode_byte b ≡ encoded_byte b
unfolding percent_encode_byte
encoded_byte_is b small =
    let high : b / 16 % 16 ≡ b / 16 = omega arith in
    ap (λ d. percent_sign ∷ digit_glyph true d ∷ digit_glyph true (b % 16) ∷ []) high

-- a byte above ASCII is encoded by every set
high_encoded : (set : AsciiSet) (b : ℕ) → 128 ≤ b → should_percent_encode set b ≡ true
unfolding should_percent_encode
high_encoded set b high = grind (arith, nat_tests)

-- and so are all bytes of a character above ASCII
pub all_encoded : (set : AsciiSet) (bs : List ℕ) → AllByRecursion IsHighByte bs
    → percent_encode set bs ≡ flat_map encoded_byte bs
all_encoded set [] are = percent_encode-nil set
all_encoded set (b ∷ bs) are =
    percent_encode_escaped set b bs (high_encoded set b are.0.0)
    ∙ ap (λ l. l ++ percent_encode set bs) (encoded_byte_is b are.0.1)
    ∙ ap (λ l. encoded_byte b ++ l) (all_encoded set bs are.1)

-- what stands for a character, where those that pass the test stand for themselves
abbrev pub stands_for : (ℕ → Bool) → ℕ → List ℕ
stands_for test c = if test c then c ∷ [] else percent_encoded c

-- the set has the characters of ASCII that fail the test, and none above ASCII passes it
pub record IsOutside (set : AsciiSet) (test : ℕ → Bool) : Type 0 where
  pub ascii : (b : ℕ) → b < 128 → contains set b ≡ not (test b)
  pub above : (c : ℕ) → 128 ≤ c → test c ≡ false

module _ (set : AsciiSet) (test : ℕ → Bool) (outside : IsOutside set test) where
  -- a character of ASCII
  ascii_encoded : (c : ℕ) → c < 128 → percent_encode set (c ∷ []) ≡ stands_for test c
  ascii_encoded c low =
      ⊎_elim
      (λ passes.
      percent_encode_kept set c [] (kept_from_outside set c low (outside.ascii c low ∙ ap not passes))
      ∙ ap (λ l. c ∷ l) (percent_encode-nil set) ∙ sym (cond-true (test c) (c ∷ []) (percent_encoded c) passes))
      (λ fails.
      percent_encode_escaped set c [] (escaped_from_inside set c (outside.ascii c low ∙ ap not fails))
      ∙ ap (λ l. percent_encode_byte c ++ l) (percent_encode-nil set)
      ∙ ap (λ l. l ++ []) (encoded_byte_is c (omega arith))
      ∙ ap (flat_map encoded_byte) (sym (encode_ascii c low))
      ∙ sym (cond-false (test c) (c ∷ []) (percent_encoded c) fails))
      (cases_Bool (test c))

  -- any character
  character_encoded : (c : ℕ) → IsScalar c → percent_encode set (encode_utf8 c) ≡ stands_for test c
  character_encoded c is =
      ⊎_elim
      (λ low. ap (percent_encode set) (encode_ascii c low) ∙ ascii_encoded c low)
      (λ high.
      all_encoded set (encode_utf8 c) (high_bytes c high (scalar_below c is))
      ∙ sym (cond-false (test c) (c ∷ []) (percent_encoded c) (outside.above c high)))
      (cases_lt c 128)

  -- a whole text
  text_encoded : (cs : List ℕ) → all_scalars cs ≡ true → percent_encode set (encode_utf8_all cs)
      ≡ flat_map (stands_for test) cs
  text_encoded [] are = percent_encode-nil set
  text_encoded (c ∷ cs) are =
      let both = and_parts _ _ are in
      percent_encode-append set (encode_utf8 c) (encode_utf8_all cs)
      ∙ ap (λ l. l ++ percent_encode set (encode_utf8_all cs)) (character_encoded c both.0)
      ∙ ap (λ l. stands_for test c ++ l) (text_encoded cs both.1)

  -- what is pushed, seen as characters
  pub pushed_encoded : (old new text : List ℕ) → IsUtf8 old → IsUtf8 text → new ≡ old ++ percent_encode set text →
      chars new ≡ chars old ++ flat_map (stands_for test) (chars text)
  pushed_encoded old new text utf8_old utf8_text is =
      ap chars is ∙ chars-append old (percent_encode set text) utf8_old
      ∙ ap (λ l. chars old ++ l)
      (chars-IsAscii (percent_encode set text) (IsAscii-percent_encode set text)
      ∙ ap (percent_encode set) (sym (encodes-chars text utf8_text))
      ∙ text_encoded (chars text) (scalars-chars text utf8_text))
