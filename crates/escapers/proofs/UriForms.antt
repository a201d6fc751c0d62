-- The forms of characters in URIs: their bytes, how many they are, and which characters stand for themselves.
use Rattle.std.proofs.Common.{◌≡◌, ℕ, ◌+◌, ◌*◌, ◌/◌, ◌%◌, ◌<◌, ◌≤◌, true, false, eqb, List, [], ◌∷◌, ◌++◌, length, refl}
use Rattle.std.proofs.Common.{sym, ap, ◌∙◌, ⊎_elim, codes, if◌then◌else◌, encode_utf8, encode_utf8_all, append-nil}
use Rattle.std.proofs.Common.{get_or, take, length-take, arith}
use Rattle.std.specs.Char.{IsScalar, len_utf8}
use Rattle.std.specs.List.{AllByRecursion, flat_map}
use Rattle.std.specs.Str.{bytes_eq}
use Rattle.std.proofs.lemmas.Bool.{cases_Bool, cond-true, cond-false, eqb-true}
use Rattle.std.proofs.lemmas.Bool.Decides.{nat_tests}
use Rattle.std.proofs.lemmas.Slice.Eq.{bytes_eq-Decides}
use Rattle.std.proofs.lemmas.Str.{encode_ascii, length-encode, len_utf8_ascii, len_utf8_bounds}
use Rattle.soy_base.specs.ByteLength.{byte_len}
use Rattle.soy_base.specs.Characters.{ampersand}
use Rattle.escapers.specs.PercentEncoded.{encoded_byte, percent_encoded, upper_digit}
use Rattle.escapers.specs.UriComponent.{component_character, is_unreserved}
use Rattle.escapers.specs.UriNormal.{is_normal, normal_character}
use Rattle.percent_encoding.specs.Percent.{percent_encode_byte}
use Rattle.std.proofs.lemmas.Grind.{flat_map-append}
use Rattle.std.proofs.lemmas.List.{take_more}
use Rattle.escapers.proofs.PercentBytes.{encoded_byte_is}
use Rattle.escapers.proofs.ComponentTexts.{IsByte, scalar_bytes}

abbrev IsLow : ℕ → Type 0
IsLow c = c < 128

-- ---- encoded bytes are characters of ASCII

digit_low : (n : ℕ) → n < 16 → IsLow (upper_digit n)
digit_low n small = grind (arith, nat_tests)

encoded_low : (bs : List ℕ) → AllByRecursion IsByte bs → AllByRecursion IsLow (flat_map encoded_byte bs)
encoded_low [] are = tt
encoded_low (b ∷ bs) are =
    let small : b < 256 = are.0 in
    (omega arith, (digit_low (b / 16) (omega arith), (digit_low (b % 16) (omega arith), encoded_low bs are.1)))

-- which are their own bytes
low_bytes : (cs : List ℕ) → AllByRecursion IsLow cs → encode_utf8_all cs ≡ cs
low_bytes [] are = refl
low_bytes (c ∷ cs) are =
    ap (λ l. l ++ encode_utf8_all cs) (encode_ascii c are.0) ∙ ap (λ l. c ∷ l) (low_bytes cs are.1)

low_len : (cs : List ℕ) → AllByRecursion IsLow cs → byte_len cs ≡ length cs
low_len [] are = refl
low_len (c ∷ cs) are = omega (arith, len_utf8_ascii c are.0, low_len cs are.1)

pub encoded_bytes : (c : ℕ) → IsScalar c → encode_utf8_all (percent_encoded c) ≡ percent_encoded c
encoded_bytes c is = low_bytes (percent_encoded c) (encoded_low (encode_utf8 c) (scalar_bytes c is))

-- three for each byte
pub length-encoded : (bs : List ℕ) → length (flat_map encoded_byte bs) ≡ 3 * length bs
length-encoded [] = refl
length-encoded (b ∷ bs) = omega (arith, length-encoded bs)

pub encoded_len : (c : ℕ) → IsScalar c → byte_len (percent_encoded c) ≡ 3 * len_utf8 c
encoded_len c is =
    low_len (percent_encoded c) (encoded_low (encode_utf8 c) (scalar_bytes c is)) ∙ length-encoded (encode_utf8 c)
    ∙ ap (λ n. 3 * n) (length-encode c)

-- ---- the form of a character that is encoded, and of one that isn't

pub component_kept : (c : ℕ) → is_unreserved c ≡ true → component_character c ≡ c ∷ []
component_kept c is = cond-true (is_unreserved c) (c ∷ []) (percent_encoded c) is

pub component_encoded : (c : ℕ) → is_unreserved c ≡ false → component_character c ≡ percent_encoded c
component_encoded c is = cond-false (is_unreserved c) (c ∷ []) (percent_encoded c) is

pub normal_reference : (c : ℕ) → eqb c ampersand ≡ true → normal_character c ≡ codes "&amp;"
normal_reference c is = cond-true (eqb c ampersand) _ (if is_normal c then c ∷ [] else percent_encoded c) is

pub normal_kept : (c : ℕ) → eqb c ampersand ≡ false → is_normal c ≡ true → normal_character c ≡ c ∷ []
normal_kept c other is =
    cond-false (eqb c ampersand) _ (if is_normal c then c ∷ [] else percent_encoded c) other
    ∙ cond-true (is_normal c) (c ∷ []) (percent_encoded c) is

pub normal_encoded : (c : ℕ) → eqb c ampersand ≡ false → is_normal c ≡ false → normal_character c ≡ percent_encoded c
normal_encoded c other is =
    cond-false (eqb c ampersand) _ (if is_normal c then c ∷ [] else percent_encoded c) other
    ∙ cond-false (is_normal c) (c ∷ []) (percent_encoded c) is

pub not_ampersand : (c : ℕ) → (c ≡ 38 → ⊥) → eqb c ampersand ≡ false
not_ampersand c other = grind (arith, nat_tests, other)

-- ---- the bytes that are pending, one more each time

module _ (bytes tail pushed : List ℕ) (i : ℕ) (within : i < length bytes) (small : get_or bytes i 0 < 256)
    (is : pushed ≡ percent_encode_byte (get_or bytes i 0)) (so_far : tail ≡ flat_map encoded_byte (take i bytes)) where
  pub one_fits : (c : ℕ) → bytes ≡ encode_utf8 c → length tail + length pushed ≤ 16
  one_fits c whole =
      let three : length pushed ≡ 3 = ap length is ∙ ap length (encoded_byte_is (get_or bytes i 0) small) in
      omega (
        arith,
        within,
        three,
        ap length whole,
        ap length so_far,
        length-encoded (take i bytes),
        length-take i
            bytes,
        length-encode c,
        (len_utf8_bounds c).1,
      )

  pub one_more : (new : List ℕ) → new ≡ tail ++ pushed → new ≡ flat_map encoded_byte (take (i + 1) bytes)
  one_more new more =
      more ∙ ap (λ l. l ++ pushed) so_far
      ∙ ap (λ l. flat_map encoded_byte (take i bytes) ++ l) (is ∙ encoded_byte_is (get_or bytes i 0) small
      ∙ sym (append-nil (encoded_byte (get_or bytes i 0))))
      ∙ sym (ap (flat_map encoded_byte) (take_more bytes i 0 within) ∙ flat_map-append encoded_byte (take i bytes)
      (get_or bytes i 0 ∷ []))

-- ---- which characters stand for themselves

-- a list is equal to itself
pub itself : (cs : List ℕ) → bytes_eq cs cs ≡ true
itself cs = (bytes_eq-Decides cs cs).1 refl

-- and not to one of another length
pub longer : (cs ds : List ℕ) → length ds < length cs → bytes_eq cs ds ≡ false
longer cs ds more = grind (arith, bytes_eq-Decides cs ds, λ (same : cs ≡ ds). ap length same)

encoded_longer : (c d : ℕ) → bytes_eq (percent_encoded c) (d ∷ []) ≡ false
encoded_longer c d =
    longer (percent_encoded c) (d ∷ [])
    (omega (arith, length-encoded (encode_utf8 c), length-encode c, (len_utf8_bounds c).0))

pub unreserved_itself : (c : ℕ) → is_unreserved c ≡ bytes_eq (component_character c) (c ∷ [])
unreserved_itself c =
    ⊎_elim
    (λ is. is ∙ sym (ap (λ l. bytes_eq l (c ∷ [])) (component_kept c is) ∙ itself (c ∷ [])))
    (λ is. is ∙ sym (ap (λ l. bytes_eq l (c ∷ [])) (component_encoded c is) ∙ encoded_longer c c))
    (cases_Bool (is_unreserved c))

pub normal_itself : (c : ℕ) → is_normal c ≡ bytes_eq (normal_character c) (c ∷ [])
normal_itself c =
    ⊎_elim
    (λ is.
    ap is_normal (eqb-true c ampersand is)
    ∙ sym (ap (λ l. bytes_eq l (c ∷ [])) (normal_reference c is) ∙ longer (codes "&amp;") (c ∷ []) (omega arith)))
    (λ other.
    ⊎_elim
    (λ is. is ∙ sym (ap (λ l. bytes_eq l (c ∷ [])) (normal_kept c other is) ∙ itself (c ∷ [])))
    (λ is. is ∙ sym (ap (λ l. bytes_eq l (c ∷ [])) (normal_encoded c other is) ∙ encoded_longer c c))
    (cases_Bool (is_normal c)))
    (cases_Bool (eqb c ampersand))
