-- A text as a part of a URI: what it has, and how it is read back.
use Rattle.std.proofs.Common.{◌≡◌, ℕ, ◌+◌, ◌*◌, ◌/◌, ◌%◌, ◌<◌, true, false, eqb, List, [], ◌∷◌, ◌++◌, refl, sym, ap}
use Rattle.std.proofs.Common.{◌∙◌, subst, ⊎_elim, encode_utf8, encode_utf8_all, arith}
use Rattle.std.specs.Char.{IsScalar}
use Rattle.std.specs.List.{AllByRecursion, flat_map}
use Rattle.std.specs.Str.{chars, all_scalars}
use Rattle.std.proofs.lemmas.Bool.{and_parts, cases_Bool, cases_lt, cond-true, cond-false}
use Rattle.std.proofs.lemmas.Bool.Decides.{nat_tests}
use Rattle.std.proofs.lemmas.Str.{chars-encodes, encode_ascii}
use Rattle.escapers.specs.DecodedText.{decoded_bytes, decoded_text, digit_number}
use Rattle.escapers.specs.IsComponentText.{IsComponentText, is_upper_digit, empty, unreserved, encoded}
use Rattle.soy_base.specs.Characters.{percent_sign}
use Rattle.escapers.specs.PercentEncoded.{upper_digit, encoded_byte, percent_encoded}
use Rattle.escapers.specs.UriComponent.{is_unreserved, component_character, uri_component}
use Rattle.escapers.proofs.PercentBytes.{IsHighByte, high_bytes, scalar_below}

abbrev pub IsByte : ℕ → Type 0
IsByte b = b < 256

-- bytes above ASCII are bytes
weaker : (bs : List ℕ) → AllByRecursion IsHighByte bs → AllByRecursion IsByte bs
weaker [] are = tt
weaker (b ∷ bs) are = (are.0.1, weaker bs are.1)

-- a scalar value is encoded in bytes
pub scalar_bytes : (c : ℕ) → IsScalar c → AllByRecursion IsByte (encode_utf8 c)
scalar_bytes c is =
    ⊎_elim
    (λ (low : c < 128). let small : c < 256 = omega arith in rw (encode_ascii c low) (small, tt))
    (λ high. weaker (encode_utf8 c) (high_bytes c high (scalar_below c is)))
    (cases_lt c 128)

-- a digit that is written is an upper one, and is read as its number
digit_is_upper : (n : ℕ) → n < 16 → is_upper_digit (upper_digit n) ≡ true
digit_is_upper n small = grind (arith, nat_tests)

digit_number-upper_digit : (n : ℕ) → n < 16 → digit_number (upper_digit n) ≡ n
digit_number-upper_digit n small = grind (arith, nat_tests)

-- ---- what it has

-- encoded bytes before such a text make such a text
bytes_written : (bs rest : List ℕ) → AllByRecursion IsByte bs → IsComponentText rest
    → IsComponentText (flat_map encoded_byte bs ++ rest)
bytes_written [] rest are more = more
bytes_written (b ∷ bs) rest are more =
    let small : b < 256 = are.0 in
    encoded (upper_digit (b / 16)) (upper_digit (b % 16)) (flat_map encoded_byte bs ++ rest)
    (digit_is_upper (b / 16) (omega arith)) (digit_is_upper (b % 16) (omega arith))
    (bytes_written bs rest are.1 more)

pub component_written : (text : List ℕ) → all_scalars text ≡ true → IsComponentText (uri_component text)
component_written [] are = empty
component_written (c ∷ text) are =
    let both = and_parts _ _ are in
    let more = component_written text both.1 in
    ⊎_elim
    (λ passes. subst (λ l. IsComponentText (l ++ uri_component text))
    (sym (cond-true (is_unreserved c) (c ∷ []) (percent_encoded c) passes))
    (unreserved c (uri_component text) passes more))
    (λ fails. subst (λ l. IsComponentText (l ++ uri_component text))
    (sym (cond-false (is_unreserved c) (c ∷ []) (percent_encoded c) fails))
    (bytes_written (encode_utf8 c) (uri_component text) (scalar_bytes c both.0) more))
    (cases_Bool (is_unreserved c))

-- ---- how it is read back

-- an encoded byte is read back, and all of them are
byte_decoded : (b : ℕ) (rest : List ℕ) → b < 256 → decoded_bytes (encoded_byte b ++ rest) ≡ b ∷ decoded_bytes rest
byte_decoded b rest small =
    let high = digit_number-upper_digit (b / 16) (omega arith) in
    let low = digit_number-upper_digit (b % 16) (omega arith) in
    let value : 16 * digit_number (upper_digit (b / 16)) + digit_number (upper_digit (b % 16)) ≡ b =
    rw (high, low) (omega arith) in
    ap (λ d. d ∷ decoded_bytes rest) value

bytes_decoded : (bs rest : List ℕ) → AllByRecursion IsByte bs
    → decoded_bytes (flat_map encoded_byte bs ++ rest) ≡ bs ++ decoded_bytes rest
bytes_decoded [] rest are = refl
bytes_decoded (b ∷ bs) rest are =
    byte_decoded b (flat_map encoded_byte bs ++ rest) are.0 ∙ ap (λ l. b ∷ l) (bytes_decoded bs rest are.1)

-- a character that is no `%` is read as itself
other_decoded : (c : ℕ) (rest : List ℕ) → eqb c percent_sign ≡ false → decoded_bytes (c ∷ rest) ≡ c ∷ decoded_bytes rest
other_decoded c [] other = refl
other_decoded c (d ∷ []) other = refl
other_decoded c (d ∷ e ∷ rest) other =
    cond-false (eqb c percent_sign) ((16 * digit_number d + digit_number e) ∷ decoded_bytes rest)
    (c ∷ decoded_bytes (d ∷ e ∷ rest)) other

-- an unreserved character is of ASCII, and no `%`
unreserved_is : (c : ℕ) → is_unreserved c ≡ true → (c < 128) × (eqb c percent_sign ≡ false)
unreserved_is c passes = grind (arith, nat_tests)

-- what stands for a character is read as its bytes
character_decoded : (c : ℕ) (rest : List ℕ) → IsScalar c
    → decoded_bytes (component_character c ++ rest) ≡ encode_utf8 c ++ decoded_bytes rest
character_decoded c rest is =
    ⊎_elim
    (λ passes.
    let facts = unreserved_is c passes in
    ap (λ l. decoded_bytes (l ++ rest)) (cond-true (is_unreserved c) (c ∷ []) (percent_encoded c) passes)
    ∙ other_decoded c rest facts.1 ∙ ap (λ l. l ++ decoded_bytes rest) (sym (encode_ascii c facts.0)))
    (λ fails.
    ap (λ l. decoded_bytes (l ++ rest)) (cond-false (is_unreserved c) (c ∷ []) (percent_encoded c) fails)
    ∙ bytes_decoded (encode_utf8 c) rest (scalar_bytes c is))
    (cases_Bool (is_unreserved c))

component_decoded : (text : List ℕ) → all_scalars text ≡ true
    → decoded_bytes (uri_component text) ≡ encode_utf8_all text
component_decoded [] are = refl
component_decoded (c ∷ text) are =
    let both = and_parts _ _ are in
    character_decoded c (uri_component text) both.0 ∙ ap (λ l. encode_utf8 c ++ l) (component_decoded text both.1)

pub component_read_back : (text : List ℕ) → all_scalars text ≡ true → decoded_text (uri_component text) ≡ text
component_read_back text are = ap chars (component_decoded text are) ∙ chars-encodes text are
