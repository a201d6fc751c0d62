-- Tables of the forms of ASCII, and the first character of a text by one.
use Rattle.std.proofs.Common.{◌≡◌, ℕ, zero, suc, ◌+◌, ◌<◌, Bor, List, [], ◌∷◌, ◌++◌, get_or}
use Rattle.std.proofs.Common.{drop, None, Option, Some, sym, ap, ◌∙◌, encode_utf8_all, unwrap_or, arith}
use Rattle.std.specs.List.{slice_get}
use Rattle.std.specs.Char.{len_utf8}
use Rattle.std.specs.Option.{option_map_or}
use Rattle.std.specs.Prelude.{IfSome, map}
use Rattle.std.specs.Str.{chars, IsUtf8}
use Rattle.std.proofs.lemmas.Str.{chars_past_char, encode_ascii, len_utf8_ascii}
use Rattle.escapers.specs.declared.escaper.Escaper.{Escaper}
use Rattle.escapers.specs.Esc.{escaped_character}
use Rattle.value_cursor.specs.AsciiForms.{ascii_forms, forms_from}
use Rattle.value_cursor.specs.BytesLeft.{form}
use Rattle.value_cursor.specs.Cleaned.{cleaned}
use Rattle.value_cursor.specs.declared.cleaning.Cleaning.TheVariants as cleaning
use Rattle.value_cursor.specs.declared.plan.Plan.{Plan}

-- the text at a number is the form of the character
text_at : (how : Escaper) (c n i : ℕ) (texts : List (Bor (List ℕ))) (d : Bor (List ℕ))
    → map (λ text. text.now) texts ≡ forms_from how c n → i < n
    → (get_or texts i d).now ≡ encode_utf8_all (escaped_character how (c + i))
text_at how c zero i texts d are within = absurd (omega (arith, within))
text_at how c (suc n) i [] d are within = cc
text_at how c (suc n) zero (text ∷ texts) d are within =
    let here : c ≡ c + 0 = omega arith in
    ap (λ l. get_or l 0 []) are ∙ ap (λ k. encode_utf8_all (escaped_character how k)) here
text_at how c (suc n) (suc i) (text ∷ texts) d are within =
    let next : c + 1 + i ≡ c + suc i = omega arith in
    text_at how (c + 1) n i texts d (ap (drop 1) are) (omega (arith, within))
    ∙ ap (λ k. encode_utf8_all (escaped_character how k)) next

pub form_at : (how : Escaper) (c : ℕ) (texts : List (Bor (List ℕ))) (d : Bor (List ℕ))
    → map (λ text. text.now) texts ≡ ascii_forms how → c < 128
    → (get_or texts c d).now ≡ encode_utf8_all (escaped_character how c)
form_at how c texts d are low =
    let same : 0 + c ≡ c = omega arith in
    text_at how 0 128 c texts d are low ∙ ap (λ k. encode_utf8_all (escaped_character how k)) same

-- the form of a text's first character, where it is of ASCII and nothing is cleaned
pub first_form : (plan : Plan) (text : List ℕ) (byte : ℕ) (r : Option (Bor (List ℕ))) → plan.cleaning ≡ cleaning.Nothing
    → IsUtf8 text → text ≡ byte ∷ drop 1 text → byte < 128
    → IfSome r (λ bytes. bytes.now ≡ encode_utf8_all (escaped_character plan.how byte))
    → IfSome r (λ bytes. (c : ℕ) × (others : List ℕ) × (chars text ≡ c ∷ chars others) × (len_utf8 c ≡ 1)
    × ((offset : ℕ) → bytes.now ≡ encode_utf8_all (form plan offset c)))
first_form plan text byte None nothing utf8 begins low is = tt
first_form plan text byte (Some bytes) nothing utf8 begins low is = (
  byte,
  drop 1 text,
  chars_past_char text (drop 1 text) byte utf8 (begins ∙ ap (λ l. l ++ drop 1 text) (sym (encode_ascii byte low))),
  len_utf8_ascii byte low,
  λ offset. is ∙ ap encode_utf8_all (sym (ap (λ what. option_map_or (escaped_character plan.how)
      (cleaned what offset byte) []) nothing)),
)

pub begins_with : (bytes : List ℕ) (byte : ℕ) → Some byte ≡ slice_get bytes 0 → bytes ≡ byte ∷ drop 1 bytes
begins_with [] byte is = cc
begins_with (first ∷ bytes) byte is = ap (λ b. b ∷ bytes) (sym (ap (λ o. unwrap_or o 0) is))
