-- Texts of bytes that are wrapped as they are: their characters are clean and stand for themselves by Html.
use Rattle.std.proofs.Common.{◌≡◌, ℕ, ◌<◌, true, eqb, List, [], ◌∷◌, refl, ap, ◌∙◌, encode_utf8_all}
use Rattle.std.proofs.Common.{slice_index_or}
use Rattle.std.specs.List.{flat_map, list_all}
use Rattle.std.specs.Str.{chars, IsAscii, IsUtf8}
use Rattle.std.proofs.lemmas.Bool.{agree_below_at, and_from, and_parts}
use Rattle.std.proofs.lemmas.Str.{chars-IsAscii, encodes-chars}
use Rattle.escapers.specs.declared.escaper.Escaper.TheVariants as escaper
use Rattle.escapers.specs.Esc.{escaped_character}
use Rattle.escapers.specs.PlainPrefix.{stands_for_itself}
use Rattle.value_cursor.specs.Cleaned.{is_clean, is_printable}
use Rattle.value_cursor.specs.PlainBytes.{is_plain}
use Rattle.value_cursor.specs.declared.plain.TheConstants.{PLAIN}
use Rattle.value_cursor.proofs.ByteForms.{own_forms}
use Rattle.value_cursor.proofs.CleanBytes.{printable_ascii, printable_clean}

pub plain_table : (byte : ℕ) → byte < 256 → eqb (slice_index_or PLAIN byte 0) 1 ≡ is_plain byte
plain_table byte small = agree_below_at (λ n. eqb (slice_index_or PLAIN n 0) 1) is_plain 256 byte refl small

plain_printable : (bytes : List ℕ) → list_all is_plain bytes ≡ true → list_all is_printable bytes ≡ true
plain_printable [] e = refl
plain_printable (byte ∷ bytes) e =
    let parts = and_parts (is_plain byte) (list_all is_plain bytes) e in
    and_from (is_printable byte) (list_all is_printable bytes) (and_parts _ _ parts.0).0
    (plain_printable bytes parts.1)

plain_own : (bytes : List ℕ) → list_all is_plain bytes ≡ true → list_all (stands_for_itself escaper.Html) bytes ≡ true
plain_own [] e = refl
plain_own (byte ∷ bytes) e =
    let parts = and_parts (is_plain byte) (list_all is_plain bytes) e in
    and_from (stands_for_itself escaper.Html byte) (list_all (stands_for_itself escaper.Html) bytes)
    (and_parts _ _ parts.0).1 (plain_own bytes parts.1)

pub plain_ascii : (text : List ℕ) → list_all is_plain text ≡ true → IsAscii text
plain_ascii text e = printable_ascii text (plain_printable text e)

pub plain_clean : (text : List ℕ) → IsUtf8 text → list_all is_plain text ≡ true → list_all is_clean (chars text) ≡ true
plain_clean text utf8 e = printable_clean text utf8 (plain_printable text e)

pub plain_forms : (text : List ℕ) → IsUtf8 text → list_all is_plain text ≡ true
    → encode_utf8_all (flat_map (escaped_character escaper.Html) (chars text)) ≡ text
plain_forms text utf8 e =
    ap encode_utf8_all (own_forms escaper.Html (chars text)
    (ap (list_all (stands_for_itself escaper.Html)) (chars-IsAscii text (plain_ascii text e)) ∙ plain_own text e))
    ∙ encodes-chars text utf8
