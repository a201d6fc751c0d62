-- What stands for a character by rows whose texts are short: its bytes, and how many they are.
use Rattle.std.proofs.Common.{◌≡◌, ℕ, ◌≤◌, true, eqb, List, [], ◌∷◌, length, Option, None, Some, sym, ap, subst, ◌∙◌}
use Rattle.std.proofs.Common.{⊎_elim, unwrap_or, option_map, Bor, encode_utf8, encode_utf8_all, append-nil, arith}
use Rattle.std.specs.Prelude.{IfSome, nat_lt}
use Rattle.std.specs.Str.{chars, IsUtf8}
use Rattle.std.proofs.lemmas.Bool.{and_parts, cases_Bool, cond-true, cond-false}
use Rattle.std.proofs.lemmas.Bool.Decides.{nat_tests}
use Rattle.std.proofs.lemmas.Str.{encodes-chars}
use Rattle.soy_base.specs.ByteLength.{byte_len}
use Rattle.soy_base.proofs.Texts.{byte_len-chars}
use Rattle.esc_table.specs.EscapedText.{escaped_character as row_or_character}
use Rattle.esc_table.specs.RowText.{row_text}
use Rattle.escapers.specs.ShortRows.{are_short}

-- a row's text is short
short_row : (rows : List (ℕ × List ℕ)) (c : ℕ) → are_short rows ≡ true
    → IfSome (row_text rows c) (λ to. byte_len to ≤ 16)
short_row [] c short = tt
short_row (row ∷ rows) c short =
    let parts = and_parts (nat_lt (byte_len row.1) 17) (are_short rows) short in
    ⊎_elim
    (λ same.
    let few : byte_len row.1 ≤ 16 = grind (arith, nat_tests, parts.0) in
    subst (λ o. IfSome o (λ to. byte_len to ≤ 16)) (sym (cond-true (eqb row.0 c) (Some row.1) (row_text rows c) same))
    few)
    (λ other. subst (λ o. IfSome o (λ to. byte_len to ≤ 16))
    (sym (cond-false (eqb row.0 c) (Some row.1) (row_text rows c) other)) (short_row rows c parts.1))
    (cases_Bool (eqb row.0 c))

-- the text that is found in a table has at most 16 bytes
pub found_short : (rows : List (ℕ × List ℕ)) (c : ℕ) (found : Option (Bor (List ℕ))) → are_short rows ≡ true →
    option_map (λ text. chars text.now) found ≡ row_text rows c → IfSome found (λ text. IsUtf8 text.now)
    → IfSome found (λ text. length text.now ≤ 16)
found_short rows c None short is utf8 = tt
found_short rows c (Some text) short is utf8 =
    let few : byte_len (chars text.now) ≤ 16 = subst (λ o. IfSome o (λ to. byte_len to ≤ 16)) (sym is)
    (short_row rows c short) in
    omega (arith, few, byte_len-chars text.now utf8)

-- and is the bytes of what stands for the character
pub found_bytes : (rows : List (ℕ × List ℕ)) (c : ℕ) (found : Option (Bor (List ℕ))) →
    option_map (λ text. chars text.now) found ≡ row_text rows c → IfSome found (λ text. IsUtf8 text.now) →
    unwrap_or (option_map (λ text. text.now) found) (encode_utf8 c) ≡ encode_utf8_all (row_or_character rows c)
found_bytes rows c None is utf8 =
    sym (ap (λ o. encode_utf8_all (unwrap_or o (c ∷ []))) (sym is) ∙ append-nil (encode_utf8 c))
found_bytes rows c (Some text) is utf8 =
    sym (ap (λ o. encode_utf8_all (unwrap_or o (c ∷ []))) (sym is) ∙ encodes-chars text.now utf8)

-- and its length is the number of those bytes
pub found_len : (rows : List (ℕ × List ℕ)) (c : ℕ) (text : List ℕ) → Some (chars text) ≡ row_text rows c → IsUtf8 text
    → length text ≡ byte_len (row_or_character rows c)
found_len rows c text is utf8 = sym (ap (λ o. byte_len (unwrap_or o (c ∷ []))) (sym is) ∙ byte_len-chars text utf8)
