-- A text of letters and digits of ASCII is left as it is.
use Rattle.std.proofs.Common.{◌≡◌, ℕ, ◌≤◌, Bool, true, false, not, ◌&&◌, eqb, List, [], ◌∷◌, ◌++◌, None, Some, refl}
use Rattle.std.proofs.Common.{sym, ap, ◌∙◌, ⊎_elim, unwrap_or, encode_utf8, encode_utf8_all, arith}
use Rattle.std.specs.Char.{is_ascii_alphanumeric}
use Rattle.std.specs.List.{flat_map, list_all}
use Rattle.std.specs.Str.{chars, IsUtf8}
use Rattle.std.proofs.lemmas.Bool.{and_from, and_parts, both_ways, cases_Bool, cases_lt, cond-false, cond-true}
use Rattle.std.proofs.lemmas.Bool.{eqb-true, not-true}
use Rattle.std.proofs.lemmas.Bool.Decides.{nat_tests}
use Rattle.std.proofs.lemmas.Str.{encode_ascii, encodes-chars}
use lib.Utf8.{encode}
use Rattle.esc_table.specs.EscapedText.{escaped_text}
use Rattle.esc_table.specs.RowText.{row_text}
use Rattle.escapers.specs.PercentEncoded.{percent_encoded}
use Rattle.escapers.proofs.PercentBytes.{stands_for}

abbrev is_alphanumeric : List ℕ → Bool
is_alphanumeric text = list_all is_ascii_alphanumeric text

-- a character above ASCII is none, and its bytes begin with none
high_none : (c : ℕ) → 128 ≤ c → is_ascii_alphanumeric c ≡ false
high_none c high = grind (arith, nat_tests)

high_first : (c : ℕ) (rest : List ℕ) → 128 ≤ c → is_alphanumeric (encode_utf8 c ++ rest) ≡ false
unfolding encode
high_first c rest high = grind (arith, nat_tests)

-- bytes are letters and digits where their characters are
alphanumeric_bytes : (cs : List ℕ) → is_alphanumeric (encode_utf8_all cs) ≡ is_alphanumeric cs
alphanumeric_bytes [] = refl
alphanumeric_bytes (c ∷ cs) =
    ⊎_elim
    (λ low. ap (λ l. is_alphanumeric (l ++ encode_utf8_all cs)) (encode_ascii c low)
    ∙ ap (λ t. is_ascii_alphanumeric c && t) (alphanumeric_bytes cs))
    (λ high. high_first c (encode_utf8_all cs) high ∙ sym (ap (λ t. t && is_alphanumeric cs) (high_none c high)))
    (cases_lt c 128)

pub alphanumeric_characters : (bs : List ℕ) → IsUtf8 bs → is_alphanumeric bs ≡ is_alphanumeric (chars bs)
alphanumeric_characters bs utf8 = ap is_alphanumeric (sym (encodes-chars bs utf8)) ∙ alphanumeric_bytes (chars bs)

-- no row has such a character
abbrev pub has_no_alphanumeric_row : List (ℕ × List ℕ) → Bool
has_no_alphanumeric_row rows = list_all (λ row. not (is_ascii_alphanumeric row.0)) rows

pub alphanumeric_row : (rows : List (ℕ × List ℕ)) (c : ℕ) → has_no_alphanumeric_row rows ≡ true
    → is_ascii_alphanumeric c ≡ true → row_text rows c ≡ None
alphanumeric_row [] c none is = refl
alphanumeric_row (row ∷ rows) c none is =
    let parts = and_parts _ _ none in
    ⊎_elim
    (λ same. absurd (both_ways (is_ascii_alphanumeric row.0) (not-true _ parts.0)
    (ap is_ascii_alphanumeric (eqb-true row.0 c same) ∙ is)))
    (λ other. cond-false (eqb row.0 c) (Some row.1) (row_text rows c) other ∙ alphanumeric_row rows c parts.1 is)
    (cases_Bool (eqb row.0 c))

-- so the rows leave such a text as it is
pub alphanumeric_escaped : (rows : List (ℕ × List ℕ)) (text : List ℕ) → has_no_alphanumeric_row rows ≡ true
    → is_alphanumeric text ≡ true → escaped_text rows text ≡ text
alphanumeric_escaped rows [] none are = refl
alphanumeric_escaped rows (c ∷ text) none are =
    let parts = and_parts _ _ are in
    ap (λ o. unwrap_or o (c ∷ []) ++ escaped_text rows text) (alphanumeric_row rows c none parts.0)
    ∙ ap (λ l. c ∷ l) (alphanumeric_escaped rows text none parts.1)

-- and where such characters stand for themselves, so does the text
pub alphanumeric_stands : (test : ℕ → Bool) (text : List ℕ) → ((c : ℕ) → is_ascii_alphanumeric c ≡ true → test c ≡ true)
    → is_alphanumeric text ≡ true → flat_map (stands_for test) text ≡ text
alphanumeric_stands test [] passes are = refl
alphanumeric_stands test (c ∷ text) passes are =
    let parts = and_parts _ _ are in
    ap (λ l. l ++ flat_map (stands_for test) text) (cond-true (test c) (c ∷ []) (percent_encoded c) (passes c parts.0))
    ∙ ap (λ l. c ∷ l) (alphanumeric_stands test text passes parts.1)

-- and each passes a test that such characters pass
pub alphanumeric_all : (test : ℕ → Bool) (text : List ℕ) → ((c : ℕ) → is_ascii_alphanumeric c ≡ true → test c ≡ true)
    → is_alphanumeric text ≡ true → list_all test text ≡ true
alphanumeric_all test [] passes are = refl
alphanumeric_all test (c ∷ text) passes are =
    let parts = and_parts _ _ are in
    and_from _ _ (passes c parts.0) (alphanumeric_all test text passes parts.1)
