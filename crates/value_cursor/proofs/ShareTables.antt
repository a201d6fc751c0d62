-- The tables of shares: they are what the forms of characters take. For ASCII it is computed, character by character;
-- above it the tables have one share for all bytes, or the rows begin with bytes whose shares say nothing.
use Rattle.std.proofs.Common.{◌≡◌, ℕ, ◌+◌, ◌*◌, ◌-◌, ◌/◌, ◌%◌, ◌<◌, ◌≤◌, Bool, true, false, not, ◌&&◌, ◌||◌, eqb, List}
use Rattle.std.proofs.Common.{[], ◌∷◌, None, Some, length, drop, refl, sym, ap, subst, ◌∙◌, ⊎_elim, unwrap_or}
use Rattle.std.proofs.Common.{if◌then◌else◌, codes, encode_utf8, nat_lt, arith}
use Rattle.std.specs.Char.{IsScalar, len_utf8}
use Rattle.std.specs.List.{AllByRecursion, flat_map, list_all, slice_index_or}
use Rattle.std.specs.Str.{bytes_eq}
use Rattle.std.proofs.lemmas.Bool.{agree_below, agree_below_at, and_from, and_parts, both_ways, cases_Bool, cases_lt}
use Rattle.std.proofs.lemmas.Bool.{cond-false, eqb-true, not-true, not-false, true≢false}
use Rattle.std.proofs.lemmas.Bool.Decides.{nat_tests}
use Rattle.std.proofs.lemmas.Slice.Eq.{bytes_eq-Decides}
use Rattle.std.proofs.lemmas.Str.{encode_ascii, length-encode, len_utf8_ascii, len_utf8_bounds}
use lib.Utf8.{encode, scalar_cases}
use Rattle.soy_base.specs.ByteLength.{byte_len}
use Rattle.soy_base.specs.Characters.{ampersand}
use Rattle.esc_table.specs.EscapedText.{escaped_character as row_or_character}
use Rattle.esc_table.specs.HtmlRows.{html_rows}
use Rattle.esc_table.specs.LeadBytes.{lead_byte}
use Rattle.esc_table.specs.RowText.{row_text}
use Rattle.escapers.specs.declared.escaper.Escaper.TheVariants as escaper
use Rattle.escapers.specs.CssRows.{css_rows}
use Rattle.escapers.specs.Esc.{escaped_character}
use Rattle.escapers.specs.JsRows.{js_rows}
use Rattle.escapers.specs.PercentEncoded.{encoded_byte, percent_encoded, upper_digit}
use Rattle.escapers.specs.UriComponent.{is_unreserved}
use Rattle.escapers.specs.UriNormal.{is_normal}
use Rattle.escapers.proofs.ComponentTexts.{IsByte, scalar_bytes}
use Rattle.value_cursor.specs.declared.shares.TheConstants.{CSS_STRING, HTML, JS_STRING, URI_COMPONENT, URI_NORMAL}
use Rattle.value_cursor.specs.Shares.{AreShares, is_known, is_other, share, total_share}

-- the byte has the share 1
abbrev pub is_own : List ℕ → ℕ → Bool
is_own shares byte = not (is_other shares byte)

pub or_second : (x y : Bool) → x ≡ false → (x || y) ≡ true → y ≡ true
or_second true y none either = absurd (true≢false none)
or_second false y none either = either

-- ---- the bytes of a character

begins : (c : ℕ) → 0 < length (encode_utf8 c)
begins c = omega (arith, length-encode c, (len_utf8_bounds c).0)

first_and_rest : (bytes : List ℕ) → 0 < length bytes → bytes ≡ slice_index_or bytes 0 0 ∷ drop 1 bytes
first_and_rest [] some = absurd (omega (arith, some))
first_and_rest (byte ∷ bytes) some = refl

pub split : (c : ℕ) → encode_utf8 c ≡ lead_byte c ∷ drop 1 (encode_utf8 c)
split c = first_and_rest (encode_utf8 c) (begins c)

pub scalar_below : (c : ℕ) → IsScalar c → c < 1114112
scalar_below c is = ⊎_elim (λ (h : c < 55296). omega arith) (λ (h : (57344 ≤ c) × (c < 1114112)). h.1)
    (scalar_cases c is)

abbrev IsContinuation : ℕ → Type 0
IsContinuation byte = (128 ≤ byte) × (byte < 192)

abbrev pub IsHigh : ℕ → Type 0
IsHigh byte = (128 ≤ byte) × (byte < 256)

pub lead_high : (c : ℕ) → 128 ≤ c → c < 1114112 → (192 ≤ lead_byte c) × (lead_byte c < 256)
unfolding encode
lead_high c high small = grind (arith, nat_tests)

continuations : (c : ℕ) → 128 ≤ c → c < 1114112 → AllByRecursion IsContinuation (drop 1 (encode_utf8 c))
unfolding encode
continuations c high small = grind (arith, nat_tests)

pub high_bytes : (c : ℕ) → 128 ≤ c → c < 1114112 → AllByRecursion IsHigh (encode_utf8 c)
unfolding encode
high_bytes c high small = grind (arith, nat_tests)

-- shares of 1
one : (shares : List ℕ) (byte : ℕ) → is_own shares byte ≡ true → share shares byte ≡ 1
one shares byte own = eqb-true (share shares byte) 1 (not-false _ (not-true _ own))

total_own : (shares bytes : List ℕ) → list_all (is_own shares) bytes ≡ true → total_share shares bytes ≡ length bytes
total_own shares [] own = refl
total_own shares (byte ∷ bytes) own =
    let parts = and_parts (is_own shares byte) (list_all (is_own shares) bytes) own in
    omega (arith, one shares byte parts.0, total_own shares bytes parts.1)

-- ---- characters of ASCII

module _ (form : ℕ → List ℕ) (shares : List ℕ) where
  -- the share is as many bytes as the form, and a character of the share 1 stands for itself
  abbrev is_share : ℕ → Bool
  is_share c = eqb (share shares c) (byte_len (form c)) && (is_other shares c || bytes_eq (form c) (c ∷ []))

  low_itself : agree_below is_share (λ c. true) 128 ≡ true → (c : ℕ) → c < 128 → is_other shares (lead_byte c) ≡ false
      → (list_all (is_own shares) (encode_utf8 c) ≡ true) × (form c ≡ c ∷ [])
  low_itself checked c low own =
      let parts = and_parts _ _ (agree_below_at is_share (λ c. true) 128 c checked low) in
      let bytes : encode_utf8 c ≡ c ∷ [] = encode_ascii c low in
      let here : is_other shares c ≡ false = ap (λ l. is_other shares (slice_index_or l 0 0)) (sym bytes) ∙ own in (
        ap (list_all (is_own shares)) bytes ∙ and_from _ _ (ap not here) refl,
        (bytes_eq-Decides (form c) (c ∷ [])).0 (or_second _ _ here parts.1),
      )

  low_together : agree_below is_share (λ c. true) 128 ≡ true → (c : ℕ) → c < 128
      → total_share shares (encode_utf8 c) ≡ byte_len (form c)
  low_together checked c low =
      let parts = and_parts _ _ (agree_below_at is_share (λ c. true) 128 c checked low) in
      let here : share shares c ≡ byte_len (form c) = eqb-true _ _ parts.0 in
      omega (arith, ap (total_share shares) (encode_ascii c low), here)

-- ---- other characters, by rows

module _ (shares : List ℕ) where
  -- no continuation byte has another share than 1, and no other byte another one that says something
  abbrev continue : ℕ → Bool
  continue i = is_own shares (128 + i)

  abbrev lead : ℕ → Bool
  lead i = not (is_known shares (192 + i)) || is_own shares (192 + i)

  -- rows above ASCII begin with bytes whose shares say nothing
  abbrev is_looked_up : ℕ × List ℕ → Bool
  is_looked_up row = nat_lt row.0 128 || not (is_known shares (lead_byte row.0))

  own_rest : agree_below continue (λ i. true) 64 ≡ true → (bytes : List ℕ) → AllByRecursion IsContinuation bytes
      → list_all (is_own shares) bytes ≡ true
  own_rest checked [] are = refl
  own_rest checked (byte ∷ bytes) are =
      let at : 128 + (byte - 128) ≡ byte = omega (arith, are.0.0) in
      and_from _ _
      (subst (λ b. is_own shares b ≡ true) at (agree_below_at continue (λ i. true) 64 (byte - 128) checked
      (omega (arith, are.0.0, are.0.1))))
      (own_rest checked bytes are.1)

  own_lead : agree_below lead (λ i. true) 64 ≡ true → (byte : ℕ) → 192 ≤ byte → byte < 256
      → is_known shares byte ≡ true → is_own shares byte ≡ true
  own_lead checked byte high small known =
      let at : 192 + (byte - 192) ≡ byte = omega (arith, high) in
      let either : (not (is_known shares byte) || is_own shares byte) ≡ true =
      subst (λ b. (not (is_known shares b) || is_own shares b) ≡ true) at
      (agree_below_at lead (λ i. true) 64 (byte - 192) checked (omega (arith, high, small))) in
      or_second _ _ (ap not known) either

  known_own : (byte : ℕ) → is_own shares byte ≡ true → is_known shares byte ≡ true
  known_own byte own = ap (λ n. nat_lt n 65535) (one shares byte own)

  no_row : (rows : List (ℕ × List ℕ)) (c : ℕ) → list_all is_looked_up rows ≡ true → 128 ≤ c
      → is_known shares (lead_byte c) ≡ true → row_text rows c ≡ None
  no_row [] c all high known = refl
  no_row (row ∷ rows) c all high known =
      let parts = and_parts _ _ all in
      ⊎_elim
      (λ same.
      let is : row.0 ≡ c = eqb-true row.0 c same in
      let above : nat_lt row.0 128 ≡ false = grind (arith, nat_tests, is, high) in
      absurd (both_ways (is_known shares (lead_byte row.0)) (not-true _ (or_second _ _ above parts.0))
      (ap (λ d. is_known shares (lead_byte d)) is ∙ known)))
      (λ other. cond-false (eqb row.0 c) (Some row.1) (row_text rows c) other ∙ no_row rows c parts.1 high known)
      (cases_Bool (eqb row.0 c))

  module _ (rows : List (ℕ × List ℕ))
      (low : agree_below (is_share (row_or_character rows) shares) (λ c. true) 128 ≡ true)
      (continues : agree_below continue (λ i. true) 64 ≡ true) (leads : agree_below lead (λ i. true) 64 ≡ true)
      (looked_up : list_all is_looked_up rows ≡ true) where
    row_itself : (c : ℕ) → IsScalar c → is_other shares (lead_byte c) ≡ false
        → (list_all (is_own shares) (encode_utf8 c) ≡ true) × (row_or_character rows c ≡ c ∷ [])
    row_itself c is own =
        ⊎_elim
        (λ (ascii : c < 128). low_itself (row_or_character rows) shares low c ascii own)
        (λ high.
        let here : is_own shares (lead_byte c) ≡ true = ap not own in (
          ap (list_all (is_own shares)) (split c) ∙ and_from _ _ here (own_rest continues (drop 1 (encode_utf8 c))
              (continuations c high (scalar_below c is))),
          ap (λ o. unwrap_or o (c ∷ [])) (no_row rows c looked_up high (known_own (lead_byte c) here)),
        ))
        (cases_lt c 128)

    row_together : (c : ℕ) → IsScalar c → list_all (is_known shares) (encode_utf8 c) ≡ true
        → total_share shares (encode_utf8 c) ≡ byte_len (row_or_character rows c)
    row_together c is known =
        ⊎_elim
        (λ (ascii : c < 128). low_together (row_or_character rows) shares low c ascii)
        (λ high.
        let bounds = lead_high c high (scalar_below c is) in
        let first : is_known shares (lead_byte c) ≡ true =
        (and_parts _ _ (ap (list_all (is_known shares)) (sym (split c)) ∙ known)).0 in
        let own : is_other shares (lead_byte c) ≡ false =
        not-true _ (own_lead leads (lead_byte c) bounds.0 bounds.1 first) in
        let itself = row_itself c is own in
        omega (
          arith,
          total_own shares (encode_utf8 c) itself.0,
          length-encode c,
          ap byte_len itself.1,
        ))
        (cases_lt c 128)

-- ---- other characters, in URIs

-- three bytes for each
encoded_len : (bytes : List ℕ) → AllByRecursion IsByte bytes → byte_len (flat_map encoded_byte bytes) ≡ 3 * length bytes
encoded_len [] are = refl
encoded_len (byte ∷ bytes) are =
    let small : byte < 256 = are.0 in
    omega (
      arith,
      digit_len (byte / 16) (omega arith),
      digit_len (byte % 16) (omega arith),
      encoded_len bytes are.1,
    )
  where
    digit_low : (n : ℕ) → n < 16 → upper_digit n < 128
    digit_low n small = grind (arith, nat_tests)

    digit_len : (n : ℕ) → n < 16 → len_utf8 (upper_digit n) ≡ 1
    digit_len n small = len_utf8_ascii (upper_digit n) (digit_low n small)

module _ (form : ℕ → List ℕ) (shares : List ℕ) (above : (c : ℕ) → 128 ≤ c → form c ≡ percent_encoded c) where
  abbrev is_three : ℕ → Bool
  is_three i = eqb (share shares (128 + i)) 3

  module _ (low : agree_below (is_share form shares) (λ c. true) 128 ≡ true)
      (threes : agree_below is_three (λ i. true) 128 ≡ true) where
    three : (byte : ℕ) → IsHigh byte → share shares byte ≡ 3
    three byte is =
        let at : 128 + (byte - 128) ≡ byte = omega (arith, is.0) in
        subst (λ b. share shares b ≡ 3) at (eqb-true _ _ (agree_below_at is_three (λ i. true) 128 (byte - 128) threes
        (omega (arith, is.0, is.1))))

    total_threes : (bytes : List ℕ) → AllByRecursion IsHigh bytes → total_share shares bytes ≡ 3 * length bytes
    total_threes [] are = refl
    total_threes (byte ∷ bytes) are = omega (arith, three byte are.0, total_threes bytes are.1)

    uri_itself : (c : ℕ) → IsScalar c → is_other shares (lead_byte c) ≡ false
        → (list_all (is_own shares) (encode_utf8 c) ≡ true) × (form c ≡ c ∷ [])
    uri_itself c is own =
        ⊎_elim
        (λ (ascii : c < 128). low_itself form shares low c ascii own)
        (λ high.
        let bounds = lead_high c high (scalar_below c is) in
        let here : share shares (lead_byte c) ≡ 3 = three (lead_byte c) (omega (arith, bounds.0), bounds.1) in
        absurd (both_ways (is_other shares (lead_byte c)) own (ap (λ n. not (eqb n 1)) here)))
        (cases_lt c 128)

    uri_together : (c : ℕ) → IsScalar c → list_all (is_known shares) (encode_utf8 c) ≡ true
        → total_share shares (encode_utf8 c) ≡ byte_len (form c)
    uri_together c is known =
        ⊎_elim
        (λ (ascii : c < 128). low_together form shares low c ascii)
        (λ high.
        omega (
          arith,
          total_threes (encode_utf8 c) (high_bytes c high (scalar_below c is)),
          encoded_len (encode_utf8 c) (scalar_bytes c is),
          ap byte_len (above c high),
        ))
        (cases_lt c 128)

-- ---- the tables

pub html_shares : AreShares escaper.Html HTML
html_shares = record {
  itself = row_itself HTML html_rows refl refl refl refl;
  together = row_together HTML html_rows refl refl refl refl;
}

pub js_shares : AreShares escaper.JsString JS_STRING
unfolding encode
js_shares = record {
  itself = row_itself JS_STRING js_rows refl refl refl refl;
  together = row_together JS_STRING js_rows refl refl refl refl;
}

pub css_shares : AreShares escaper.CssString CSS_STRING
unfolding encode
css_shares = record {
  itself = row_itself CSS_STRING css_rows refl refl refl refl;
  together = row_together CSS_STRING css_rows refl refl refl refl;
}

component_above : (c : ℕ) → 128 ≤ c → escaped_character escaper.UriComponent c ≡ percent_encoded c
component_above c high =
    let other : is_unreserved c ≡ false = grind (arith, nat_tests) in
    cond-false (is_unreserved c) (c ∷ []) (percent_encoded c) other

normal_above : (c : ℕ) → 128 ≤ c → escaped_character escaper.UriNormal c ≡ percent_encoded c
normal_above c high =
    let other : eqb c ampersand ≡ false = grind (arith, nat_tests) in
    let encoded : is_normal c ≡ false = grind (arith, nat_tests) in
    cond-false (eqb c ampersand) (codes "&amp;") (if is_normal c then c ∷ [] else percent_encoded c) other
    ∙ cond-false (is_normal c) (c ∷ []) (percent_encoded c) encoded

pub component_shares : AreShares escaper.UriComponent URI_COMPONENT
unfolding encode
component_shares = record {
  itself = uri_itself (escaped_character escaper.UriComponent) URI_COMPONENT component_above refl refl;
  together = uri_together (escaped_character escaper.UriComponent) URI_COMPONENT component_above refl refl;
}

pub normal_shares : AreShares escaper.UriNormal URI_NORMAL
unfolding encode
normal_shares = record {
  itself = uri_itself (escaped_character escaper.UriNormal) URI_NORMAL normal_above refl refl;
  together = uri_together (escaped_character escaper.UriNormal) URI_NORMAL normal_above refl refl;
}
