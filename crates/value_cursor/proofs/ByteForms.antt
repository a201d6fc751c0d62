-- The form of a text is that of each of its bytes, where the characters beyond ASCII stand for themselves.
use Rattle.std.proofs.Common.{◌≡◌, ℕ, zero, suc, ◌+◌, ◌≤◌, ◌<◌, Bool, true, false, not, ◌||◌, nat_le, nat_lt, eqb, List}
use Rattle.std.proofs.Common.{[], ◌∷◌, ◌++◌, None, Some, length, refl, sym, ap, subst, ◌∙◌, ⊎_elim, unwrap_or}
use Rattle.std.proofs.Common.{append-nil, encode_utf8, encode_utf8_all, arith}
use Rattle.std.specs.Char.{IsScalar}
use Rattle.std.specs.List.{AllByRecursion, flat_map, list_all, slice_index_or}
use Rattle.std.specs.Str.{all_scalars, chars, IsUtf8}
use Rattle.std.proofs.lemmas.Bool.{and_from, and_parts, cases_lt, cond-false, cond-true, not-true}
use Rattle.std.proofs.lemmas.Bool.Decides.{nat_tests}
use Rattle.std.proofs.lemmas.Grind.{flat_map-append}
use Rattle.std.proofs.lemmas.List.Folds.{list_all-append}
use Rattle.std.proofs.lemmas.Slice.Eq.{bytes_eq-Decides}
use Rattle.std.proofs.lemmas.Str.{chars-append, encode_ascii, encodes-append, encodes-chars, scalars-chars}
use lib.Utf8.{scalar}
use Rattle.esc_table.specs.HtmlRows.{html_rows}
use Rattle.esc_table.specs.LeadBytes.{lead_byte}
use Rattle.esc_table.specs.RowText.{row_text}
use Rattle.escapers.specs.declared.escaper.Escaper.{Escaper}
use Rattle.escapers.specs.declared.escaper.Escaper.TheVariants as escaper
use Rattle.escapers.specs.Esc.{escaped_character}
use Rattle.escapers.specs.PlainPrefix.{stands_for_itself}
use Rattle.value_cursor.specs.AsciiForms.{ascii_forms, forms_from}
use Rattle.value_cursor.specs.ByteForms.{byte_form, is_own, is_short, is_single}
use Rattle.value_cursor.specs.Shares.{AreShares, is_other}
use Rattle.value_cursor.proofs.PlainRuns.{own_form}
use Rattle.value_cursor.proofs.ShareTables.{IsHigh, high_bytes, lead_high, or_second, scalar_below, split}

below : (c : ℕ) → c < 128 → nat_lt c 128 ≡ true
below c low = grind (arith, nat_tests, low)

above : (c : ℕ) → 128 ≤ c → nat_lt c 128 ≡ false
above c high = grind (arith, nat_tests, high)

low_scalar : (c : ℕ) → c < 128 → IsScalar c
low_scalar c low = grind (arith, nat_tests, low)

or_first : (x y : Bool) → y ≡ false → (x || y) ≡ true → x ≡ true
or_first true y none either = refl
or_first false y none either = cc

or_true : (x : Bool) → (x || true) ≡ true
or_true true = refl
or_true false = refl

-- bytes beyond ASCII are their own forms
high_forms : (how : Escaper) (bytes : List ℕ) → AllByRecursion IsHigh bytes → flat_map (byte_form how) bytes ≡ bytes
high_forms how [] are = refl
high_forms how (byte ∷ bytes) are =
    ap (λ l. l ++ flat_map (byte_form how) bytes)
    (cond-false (nat_lt byte 128) (encode_utf8_all (escaped_character how byte)) (byte ∷ []) (above byte are.0.0))
    ∙ ap (λ l. byte ∷ l) (high_forms how bytes are.1)

-- ---- characters

-- the character is of ASCII, or stands for itself
abbrev pub is_alone : Escaper → ℕ → Bool
is_alone how c = nat_lt c 128 || stands_for_itself how c

character_forms : (how : Escaper) (c : ℕ) → IsScalar c → is_alone how c ≡ true
    → encode_utf8_all (escaped_character how c) ≡ flat_map (byte_form how) (encode_utf8 c)
character_forms how c is alone =
    ⊎_elim
    (λ (low : c < 128). sym (ap (flat_map (byte_form how)) (encode_ascii c low) ∙ append-nil (byte_form how c)
    ∙ cond-true (nat_lt c 128) (encode_utf8_all (escaped_character how c)) (c ∷ []) (below c low)))
    (λ high. ap encode_utf8_all (own_form how c (or_second _ _ (above c high) alone)) ∙ append-nil (encode_utf8 c)
    ∙ sym (high_forms how (encode_utf8 c) (high_bytes c high (scalar_below c is))))
    (cases_lt c 128)

text_forms : (how : Escaper) (cs : List ℕ) → all_scalars cs ≡ true → list_all (is_alone how) cs ≡ true
    → encode_utf8_all (flat_map (escaped_character how) cs) ≡ flat_map (byte_form how) (encode_utf8_all cs)
text_forms how [] scalars alone = refl
text_forms how (c ∷ cs) scalars alone =
    let both = and_parts (scalar c) (all_scalars cs) scalars in
    let parts = and_parts (is_alone how c) (list_all (is_alone how) cs) alone in
    encodes-append (escaped_character how c) (flat_map (escaped_character how) cs)
    ∙ ap (λ l. l ++ encode_utf8_all (flat_map (escaped_character how) cs))
    (character_forms how c both.0 parts.0)
    ∙ ap (λ l. flat_map (byte_form how) (encode_utf8 c) ++ l) (text_forms how cs both.1 parts.1)
    ∙ sym (flat_map-append (byte_form how) (encode_utf8 c) (encode_utf8_all cs))

bytes_forms : (how : Escaper) (text : List ℕ) → IsUtf8 text → list_all (is_alone how) (chars text) ≡ true
    → encode_utf8_all (flat_map (escaped_character how) (chars text)) ≡ flat_map (byte_form how) text
bytes_forms how text utf8 alone =
    text_forms how (chars text) (scalars-chars text utf8) alone
    ∙ ap (flat_map (byte_form how)) (encodes-chars text utf8)

-- by Html no character beyond ASCII has a row
no_row : (rows : List (ℕ × List ℕ)) (c : ℕ) → list_all (λ row. nat_lt row.0 128) rows ≡ true → 128 ≤ c
    → row_text rows c ≡ None
no_row [] c low high = refl
no_row (row ∷ rows) c low high =
    let parts = and_parts (nat_lt row.0 128) (list_all (λ r. nat_lt r.0 128) rows) low in
    let here = parts.0 in
    let other : eqb row.0 c ≡ false = grind (arith, nat_tests, here, high) in
    cond-false (eqb row.0 c) (Some row.1) (row_text rows c) other ∙ no_row rows c parts.1 high

html_alone : (cs : List ℕ) → list_all (is_alone escaper.Html) cs ≡ true
html_alone [] = refl
html_alone (c ∷ cs) =
    and_from (is_alone escaper.Html c) (list_all (is_alone escaper.Html) cs)
    (⊎_elim
    (λ (low : c < 128). ap (λ b. b || stands_for_itself escaper.Html c) (below c low))
    (λ high. ap (λ b. b || stands_for_itself escaper.Html c) (above c high)
    ∙ (bytes_eq-Decides (escaped_character escaper.Html c) (c ∷ [])).1
    (ap (λ o. unwrap_or o (c ∷ [])) (no_row html_rows c refl high)))
    (cases_lt c 128))
    (html_alone cs)

pub html_forms : (text : List ℕ) → IsUtf8 text
    → encode_utf8_all (flat_map (escaped_character escaper.Html) (chars text)) ≡ flat_map (byte_form escaper.Html) text
html_forms text utf8 = bytes_forms escaper.Html text utf8 (html_alone (chars text))

-- ---- by the shares

module _ (how : Escaper) (shares : List ℕ) (are : AreShares how shares) where
  alone_by_lead : (c : ℕ) → IsScalar c → is_single shares (lead_byte c) ≡ true → is_alone how c ≡ true
  alone_by_lead c is single =
      ⊎_elim
      (λ (low : c < 128). ap (λ b. b || stands_for_itself how c) (below c low))
      (λ high.
      let lead : 128 ≤ lead_byte c = omega (arith, (lead_high c high (scalar_below c is)).0) in
      let own : is_other shares (lead_byte c) ≡ false = not-true _
      (or_second _ _ (above (lead_byte c) lead) single) in
      ap (λ b. b || stands_for_itself how c) (above c high)
      ∙ (bytes_eq-Decides (escaped_character how c) (c ∷ [])).1 (are.itself c is own).1)
      (cases_lt c 128)

  alone_by_bytes : (cs : List ℕ) → all_scalars cs ≡ true → list_all (is_single shares) (encode_utf8_all cs) ≡ true
      → list_all (is_alone how) cs ≡ true
  alone_by_bytes [] scalars single = refl
  alone_by_bytes (c ∷ cs) scalars single =
      let both = and_parts (scalar c) (all_scalars cs) scalars in
      let parts = and_parts (list_all (is_single shares) (encode_utf8 c))
      (list_all (is_single shares) (encode_utf8_all cs))
      (sym (list_all-append (is_single shares) (encode_utf8 c) (encode_utf8_all cs)) ∙ single) in
      let first = and_parts _ _ (sym (ap (list_all (is_single shares)) (split c)) ∙ parts.0) in
      and_from _ _ (alone_by_lead c both.0 first.0) (alone_by_bytes cs both.1 parts.1)

  pub single_forms : (text : List ℕ) → IsUtf8 text → list_all (is_single shares) text ≡ true
      → encode_utf8_all (flat_map (escaped_character how) (chars text)) ≡ flat_map (byte_form how) text
  single_forms text utf8 single =
      bytes_forms how text utf8 (alone_by_bytes (chars text) (scalars-chars text utf8)
      (ap (list_all (is_single shares)) (encodes-chars text utf8) ∙ single))

  -- ---- one byte

  -- that stands for itself
  low_own : (byte : ℕ) → byte < 128 → is_other shares byte ≡ false → byte_form how byte ≡ byte ∷ []
  low_own byte low own =
      let bytes : encode_utf8 byte ≡ byte ∷ [] = encode_ascii byte low in
      let lead : is_other shares (lead_byte byte) ≡ false =
      ap (λ l. is_other shares (slice_index_or l 0 0)) bytes ∙ own in
      cond-true (nat_lt byte 128) (encode_utf8_all (escaped_character how byte)) (byte ∷ []) (below byte low)
      ∙ ap encode_utf8_all (are.itself byte (low_scalar byte low) lead).1 ∙ append-nil (encode_utf8 byte) ∙ bytes

  pub own_byte : (byte : ℕ) → is_own shares byte ≡ true → byte_form how byte ≡ byte ∷ []
  own_byte byte own =
      ⊎_elim
      (λ (low : byte < 128).
      let not_high : nat_le 128 byte ≡ false = grind (arith, nat_tests, low) in
      low_own byte low (not-true _ (or_first (not (is_other shares byte)) (nat_le 128 byte) not_high own)))
      (λ high. cond-false (nat_lt byte 128) (encode_utf8_all (escaped_character how byte)) (byte ∷ [])
      (above byte high))
      (cases_lt byte 128)

-- that has a form of its own
pub other_low : (shares : List ℕ) (byte : ℕ) → is_own shares byte ≡ false → byte < 128
other_low shares byte other =
    ⊎_elim
    (λ (low : byte < 128). low)
    (λ high.
    let yes : nat_le 128 byte ≡ true = grind (arith, nat_tests, high) in
    let both : is_own shares byte ≡ true =
    ap (λ b. not (is_other shares byte) || b) yes ∙ or_true (not (is_other shares byte)) in
    cc)
    (cases_lt byte 128)

pub other_form : (how : Escaper) (byte : ℕ) → byte < 128 → byte_form how byte
    ≡ encode_utf8_all (escaped_character how byte)
other_form how byte low =
    cond-true (nat_lt byte 128) (encode_utf8_all (escaped_character how byte)) (byte ∷ []) (below byte low)

small : (form : List ℕ) → is_short form ≡ true → length form ≤ 6
small form is = grind (arith, nat_tests, is)

short_at : (how : Escaper) (c n i : ℕ) → list_all is_short (forms_from how c n) ≡ true → i < n
    → length (encode_utf8_all (escaped_character how (c + i))) ≤ 6
short_at how c zero i short within = absurd (omega (arith, within))
short_at how c (suc n) zero short within =
    let parts = and_parts (is_short (encode_utf8_all (escaped_character how c)))
    (list_all is_short (forms_from how (c + 1) n)) short in
    let here : c ≡ c + 0 = omega arith in
    let P : ℕ → Type 0 = λ k. length (encode_utf8_all (escaped_character how k)) ≤ 6 in
    subst P here (small (encode_utf8_all (escaped_character how c)) parts.0)
short_at how c (suc n) (suc i) short within =
    let parts = and_parts (is_short (encode_utf8_all (escaped_character how c)))
    (list_all is_short (forms_from how (c + 1) n)) short in
    let next : c + 1 + i ≡ c + suc i = omega arith in
    let less : i < n = omega (arith, within) in
    let P : ℕ → Type 0 = λ k. length (encode_utf8_all (escaped_character how k)) ≤ 6 in
    subst P next (short_at how (c + 1) n i parts.1 less)

pub short_form : (how : Escaper) (byte : ℕ) → list_all is_short (ascii_forms how) ≡ true → byte < 128
    → length (encode_utf8_all (escaped_character how byte)) ≤ 6
short_form how byte short low =
    let same : 0 + byte ≡ byte = omega arith in
    let P : ℕ → Type 0 = λ k. length (encode_utf8_all (escaped_character how k)) ≤ 6 in
    subst P same (short_at how 0 128 byte short low)

-- ---- a text of which a prefix stands for itself

pub own_forms : (how : Escaper) (cs : List ℕ) → list_all (stands_for_itself how) cs ≡ true
    → flat_map (escaped_character how) cs ≡ cs
own_forms how [] own = refl
own_forms how (c ∷ cs) own =
    let parts = and_parts (stands_for_itself how c) (list_all (stands_for_itself how) cs) own in
    ap (λ l. l ++ flat_map (escaped_character how) cs) (own_form how c parts.0)
    ∙ ap (λ l. c ∷ l) (own_forms how cs parts.1)

pub body_forms : (how : Escaper) (text plain others : List ℕ) → text ≡ plain ++ others → IsUtf8 plain
    → list_all (stands_for_itself how) (chars plain) ≡ true
    → encode_utf8_all (flat_map (escaped_character how) (chars others)) ≡ flat_map (byte_form how) others
    → encode_utf8_all (flat_map (escaped_character how) (chars text)) ≡ plain ++ flat_map (byte_form how) others
body_forms how text plain others whole utf8 own rest =
    let form : ℕ → List ℕ = escaped_character how in
    ap (λ l. encode_utf8_all (flat_map form (chars l))) whole
    ∙ ap (λ l. encode_utf8_all (flat_map form l)) (chars-append plain others utf8)
    ∙ ap encode_utf8_all (flat_map-append form (chars plain) (chars others))
    ∙ encodes-append (flat_map form (chars plain)) (flat_map form (chars others))
    ∙ ap (λ l. l ++ encode_utf8_all (flat_map form (chars others)))
    (ap encode_utf8_all (own_forms how (chars plain) own) ∙ encodes-chars plain utf8)
    ∙ ap (λ l. plain ++ l) rest
