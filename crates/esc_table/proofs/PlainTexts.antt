-- Texts of bytes that aren't flagged have no character with a row, and stand for themselves; where a byte is flagged a
-- text may be cut.
use Rattle.std.proofs.Common.{eqb, ◌≡◌, ℕ, ◌<◌, ◌≤◌, List, [], ◌∷◌, ◌++◌, ◌∙◌, Bool, true, false, not, None, Some}
use Rattle.std.proofs.Common.{Option, zero, suc, ◌+◌, ◌-◌, drop, unwrap_or, refl, sym, ap, All, length, encode_utf8}
use Rattle.std.proofs.Common.{encode_utf8_all, length-append, ⊎_elim, arith}
use Rattle.std.specs.Prelude.{is_none}
use Rattle.std.specs.Str.{chars, IsUtf8, IsCharBoundary}
use Rattle.std.specs.List.{list_all, slice_index_or, slice_range}
use Rattle.std.proofs.Math.Seq.{drop-append_seam}
use Rattle.std.proofs.lemmas.Bool.{and_from, and_parts, both_ways, cases_Bool, cases_lt, cond-false, eqb-true, not-true}
use Rattle.std.proofs.lemmas.List.{get_or_append_left, get_or-drop, get_or-take}
use Rattle.std.proofs.lemmas.List.Elements.{All-drop}
use Rattle.std.proofs.lemmas.Str.{encodes-chars, length-encode, len_utf8_bounds}
use Rattle.esc_table.specs.EscapedText.{escaped_text}
use Rattle.esc_table.specs.LeadBytes.{is_flagged, lead_byte, LeadBytes}
use Rattle.esc_table.specs.PlainPrefix.{has_no_row}
use Rattle.esc_table.specs.RowText.{row_text}

-- none of these bytes is flagged
abbrev pub Unflagged : List Bool → List ℕ → Type 0
Unflagged flags bytes = All (λ byte. is_flagged flags byte ≡ false) bytes

-- a character whose first byte isn't flagged has no row
pub unflagged_none : (rows : List (ℕ × List ℕ)) (flags : List Bool) (c : ℕ) →
    list_all (λ row. is_flagged flags (lead_byte row.0)) rows ≡ true → is_flagged flags (lead_byte c) ≡ false
    → row_text rows c ≡ None
unflagged_none [] flags c all is = refl
unflagged_none (row ∷ rows) flags c all is =
    let parts = and_parts _ _ all in
    ⊎_elim
    (λ same. absurd (both_ways (is_flagged flags (lead_byte c)) is
    (ap (λ d. is_flagged flags (lead_byte d)) (sym (eqb-true row.0 c same)) ∙ parts.0)))
    (λ other. cond-false (eqb row.0 c) (Some row.1) (row_text rows c) other ∙ unflagged_none rows flags c parts.1 is)
    (cases_Bool (eqb row.0 c))

-- a character has a first byte
begins : (c : ℕ) → 0 < length (encode_utf8 c)
begins c = omega (arith, length-encode c, (len_utf8_bounds c).0)

module _ (rows : List (ℕ × List ℕ)) (flags : List Bool) (leads : LeadBytes rows flags) where
  -- characters whose bytes aren't flagged have no row
  plain_characters : (cs : List ℕ) → Unflagged flags (encode_utf8_all cs) → list_all (has_no_row rows) cs ≡ true
  plain_characters [] unflagged = refl
  plain_characters (c ∷ cs) unflagged =
      let bytes : List ℕ = encode_utf8 c in
      let others : List ℕ = encode_utf8_all cs in
      let here : is_flagged flags (lead_byte c) ≡ false =
      ap (is_flagged flags) (sym (get_or_append_left bytes others 0 0 (begins c)))
      ∙ unflagged 0 0 (omega (arith, begins c, length-append bytes others)) in
      let rest : Unflagged flags others =
      rw (← drop-append_seam bytes others) (All-drop (λ byte. is_flagged flags byte ≡ false) (length bytes)
      (bytes ++ others) unflagged) in
      and_from _ _ (ap is_none (unflagged_none rows flags c (and_parts _ _ leads).0 here)) (plain_characters cs rest)

  pub plain_text : (text : List ℕ) → IsUtf8 text → Unflagged flags text → list_all (has_no_row rows) (chars text) ≡ true
  plain_text text utf8 unflagged = plain_characters (chars text) (rw (encodes-chars text utf8) unflagged)

-- a text without such characters stands for itself
pub plain_escaped : (rows : List (ℕ × List ℕ)) (cs : List ℕ) → list_all (has_no_row rows) cs ≡ true
    → escaped_text rows cs ≡ cs
plain_escaped rows [] none = refl
plain_escaped rows (c ∷ cs) none =
    let parts = and_parts _ _ none in
    itself (row_text rows c) parts.0 ∙ ap (λ l. c ∷ l) (plain_escaped rows cs parts.1) where
      itself : (row : Option (List ℕ)) → is_none row ≡ true → unwrap_or row (c ∷ []) ++ escaped_text rows cs
          ≡ c ∷ escaped_text rows cs
      itself None is = refl
      itself (Some to) is = cc

-- a list of flags none of which is true has none that is at an index
none_true : (flags : List Bool) (i : ℕ) → list_all not flags ≡ true → slice_index_or flags i false ≡ true → ⊥
none_true [] i all is = both_ways false refl is
none_true (flag ∷ flags) zero all is = both_ways flag (not-true flag (and_parts _ _ all).0) is
none_true (flag ∷ flags) (suc i) all is = none_true flags i (and_parts _ _ all).1 is

-- a byte that is flagged begins a character
pub flag_begins : (rows : List (ℕ × List ℕ)) (flags : List Bool) → LeadBytes rows flags → (byte : ℕ)
    → is_flagged flags byte ≡ true → 128 ≤ byte → 192 ≤ byte
flag_begins rows flags leads byte is high =
    ⊎_elim
    (λ (low : byte < 192).
    let at : 128 + (byte - 128) ≡ byte = omega (arith, high) in
    let here : slice_index_or (slice_range flags 0x80 0xC0) (byte - 128) false ≡ true =
    get_or-take 64 (drop 128 flags) (byte - 128) false (omega (arith, low, high)) ∙ get_or-drop 128 flags (byte - 128)
    false ∙ ap (λ i. slice_index_or flags i false) at ∙ is in
    absurd (none_true (slice_range flags 0x80 0xC0) (byte - 128) (and_parts _ _ leads).1 here))
    (λ above. above)
    (cases_lt byte 192)

-- so a text may be cut where one stands
pub flag_cuts : (rows : List (ℕ × List ℕ)) (flags : List Bool) → LeadBytes rows flags → (text : List ℕ) (at : ℕ)
    → at < length text
    → is_flagged flags (slice_index_or text at 0) ≡ true → IsCharBoundary text at
flag_cuts rows flags leads text at within is =
    (omega (arith, within), λ _ high. flag_begins rows flags leads (slice_index_or text at 0) is high)
