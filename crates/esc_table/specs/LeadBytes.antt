-- The lead bytes of a table's rows, as a flag for each of the 256 bytes: true at the first byte in UTF-8 of each
-- character that has a row, and false at each byte that begins no character (0x80 to 0xBF; RFC 3629, section 3). So no
-- character before the first flagged byte of a text has a row, and the text may be cut there.
--
-- With rows for 38 and U+2028 alone the flags at 38 and at 0xE2, the first byte of E2 80 A8, are true.
use Rattle.std.specs.Prelude.{ℕ, List, Bool, false, not, ◌&&◌, IsTrue, encode_utf8}
use Rattle.std.specs.List.{list_all, slice_index_or, slice_range}

-- the first byte of a character
abbrev pub lead_byte : ℕ → ℕ
lead_byte c = slice_index_or (encode_utf8 c) 0 0

abbrev pub is_flagged : List Bool → ℕ → Bool
is_flagged flags byte = slice_index_or flags byte false

abbrev pub LeadBytes : List (ℕ × List ℕ) → List Bool → Type 0
LeadBytes rows flags =
    IsTrue (list_all (λ row. is_flagged flags (lead_byte row.0)) rows && list_all not (slice_range flags 0x80 0xC0))
