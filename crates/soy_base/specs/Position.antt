-- Lines and columns.
--
-- A line break is LF, CR LF, or CR without an LF after it. The line of an offset is one more than the
-- number of line breaks that end at or before it. The column is one more than the number of
-- characters that begin between the end of the last of these breaks, or the start of the text where
-- there is none, and the offset: of bytes outside 128 to 191, which are those that continue a
-- character in UTF-8 (RFC 3629, section 3).
-- Example: in the bytes of "a", CR, LF, "é", "b" the offset 5, before the "b", is in line 2, column 2.
use Rattle.std.specs.Prelude.{ℕ, suc, zero, ◌+◌, ◌-◌, ◌==◌, ◌&&◌, ◌||◌, not, nat_lt, Bool, List, if◌then◌else◌}
use Rattle.std.specs.Prelude.{slice_index, take, drop, count_by}
use Rattle.soy_base.specs.Characters.{line_feed, carriage_return}

-- whether a line break ends right after the byte at `at`; past the end of a text the byte is 0
abbrev pub is_break_end : List ℕ → ℕ → Bool
is_break_end text at =
    (slice_index text at == line_feed)
    || ((slice_index text at == carriage_return) && not (slice_index text (at + 1) == line_feed))

-- the number of line breaks that end within the first bytes of a text
unfoldable pub breaks_within : List ℕ → ℕ → ℕ
breaks_within text zero = 0
breaks_within text (suc at) = breaks_within text at + (if is_break_end text at then 1 else 0)

-- the offset where the last of these breaks ends, or 0 where there is none
unfoldable pub line_start : List ℕ → ℕ → ℕ
line_start text zero = 0
line_start text (suc at) = if is_break_end text at then suc at else line_start text at

-- whether a byte is the first of a character
abbrev pub begins_character : ℕ → Bool
begins_character byte = nat_lt byte 128 || nat_lt 191 byte

-- the number of characters that begin from the start of the offset's line up to the offset
abbrev pub characters_before : List ℕ → ℕ → ℕ
characters_before text at =
    let start = line_start text at in count_by begins_character (take (at - start) (drop start text))
