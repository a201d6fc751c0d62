-- The text of a page as it is seen: each of its lines, in visual order, followed by a line feed.
--
-- A page is given as its bytes. Its lines are those of bidi_preview's Seen: without markup, initiators, PDI and what X9
-- removes; a line of white space alone is left out. A page of more than 1,048,576 bytes isn't shown.
-- Example: the page `<p>a</p> <p>b</p>` is seen as the lines `a` and `b`.
use Rattle.std.specs.Prelude.{ℕ, List, Bool, encode_utf8_all, length, nat_lt}
use Rattle.std.specs.List.{flat_map}
use Rattle.std.specs.Str.{chars}
use Rattle.bidi_preview.specs.Seen.{seen}
use Rattle.soy_base.specs.declared.direction.Dir.{Dir}
use Rattle.soy_top.specs.Line.{ended}

-- a line as UTF-8, with its line feed
abbrev pub line_text : List ℕ → List ℕ
line_text line = ended (encode_utf8_all line)

abbrev pub lines_text : List (List ℕ) → List ℕ
lines_text lines = flat_map line_text lines

-- the bytes of the lines of a page, in a context of a direction
abbrev pub seen_text : Dir → List ℕ → List ℕ
seen_text context page = lines_text (seen (chars page) context)

-- the most bytes of a page that is shown
abbrev pub largest_shown : ℕ
largest_shown = 1048576

-- the page is too long to be shown
abbrev pub is_too_long : List ℕ → Bool
is_too_long page = nat_lt largest_shown (length page)
