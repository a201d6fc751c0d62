-- What a cursor still has to give of a text's escaped form, in bytes: what is pending, then the forms of the characters
-- from its offset on, each cleaned and escaped, then what closes the form. The characters are the text's own, or those
-- of another text that stands instead of it.
--
-- A cursor by Html at the offset 1 of `a<b`, with nothing pending, has `&lt;b` left.
use Rattle.std.specs.Prelude.{◌≡◌, ℕ, ◌+◌, ◌≤◌, List, [], ◌∷◌, ◌++◌, length, drop, IsTrue, encode_utf8_all}
use Rattle.std.specs.Char.{len_utf8}
use Rattle.std.specs.Option.{option_map_or}
use Rattle.std.specs.Str.{chars, IsCharBoundary}
use Rattle.escapers.specs.Esc.{escaped_character, is_by_characters}
use Rattle.value_cursor.specs.Cleaned.{MarksAscend, cleaned}
use Rattle.value_cursor.specs.declared.cursor.Cursor.{Cursor}
use Rattle.value_cursor.specs.declared.plan.Plan.{Plan}
use Rattle.value_cursor.specs.declared.progress.Progress.{Progress}

-- the text whose characters are escaped
abbrev pub source : Plan → List ℕ → List ℕ
source plan text = option_map_or (λ other. other.now) plan.instead text

-- the form of the character at an offset
abbrev pub form : Plan → ℕ → ℕ → List ℕ
form plan offset c = option_map_or (escaped_character plan.how) (cleaned plan.cleaning offset c) []

-- the forms of the characters from an offset on
abbrev pub forms : Plan → ℕ → List ℕ → List ℕ
forms plan offset [] = []
forms plan offset (c ∷ cs) = form plan offset c ++ forms plan (offset + len_utf8 c) cs

-- in bytes, of what stands in the source at the offset and after it
abbrev pub bytes_from : Plan → List ℕ → ℕ → List ℕ
bytes_from plan source offset = encode_utf8_all (forms plan offset (chars (drop offset source)))

-- what is pending, and what follows it
abbrev pub bytes_after : Plan → List ℕ → Progress → List ℕ
bytes_after plan source progress = progress.pending ++ bytes_from plan source progress.offset

abbrev pub bytes_left : Cursor → List ℕ → List ℕ
bytes_left cursor text = bytes_after cursor.plan (source cursor.plan text) cursor.progress ++ cursor.closing.now

-- the escaper gives each character a form, and the offsets of what is left out ascend
abbrev pub IsPlan : Plan → Type 0
IsPlan plan = IsTrue (is_by_characters plan.how) × MarksAscend plan.cleaning

-- the cursor stands for the last bytes of this text's escaped form, as many as it counts
pub record CursorFits (cursor : Cursor) (text : List ℕ) : Type 0 where
  pub plan : IsPlan cursor.plan
  pub boundary : IsCharBoundary (source cursor.plan text) cursor.progress.offset
  pub closing : length cursor.closing.now ≤ 16
  pub count : cursor.left ≡ length (bytes_left cursor text)
