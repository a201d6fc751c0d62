-- The text of the row that has the character, and none where no row has it.
--
-- With the rows (38, "&amp;") and (60, "&lt;") the text of 60 is "&lt;", and 61 has none.
use Rattle.std.specs.Prelude.{ℕ, List, [], ◌∷◌, Option, None, Some, ◌==◌, if◌then◌else◌}

abbrev pub row_text : List (ℕ × List ℕ) → ℕ → Option (List ℕ)
row_text [] c = None
row_text (row ∷ rows) c = if row.0 == c then Some row.1 else row_text rows c
