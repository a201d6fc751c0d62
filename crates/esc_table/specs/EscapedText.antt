-- A text escaped by a table: for each of its characters the text of the character's row, and the
-- character itself where it has none, joined in their order.
--
-- With the row (60, "&lt;") the text "a<b" becomes "a&lt;b".
use Rattle.std.specs.Prelude.{ℕ, List, [], ◌∷◌, unwrap_or}
use Rattle.std.specs.List.{flat_map}
use Rattle.esc_table.specs.RowText.{row_text}

-- what stands for one character
abbrev pub escaped_character : List (ℕ × List ℕ) → ℕ → List ℕ
escaped_character rows c = unwrap_or (row_text rows c) (c ∷ [])

abbrev pub escaped_text : List (ℕ × List ℕ) → List ℕ → List ℕ
escaped_text rows text = flat_map (escaped_character rows) text
