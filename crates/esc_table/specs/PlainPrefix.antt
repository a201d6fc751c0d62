-- The longest prefix of a text in which no character has a row, so that it stands for itself.
--
-- With a row for 60 alone the prefix of the text `ab<c` is `ab`.
use Rattle.std.specs.Prelude.{ℕ, List, Bool, is_none, take_while}
use Rattle.esc_table.specs.RowText.{row_text}

abbrev pub has_no_row : List (ℕ × List ℕ) → ℕ → Bool
has_no_row rows c = is_none (row_text rows c)

abbrev pub plain_prefix : List (ℕ × List ℕ) → List ℕ → List ℕ
plain_prefix rows text = take_while (has_no_row rows) text
