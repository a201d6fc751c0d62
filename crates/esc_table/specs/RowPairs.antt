-- A table's rows as contracts see them: each is its character and the characters of its text.
--
-- The row of '<' with the text "&lt;" is (60, 38 ∷ 108 ∷ 116 ∷ 59 ∷ []).
use Rattle.std.specs.Prelude.{ℕ, List, map}
use Rattle.std.specs.Str.{chars}
use Rattle.esc_table.specs.declared.table.Row.{Row}

abbrev pub row_pairs : List Row → List (ℕ × List ℕ)
row_pairs rows = map (λ row. (row.from, chars row.to.now)) rows
