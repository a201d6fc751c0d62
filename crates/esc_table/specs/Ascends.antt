-- The rows stand in strictly ascending order of their characters, so no two have the same one.
--
-- The characters 34, 38, 60 ascend; 34, 34, 60 do not, nor do 38, 34, 60.
use Rattle.std.specs.Prelude.{ℕ, List, [], ◌∷◌, Bool, true, ◌&&◌, nat_lt, IsTrue}

abbrev pub is_ascending : List (ℕ × List ℕ) → Bool
is_ascending [] = true
is_ascending (row ∷ []) = true
is_ascending (row ∷ next ∷ rows) = nat_lt row.0 next.0 && is_ascending (next ∷ rows)

abbrev pub Ascends : List (ℕ × List ℕ) → Type 0
Ascends rows = IsTrue (is_ascending rows)
