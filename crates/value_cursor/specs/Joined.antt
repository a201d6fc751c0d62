-- What is given into rooms one after another: into each as much as it holds of what is left.
--
-- Of `abcd` rooms of 1, 2 and 3 bytes are given `a`, `bc` and `d`, together `abcd`.
use Rattle.std.specs.Prelude.{ℕ, List, [], ◌∷◌, ◌++◌, take, drop}

abbrev pub joined_rooms : List ℕ → List ℕ → List ℕ
joined_rooms [] left = []
joined_rooms (size ∷ sizes) left = take size left ++ joined_rooms sizes (drop size left)
