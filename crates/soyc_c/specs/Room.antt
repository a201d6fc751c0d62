-- A room after a text was put into it: the beginning of the text that fits, and then what stood there before.
--
-- Example: "wxyz" is filled by "ab" to "abyz", and by "abcdef" to "abcd".
use Rattle.std.specs.Prelude.{ℕ, List, ◌++◌, length, take, drop}

abbrev pub filled : List ℕ → List ℕ → List ℕ
filled room text = take (length room) text ++ drop (length text) room
