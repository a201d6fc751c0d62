-- The parts that are left of a text that is read part by part, around a delimiter: none, or those of what follows the
-- delimiter.
--
-- Example: of `a.b.c`, once `a` is read, the parts of `b.c` are left: `b` and `c`.
use Rattle.std.specs.Prelude.{ℕ, List, [], Option, None, Some, ◌==◌}
use Rattle.std.specs.List.{slice_split}
use Rattle.std.specs.Str.{chars}
use denote.Ref.{Bor}

abbrev pub parts_left : ℕ → Option (Bor (List ℕ)) → List (List ℕ)
parts_left delimiter None = []
parts_left delimiter (Some rest) = slice_split (λ c. c == delimiter) (chars rest.now)
