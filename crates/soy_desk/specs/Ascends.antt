-- Open renderings whose names ascend.
--
-- An opening has the number of openings before it as its name, and is put last, so those that are open stand in the
-- order of their names, whichever were closed: a name is found by binary search.
-- Example: those named 2 and 5 ascend from 0, and from 2, to 6.
use Rattle.std.specs.Prelude.{ℕ, ◌+◌, ◌≤◌, List, [], ◌∷◌}
use Rattle.soy_desk.specs.DeskState.{Entry}

-- the names ascend from a number, and are below another
abbrev pub Ascends : ℕ → List Entry → ℕ → Type 0
Ascends low [] high = low ≤ high
Ascends low (e ∷ es) high = (low ≤ e.name) × Ascends (e.name + 1) es high
