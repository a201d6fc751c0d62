-- The bytes that a sink has taken, where they are known, after it took these bytes as well.
--
-- Example: "ab" with "c" added is "abc"; what isn't known stays unknown.
use Rattle.std.specs.Prelude.{ℕ, List, ◌++◌, Option, None, Some}

abbrev pub added : Option (List ℕ) → List ℕ → Option (List ℕ)
added None bytes = None
added (Some before) bytes = Some (before ++ bytes)
