-- What stands between the members or fields of a type.
-- Example: with `|` between them, nothing stands before the member 0, and `|` before the member 1.
use Rattle.std.specs.Prelude.{ℕ, zero, suc, List, []}

-- what stands before an item of this number
abbrev pub separator_before : ℕ → List ℕ → List ℕ
separator_before zero separator = []
separator_before (suc n) separator = separator
