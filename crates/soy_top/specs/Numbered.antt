-- The line of a fault in one of several files.
--
-- Example: a fault of the file 1 is shown with the second name, at its line and column in the second content.
use Rattle.std.specs.Prelude.{ℕ, List, [], slice_get, unwrap_or}
use Rattle.soy_base.specs.declared.fault.Fault.{Fault}
use Rattle.soy_top.specs.Line.{fault_line}
use Rattle.soy_top.specs.Words.{Word}

-- the name or the content of a number, counted from 0
abbrev pub numbered : ℕ → List (List ℕ) → List ℕ
numbered n items = unwrap_or (slice_get items n) []

-- the line of a fault in one of the files of these names and contents
abbrev pub numbered_line : List Word → List (List ℕ) → Fault → List ℕ
numbered_line names files fault = fault_line (numbered fault.file names) (numbered fault.file files) fault
