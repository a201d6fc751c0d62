-- What the reading of a template file answers: its tree or its first fault, which lies within the file; or that memory
-- ran out.
use Rattle.std.specs.Prelude.{◌≡◌, ℕ, ◌≤◌, Result, Ok, Err}
use Rattle.soy_base.specs.declared.fault.Fault.{Fault}
use Rattle.soy_base.specs.declared.memory.Refusal.{Refusal}
use Rattle.soy_base.specs.declared.memory.Refusal.TheVariants.{Because, OutOfMemory}
use Rattle.soy_tree.specs.declared.tree.Tree.{Tree}

abbrev pub ReadsSource : Result Tree Fault → Result Tree (Refusal Fault) → Type 0
ReadsSource answer (Ok tree) = answer ≡ Ok tree
ReadsSource answer (Err (Because fault)) = answer ≡ Err fault
ReadsSource answer (Err OutOfMemory) = Unit {0}

-- a fault is at most at the end of so many bytes
abbrev pub FaultWithin : ℕ → Result Tree (Refusal Fault) → Type 0
FaultWithin end (Ok tree) = Unit {0}
FaultWithin end (Err (Because fault)) = fault.at ≤ end
FaultWithin end (Err OutOfMemory) = Unit {0}
