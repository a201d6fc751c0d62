-- What the reading of files answers.
use Rattle.std.specs.Prelude.{◌≡◌, ℕ, List, Vec, Result, Ok, Err}
use Rattle.std.specs.declared.alloc.Global.{Global}
use Rattle.soy_base.specs.declared.fault.Fault.{Fault}
use Rattle.soy_base.specs.declared.memory.Refusal.{Refusal}
use Rattle.soy_base.specs.declared.memory.Refusal.TheVariants.{Because, OutOfMemory}
use Rattle.soy_tree.specs.declared.tree.Tree.{Tree}
use Rattle.soy_front.specs.FilesAnswer as answer
use Rattle.soy_front.specs.FilesAnswer.{fault_in}
use Rattle.soy_front.specs.declared.files.ReadFiles as code

-- a refusal of a file, which is that of a number
abbrev pub InFile : ℕ → Refusal Fault → Refusal Fault → Type 0
InFile file (Because fault) refusal = refusal ≡ Because (fault_in file fault)
InFile file OutOfMemory refusal = refusal ≡ OutOfMemory

-- the trees, or the first fault
abbrev pub ReadsTrees : Result (List Tree) Fault → Result (Vec Tree Global) (Refusal Fault) → Type 0
ReadsTrees wanted (Ok trees) = wanted ≡ Ok trees.items
ReadsTrees wanted (Err (Because fault)) = wanted ≡ Err fault
ReadsTrees wanted (Err OutOfMemory) = Unit {0}

abbrev pub view_files : code.ReadFiles → answer.ReadFiles
view_files files = record { trees = files.typed; rows = files.catalogue.messages }

-- the trees and their catalogue, or the first fault
abbrev pub ReadsFiles : Result answer.ReadFiles Fault → Result code.ReadFiles (Refusal Fault) → Type 0
ReadsFiles wanted (Ok files) = wanted ≡ Ok (view_files files)
ReadsFiles wanted (Err (Because fault)) = wanted ≡ Err fault
ReadsFiles wanted (Err OutOfMemory) = Unit {0}
