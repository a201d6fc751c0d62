-- What is answered of the contents of files without a bundle: their trees and their catalogue, or their first fault.
--
-- The first file over the limit is refused (2). Else each file is read by itself, in order, and the first that has a
-- fault of its own is refused by it. Where none has one, the demands on the trees of all files together are asked (6 to
-- 9 and 20), and then their messages (26). Files are counted from 0. That this is what files deserve is a law.
-- Example: where the first of two files prints an unknown variable and the second isn't UTF-8, the answer is the 1 of
-- the second.
use Rattle.std.specs.Prelude.{ℕ, ◌+◌, nat_lt, List, [], ◌∷◌, length, Option, Some, None, Result, Ok, Err}
use Rattle.std.specs.Prelude.{if◌then◌else◌}
use Rattle.soy_base.specs.declared.code.Code.TheVariants as code
use Rattle.soy_base.specs.declared.fault.Fault.{Fault}
use Rattle.soy_base.specs.Limits.{largest_file}
use Rattle.soy_tree.specs.declared.tree.Tree.{Tree}
use Rattle.soy_rules.specs.Demands.{CheckFault, check_fault}
use Rattle.soy_rules.specs.Faults.{followed_by}
use Rattle.soy_tree.specs.ViewTrees.{view_trees}
use Rattle.msg_extract.specs.Catalogue.{catalogue_of}
use Rattle.msg_extract.specs.declared.catalogue.Listed.{Listed}
use Rattle.soy_front.specs.Sources.{source_answer}

-- that the file of a number is over the limit
abbrev pub too_large : ℕ → Fault
too_large file = record { code = code.TooLarge; file = file; at = 0 }

-- the first such file, files being counted from a number on
abbrev pub large_from : ℕ → List (List ℕ) → Option Fault
large_from file [] = None
large_from file (bytes ∷ contents) =
    if nat_lt largest_file (length bytes) then Some (too_large file) else large_from (file + 1) contents

abbrev pub unless_large : {A : Type 0} → Option Fault → Result A Fault → Result A Fault
unless_large None answer = answer
unless_large (Some fault) answer = Err fault

-- a fault of a file, which is the file of this number
abbrev pub fault_in : ℕ → Fault → Fault
fault_in file fault = record { code = fault.code; file = file; at = fault.at }

-- what is answered of a file, and then of those after it
abbrev pub with_tree : ℕ → Result Tree Fault → Result (List Tree) Fault → Result (List Tree) Fault
with_tree file (Ok tree) rest = followed_by rest (λ trees. Ok (tree ∷ trees))
with_tree file (Err fault) rest = Err (fault_in file fault)

-- the trees of files that are counted from a number on, each by itself, or the first fault
abbrev pub trees_from : ℕ → List (List ℕ) → Result (List Tree) Fault
trees_from file [] = Ok []
trees_from file (bytes ∷ contents) = with_tree file (source_answer bytes) (trees_from (file + 1) contents)

-- a failed demand as a fault of its file
abbrev pub fault_of : CheckFault → Fault
fault_of found = record { code = found.fault.code; file = found.file; at = found.fault.at }

-- trees, unless a demand on them fails
abbrev pub unless_found : List Tree → Option CheckFault → Result (List Tree) Fault
unless_found trees None = Ok trees
unless_found trees (Some found) = Err (fault_of found)

-- the trees with their catalogue
pub record ReadFiles : Type 0 where
  pub trees : List Tree
  pub rows : List Listed

abbrev pub catalogued : List Tree → Result ReadFiles Fault
catalogued trees =
    followed_by (catalogue_of (view_trees trees)) (λ rows. Ok (record { trees = trees; rows = rows }))

-- the same where all demands on the trees hold, or the first that fails
abbrev pub demanded : List Tree → Result ReadFiles Fault
demanded trees = followed_by (unless_found trees (check_fault (view_trees trees))) catalogued

-- of files within the limit
abbrev pub trees_answer : List (List ℕ) → Result ReadFiles Fault
trees_answer contents = followed_by (trees_from 0 contents) demanded

-- **the trees of files and their catalogue, or the first fault**
abbrev pub files_answer : List (List ℕ) → Result ReadFiles Fault
files_answer contents = unless_large (large_from 0 contents) (trees_answer contents)
