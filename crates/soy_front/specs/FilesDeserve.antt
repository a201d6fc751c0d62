-- What files deserve by the rules: a tree for each of them, or the first fault, which is that one is over the limit, or
-- that of one by itself.
--
-- Example: of the two files `{namespace a}` and `{namespace b` the second deserves the 4 at its end.
use Rattle.std.specs.Prelude.{◌≡◌, ℕ, ◌≤◌, ◌<◌, List, [], ◌∷◌, ◌++◌, length, Ok, Err}
use Rattle.soy_base.specs.declared.fault.Fault.{Fault}
use Rattle.soy_base.specs.Limits.{largest_file}
use Rattle.soy_tree.specs.declared.tree.Tree.{Tree}
use Rattle.soy_front.specs.Deserves.{Deserves}
use Rattle.soy_front.specs.FilesAnswer.{fault_in, too_large}

-- each file is within the limit
abbrev pub AreWithin : List (List ℕ) → Type 0
AreWithin [] = Unit {0}
AreWithin (bytes ∷ contents) = (length bytes ≤ largest_file) × AreWithin contents

-- a file is over the limit, and none before it
pub record HasLargeFile (contents : List (List ℕ)) (fault : Fault) : Type 0 where
  pub before : List (List ℕ)
  pub bytes : List ℕ
  pub after : List (List ℕ)
  pub are : contents ≡ before ++ bytes ∷ after
  pub within : AreWithin before
  pub over : largest_file < length bytes
  pub is : fault ≡ too_large (length before)

-- each file deserves the tree of its number
pub data HaveTrees : List (List ℕ) → List Tree → Type 0 where
  none : HaveTrees [] []
  one_more : (bytes : List ℕ) (tree : Tree) (contents : List (List ℕ)) (trees : List Tree) → Deserves bytes (Ok tree)
      → HaveTrees contents trees → HaveTrees (bytes ∷ contents) (tree ∷ trees)

-- a file deserves a fault, and each before it a tree
pub record HasOwnFault (contents : List (List ℕ)) (fault : Fault) : Type 0 where
  pub before : List (List ℕ)
  pub trees : List Tree
  pub bytes : List ℕ
  pub after : List (List ℕ)
  pub own : Fault
  pub are : contents ≡ before ++ bytes ∷ after
  pub have : HaveTrees before trees
  pub deserves : Deserves bytes (Err own)
  pub is : fault ≡ fault_in (length before) own
