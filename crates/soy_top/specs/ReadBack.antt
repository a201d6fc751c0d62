-- Canonical source that is a file: by itself it has a tree, which differs in spans alone from the one that it is written
-- for. So it is its own canonical source, and files and their canonical sources are alike.
--
-- Example: `{namespace t}` and a line feed are the canonical source of `{namespace t} // a comment`.
use Rattle.std.specs.Prelude.{◌≡◌, ℕ, ◌≤◌, List, [], ◌∷◌, length, Ok}
use Rattle.std.specs.Str.{IsUtf8}
use Rattle.soy_format.specs.WithoutSpans.{AreAlike}
use Rattle.soy_front.specs.Deserves.{Deserves}
use Rattle.soy_tree.specs.ViewTrees.{view_tree}
use Rattle.soy_tree.specs.declared.tree.Tree.{Tree}
use Rattle.soy_top.specs.Answer.{canonical_source}

-- a text, no larger than a file may be, that is the canonical source of a file
pub record IsCanonicalOf (bytes text : List ℕ) : Type 0 where
  pub tree : Tree
  pub deserves : Deserves bytes (Ok tree)
  pub text_is : text ≡ canonical_source tree
  pub utf8 : IsUtf8 text
  pub within : length text ≤ 1048576

-- texts that are those of files, one by one
abbrev pub AreCanonical : List (List ℕ) → List (List ℕ) → Type 0
AreCanonical [] [] = Unit {0}
AreCanonical (bytes ∷ contents) (text ∷ texts) = IsCanonicalOf bytes text × AreCanonical contents texts
AreCanonical _ _ = ⊥

-- by itself the text has a tree that is alike
pub record IsReadBack (text : List ℕ) (tree : Tree) : Type 0 where
  pub own : Tree
  pub deserves : Deserves text (Ok own)
  pub alike : AreAlike (view_tree tree) (view_tree own)
