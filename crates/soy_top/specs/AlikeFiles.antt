-- Files whose trees are alike.
--
-- Files are alike where each of them has a tree by the rules of its text, its tokens and the grammar, and these trees
-- are alike one by one: they differ in spans alone.
-- Example: the file `{namespace t}{template m}a{/template}` is alike to one that has a comment before it.
use Rattle.std.specs.Prelude.{ℕ, List}
use Rattle.soy_tree.specs.ViewTrees.{view_trees}
use Rattle.soy_tree.specs.declared.tree.Tree as code
use Rattle.soy_front.specs.FilesDeserve.{HaveTrees}
use Rattle.alike_files.specs.AllAlike.{AllAlike}

pub record AlikeFiles (contents others : List (List ℕ)) : Type 0 where
  pub trees : List code.Tree
  pub other_trees : List code.Tree
  pub have : HaveTrees contents trees
  pub others_have : HaveTrees others other_trees
  pub alike : AllAlike (view_trees trees) (view_trees other_trees)
