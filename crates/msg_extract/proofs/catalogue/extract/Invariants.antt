use Rattle.std.proofs.Common.{◌≡◌, drop}
use Rattle.soy_tree.specs.ViewTrees.{view_trees}
use Rattle.msg_extract.specs.Catalogue.{catalogue_of, trees_listed}
use Rattle.msg_extract.specs.ListedIds.{HasIds}
use Rattle.msg_extract.proofs.catalogue.extract.Given as goal

abbrev pub invariant-loop-tree : goal.invariant-loop-tree
invariant-loop-tree l = record {
  file : l.file ≡ l.tree-index;
  ids : HasIds l.listing;
  same : trees_listed l.listing.rows l.file (view_trees (drop l.tree-index l.trees))
      ≡ catalogue_of (view_trees l.trees);
}
