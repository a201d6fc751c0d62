use Rattle.std.proofs.Common.{◌≡◌, drop}
use Rattle.soy_front.specs.FilesAnswer.{trees_from}
use Rattle.soy_front.specs.ViewSources.{view_contents}
use Rattle.soy_front.proofs.ReadingTrees.{after_trees}
use Rattle.soy_front.proofs.files.read_trees.Given as goal

abbrev pub invariant-loop-source : goal.invariant-loop-source
invariant-loop-source l = record {
  read : trees_from 0 (view_contents l.sources)
      ≡ after_trees l.trees.items (trees_from l.source-index (view_contents (drop l.source-index l.sources)));
  counted : l.file ≡ l.source-index;
}
