use Rattle.std.proofs.Common.{◌≡◌, drop}
use Rattle.soy_front.specs.FilesAnswer.{large_from}
use Rattle.soy_front.specs.ViewSources.{view_contents}
use Rattle.soy_front.proofs.files.first_large.Given as goal

abbrev pub invariant-loop-source : goal.invariant-loop-source
invariant-loop-source l = record {
  read : large_from 0 (view_contents l.sources)
      ≡ large_from l.source-index (view_contents (drop l.source-index l.sources));
  counted : l.number ≡ l.source-index;
}
