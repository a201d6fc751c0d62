use Rattle.std.proofs.Common.{◌∙◌, arith}
use Rattle.std.proofs.lemmas.List.{length-set}
use Rattle.bidi_preview.proofs.NeutralRuns.{filled_set}
use Rattle.bidi_preview.proofs.neutral.fill.Goals as goal

pub loop-index-preserved : goal.loop-index-preserved
loop-index-preserved c = record {
  long = length-set c.loop-index.classes c.loop-index.index c.args.class ∙ c.loop-index.invariant.long;
  list = filled_set c.args.class c.loop-index.index c.args.end c.loop-index.classes (omega arith) (omega arith)
      ∙ c.loop-index.invariant.list;
}
