use Rattle.std.proofs.Common.{◌≡◌, length}
use Rattle.bidi_preview.specs.NeutralSteps.{filled}
use Rattle.bidi_preview.proofs.neutral.fill.Given as goal

abbrev pub invariant-loop-index : goal.invariant-loop-index
invariant-loop-index l = record {
  long : length l.classes ≡ length l.initial.classes;
  list : filled l.class l.index l.end l.classes ≡ filled l.class l.start l.end l.initial.classes;
}
