use Rattle.std.proofs.Common.{◌≤◌, length}
use Rattle.bidi_preview.specs.ExplicitSteps.{DirectedFrom}
use Rattle.bidi_preview.proofs.explicit.direct_isolates.Given as goal

abbrev pub invariant-loop-index : goal.invariant-loop-index
invariant-loop-index l = record {
  within : l.index ≤ length l.classes;
  directed : DirectedFrom l.initial.classes l.index l.sides l.classes;
}

abbrev pub decreases-loop-index : goal.decreases-loop-index
decreases-loop-index l = l.index
