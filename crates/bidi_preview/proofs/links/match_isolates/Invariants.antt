use Rattle.std.proofs.Common.{◌≤◌, length}
use Rattle.bidi_preview.specs.SequenceSteps.{MatchedFrom}
use Rattle.bidi_preview.proofs.links.match_isolates.Given as goal

abbrev pub invariant-loop-index : goal.invariant-loop-index
invariant-loop-index l = record {
  within : l.index ≤ length l.line;
  matched : MatchedFrom l.line l.index l.waiting l.ends.items;
}

abbrev pub decreases-loop-index : goal.decreases-loop-index
decreases-loop-index l = l.index
