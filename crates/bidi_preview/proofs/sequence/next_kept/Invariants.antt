use Rattle.std.proofs.Common.{◌≡◌, ◌≤◌, ◌-◌, length}
use Rattle.bidi_preview.specs.NextCharacter.{next_kept}
use Rattle.bidi_preview.proofs.sequence.next_kept.Given as goal

abbrev pub invariant-loop-index : goal.invariant-loop-index
invariant-loop-index l = record {
  within : l.index ≤ length l.line;
  order : l.from ≤ l.index;
  same : next_kept l.line l.index ≡ next_kept l.line l.from;
}

abbrev pub decreases-loop-index : goal.decreases-loop-index
decreases-loop-index l = length l.line - l.index
