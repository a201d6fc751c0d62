use Rattle.std.proofs.Common.{◌≡◌, ◌≤◌, take, length}
use Rattle.bidi_order.specs.Resolve.{last_direction}
use Rattle.bidi_preview.proofs.brackets.last_direction.Given as goal

abbrev pub invariant-loop-index : goal.invariant-loop-index
invariant-loop-index l = record {
  within : l.index ≤ length l.classes;
  same : last_direction l.before (take l.index l.classes) ≡ last_direction l.before l.classes;
}

abbrev pub decreases-loop-index : goal.decreases-loop-index
decreases-loop-index l = l.index
