use Rattle.std.proofs.Common.{◌≤◌, drop, length}
use Rattle.msg_bundle.specs.Sources.{FindsRows}
use Rattle.msg_bundle.proofs.sources.sources_of.Given as goal

abbrev pub invariant-loop-left : goal.invariant-loop-left
invariant-loop-left l = record {
  within : l.left ≤ length l.rows;
  finds : FindsRows l.sources (drop l.left l.rows);
}

abbrev pub decreases-loop-left : goal.decreases-loop-left
decreases-loop-left l = l.left
