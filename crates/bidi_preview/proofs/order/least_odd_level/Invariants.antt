use Rattle.std.proofs.Common.{◌≡◌, ◌≤◌, drop}
use Rattle.bidi_order.specs.VisualOrder.{least_odd_level}
use Rattle.bidi_preview.proofs.order.least_odd_level.Given as goal

abbrev pub invariant-loop-level : goal.invariant-loop-level
invariant-loop-level l = record {
  value : least_odd_level l.least (drop l.level-index l.levels) ≡ least_odd_level l.above l.levels;
  bound : l.least ≤ l.above;
}
