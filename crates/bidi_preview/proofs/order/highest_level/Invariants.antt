use Rattle.std.proofs.Common.{◌≡◌, ◌≤◌, drop, max}
use Rattle.bidi_order.specs.VisualOrder.{highest_level}
use Rattle.bidi_preview.proofs.order.highest_level.Given as goal

abbrev pub invariant-loop-level : goal.invariant-loop-level
invariant-loop-level l = record {
  value : max l.highest (highest_level (drop l.level-index l.levels)) ≡ highest_level l.levels;
  bound : l.highest ≤ 255;
}
