use Rattle.std.proofs.Common.{◌≡◌, ◌+◌, ◌-◌, ◌≤◌}
use Rattle.render_core.specs.Keys.{agreed}
use Rattle.render_core.proofs.links.agreed.Given as goal

abbrev pub invariant-loop-count : goal.invariant-loop-count
invariant-loop-count l = record {
  low : l.count ≤ 32;
  rest : l.count + agreed (32 - l.count) l.left l.right ≡ agreed 32 l.key l.other;
}

abbrev pub decreases-loop-count : goal.decreases-loop-count
decreases-loop-count l = 32 - l.count
