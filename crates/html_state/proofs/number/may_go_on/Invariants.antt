use Rattle.std.proofs.Common.{◌≡◌, ◌≤◌, ◌-◌}
use Rattle.html_state.specs.References.{may_go_on, beyond}
use Rattle.html_state.proofs.number.may_go_on.Given as goal

abbrev pub invariant-loop-turn : goal.invariant-loop-turn
invariant-loop-turn l = record {
  same : may_go_on l.base (l.more - l.turn) l.low l.high ≡ may_go_on l.base l.more l.value l.value;
  low : l.low ≤ beyond;
  high : l.high ≤ beyond;
}
