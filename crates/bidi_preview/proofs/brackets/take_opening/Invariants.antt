use Rattle.std.proofs.Common.{◌≡◌, ◌≤◌, take, length, reverse}
use Rattle.bidi_order.specs.Resolve.{matching_opening}
use Rattle.bidi_preview.proofs.brackets.take_opening.Given as goal

abbrev pub invariant-loop-above : goal.invariant-loop-above
invariant-loop-above l = record {
  unchanged : l.opened.items ≡ l.initial.opened.items;
  within : l.above ≤ length l.opened.items;
  same : matching_opening l.closing (reverse (take l.above l.opened.items))
      ≡ matching_opening l.closing (reverse l.initial.opened.items);
}

abbrev pub decreases-loop-above : goal.decreases-loop-above
decreases-loop-above l = l.above
