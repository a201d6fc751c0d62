use Rattle.std.proofs.Common.{◌≡◌, ◌<◌, ◌≤◌, ◌+◌, ◌*◌, ◌-◌, ◌++◌, true, drop, length, reverse, take}
use Rattle.std.specs.List.{list_all}
use Rattle.std.specs.Prelude.{nat_le}
use Rattle.bidi_order.specs.VisualOrder.{LeveledCharacter, reordered}
use Rattle.bidi_preview.proofs.order.+order.Given as goal

abbrev pub decreases-push_order : goal.decreases-push_order
decreases-push_order l = 3 * (l.above - l.lowest) + 2

abbrev pub decreases-push_forward : goal.decreases-push_forward
decreases-push_forward l = 3 * (l.above - l.lowest) + 1

abbrev pub decreases-push_backward : goal.decreases-push_backward
decreases-push_backward l = 3 * (l.above - l.lowest) + 1

abbrev pub decreases-push_run : goal.decreases-push_run
decreases-push_run l = 3 * (l.above - l.lowest)

abbrev pub invariant-push_forward-loop-index : goal.invariant-push_forward-loop-index
invariant-push_forward-loop-index l = record {
  order : l.start ≤ l.index;
  low : l.lowest ≤ l.least;
  high : l.least < l.above;
  run : list_all (λ (x : LeveledCharacter). nat_le l.least x.level)
      (take (l.index - l.start) (drop l.start l.characters)) ≡ true;
  list : l.order.items ++ reordered l.lowest (l.above - l.lowest) (drop l.start l.characters)
      ≡ l.initial.order.items ++ reordered l.lowest (l.above - l.lowest) l.characters;
}

abbrev pub invariant-push_backward-loop-index : goal.invariant-push_backward-loop-index
invariant-push_backward-loop-index l = record {
  order : l.index ≤ l.end;
  within : l.end ≤ length l.characters;
  low : l.lowest ≤ l.least;
  high : l.least < l.above;
  run : list_all (λ (x : LeveledCharacter). nat_le l.least x.level)
      (take (l.end - l.index) (drop l.index l.characters)) ≡ true;
  list : l.order.items ++ reverse (reordered l.lowest (l.above - l.lowest) (take l.end l.characters))
      ≡ l.initial.order.items ++ reverse (reordered l.lowest (l.above - l.lowest) l.characters);
}

abbrev pub decreases-push_backward-loop-index : goal.decreases-push_backward-loop-index
decreases-push_backward-loop-index l = l.index
