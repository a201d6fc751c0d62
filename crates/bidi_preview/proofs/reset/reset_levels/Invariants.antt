use Rattle.std.proofs.Common.{◌≡◌, ◌≤◌, length, take, drop, map}
use Rattle.bidi_order.specs.Reset.{is_trailing, reset_kind, reset_levels}
use Rattle.bidi_preview.proofs.reset.reset_levels.Given as goal

abbrev pub invariant-loop-index : goal.invariant-loop-index
invariant-loop-index l = record {
  long : length l.levels ≡ length l.classes;
  within : l.index ≤ length l.levels;
  left : take l.index l.levels ≡ take l.index l.initial.levels;
  done : drop l.index l.levels ≡ reset_levels l.base (map reset_kind (drop l.index l.classes))
      (drop l.index l.initial.levels);
  trails : l.trailing ≡ is_trailing (map reset_kind (drop l.index l.classes));
}

abbrev pub decreases-loop-index : goal.decreases-loop-index
decreases-loop-index l = l.index
