use Rattle.std.proofs.Common.{◌≡◌, ◌≤◌, ◌-◌, ◌++◌, take, drop, length, map}
use Rattle.bidi_order.specs.Resolve.{is_nonspacing, set_bracket, set_nonspacing}
use Rattle.bidi_preview.proofs.brackets.set_bracket.Given as goal

abbrev pub invariant-loop-next : goal.invariant-loop-next
invariant-loop-next l = record {
  long : length l.classes ≡ length l.given;
  within : l.next ≤ length l.classes;
  list : take l.next l.classes
      ++ set_nonspacing l.class (drop l.next (map is_nonspacing l.given)) (drop l.next l.classes)
      ≡ set_bracket l.index l.class (map is_nonspacing l.given) l.fn.classes;
}

abbrev pub decreases-loop-next : goal.decreases-loop-next
decreases-loop-next l = length l.given - l.next
