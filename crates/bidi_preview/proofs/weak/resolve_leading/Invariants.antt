use Rattle.std.proofs.Common.{◌≡◌, ◌≤◌, length, take, drop}
use Rattle.bidi_class.specs.declared.class.Class.TheVariants.{ON}
use Rattle.bidi_preview.specs.WeakSteps.{first_or, leading_terminators}
use Rattle.bidi_preview.proofs.weak.resolve_leading.Given as goal

abbrev pub invariant-loop-index : goal.invariant-loop-index
invariant-loop-index l = record {
  long : length l.classes ≡ length l.initial.classes;
  within : l.index ≤ length l.classes;
  left : take l.index l.classes ≡ take l.index l.initial.classes;
  done : drop l.index l.classes ≡ leading_terminators (drop l.index l.initial.classes);
  next : l.next ≡ first_or ON (drop l.index l.classes);
}

abbrev pub decreases-loop-index : goal.decreases-loop-index
decreases-loop-index l = l.index
