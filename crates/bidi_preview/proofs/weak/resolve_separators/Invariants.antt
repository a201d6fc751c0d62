use Rattle.std.proofs.Common.{◌≡◌, ◌++◌, length, take, drop}
use Rattle.bidi_class.specs.declared.class.Class.TheVariants.{ON}
use Rattle.bidi_order.specs.Resolve.{w4}
use Rattle.bidi_preview.proofs.weak.resolve_separators.Given as goal

abbrev pub invariant-loop-index : goal.invariant-loop-index
invariant-loop-index l = record {
  long : length l.classes ≡ l.index-end;
  list : take l.index l.classes ++ w4 l.before (drop l.index l.classes) ≡ w4 ON l.initial.classes;
}
