use Rattle.std.proofs.Common.{◌≡◌, reverse}
use Rattle.expr_parser.specs.TypeSteps.{type_raised}
use Rattle.expr_parser.proofs.type_frame.type_raised.Given as goal

abbrev pub invariant-loop-frame : goal.invariant-loop-frame
invariant-loop-frame l = record {
  can_next : (goal.iterator-loop-frame).can_next l.frame-iterator;
  is_finite : (goal.iterator-loop-frame).is_finite l.frame-iterator;
  same : type_raised (reverse l.frame-iterator.iter.rest.now) l.height ≡ type_raised l.frames l.fn.height;
}
