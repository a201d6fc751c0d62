use Rattle.std.proofs.Common.{◌≡◌, length}
use Rattle.expr_parser.specs.Frames.{reduced}
use Rattle.expr_parser.proofs.frame.closed_by.Given as goal

-- what is left to close comes to the same
abbrev pub invariant-loop-frame : goal.invariant-loop-frame
invariant-loop-frame l = reduced l.level l.frames l.operand ≡ reduced l.level l.initial.frames l.initial.operand

-- each turn takes a frame
abbrev pub decreases-loop-frame : goal.decreases-loop-frame
decreases-loop-frame l = length l.frames
