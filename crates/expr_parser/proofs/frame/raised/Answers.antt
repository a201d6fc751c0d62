use Rattle.std.proofs.Common.{sym, ◌∙◌}
use Rattle.expr_parser.proofs.ExprReads.{raise_last, raise_none}
use Rattle.expr_parser.proofs.frame.raised.Goals as goal

pub loop-frame-preserved : goal.loop-frame-preserved
loop-frame-preserved c = record {
  can_next = tt;
  is_finite = tt;
  same = rw (c.deeper-height.ensures, c.branch-frame.ensures)
      (sym (raise_last _ _ _ _ c.in-Some.ensures.steps) ∙ c.loop-frame.invariant.same);
}

pub returns : goal.returns
returns c = sym (raise_none _ _ c.in-None.ensures.steps.0) ∙ c.loop-frame.invariant.same
