use Rattle.std.proofs.Common.{arith, subst, sym}
use Rattle.soy_tree.specs.ViewValues.{view_value}
use Rattle.render_core.specs.Stepping.{IsBlockKind}
use Rattle.render_core.proofs.Openings.{stop_opens}
use Rattle.render_core.proofs.stack.Machine.open_there.Goals as goal

pub returns-then-ahead-eq0 : goal.returns-then-ahead-eq0
returns-then-ahead-eq0 c n =
    stop_opens c.args.scene.now.program.now (view_value c.args.scene.now.input.now) c.args.self.now c.args.ahead
    c.args.handing c.args.callee.now c.args.routine.now n c.requires.opens c.requires.routine c.if-ahead-eq0.true

pub open_text-requires-clause-opens : goal.open_text-requires-clause-opens
open_text-requires-clause-opens c = record {
  opens = c.requires.opens;
  routine = c.requires.routine;
  left = omega (arith, c.if-ahead-eq0.false);
}

pub open_block-requires-clause-opens : goal.open_block-requires-clause-opens
open_block-requires-clause-opens c = record {
  opens = c.requires.opens;
  routine = c.requires.routine;
  left = omega (arith, c.if-ahead-eq0.false);
}

pub open_block-requires-in-Attributes-clause-opens : goal.open_block-requires-in-Attributes-clause-opens
open_block-requires-in-Attributes-clause-opens c = record {
  opens = c.requires.opens;
  routine = c.requires.routine;
  left = omega (arith, c.if-ahead-eq0.false);
}

pub open_block-requires-clause-kind : goal.open_block-requires-clause-kind
open_block-requires-clause-kind c = subst IsBlockKind (sym c.in-Html.is) tt

pub open_block-requires-in-Attributes-clause-kind : goal.open_block-requires-in-Attributes-clause-kind
open_block-requires-in-Attributes-clause-kind c = subst IsBlockKind (sym c.in-Attributes.is) tt
