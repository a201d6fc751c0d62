use Rattle.std.proofs.Common.{sym, ◌∙◌}
use Rattle.render_core.specs.Stepping.{output}
use Rattle.render_core.proofs.stack.Machine.give_static.Goals as goal

pub returns-else-is_empty-clause-gave : goal.returns-else-is_empty-clause-gave
returns-else-is_empty-clause-gave c p input op =
    c.gather_static.ensures.gave p input (output c.args.room.now c.args.room.now c.args.piece.now)

pub returns-then-is_empty-clause-gave : goal.returns-then-is_empty-clause-gave
returns-then-is_empty-clause-gave c p input op = (
  c.pass.ensures.top,
  c.pass.ensures.below,
  c.pass.ensures.bound,
  c.pass.ensures.texts,
  sym c.is_empty.ensures ∙ c.if-is_empty.true,
  c.give_fixed-n.ensures p input c.args.self.now.bound op,
)
