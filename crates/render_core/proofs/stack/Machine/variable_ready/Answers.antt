use Rattle.soy_tree.specs.ViewValues.{view_value}
use Rattle.render_core.proofs.ReadyOps.{variable_gives}
use Rattle.render_core.proofs.stack.Machine.variable_ready.Goals as goal

pub returns-clause-gives : goal.returns-clause-gives
returns-clause-gives g c =
    variable_gives c.args.scene.now.program.now (view_value c.args.scene.now.input.now) c.args.self.now c.pass.new.self
    c.args.ahead c.args.room.now c.put_variable.new.room c.in_ok-n.n c.args.expr.now c.args.name.now c.args.place
    c.args.steps.now c.count.new.self (record {
      top = c.requires.next.top;
      fits = c.requires.next.fits;
      low = c.requires.next.low;
      none = c.requires.next.none;
      top_after = c.pass.ensures.top;
      below = c.pass.ensures.below;
      bound = c.pass.ensures.bound;
      texts = c.pass.ensures.texts;
    }) c.requires.next.op c.count.ensures c.requires.variable c.in_ok-n.ensures.gives
