use Rattle.soy_tree.specs.ViewValues.{view_value}
use Rattle.render_core.proofs.ReadyOps.{static_gives}
use Rattle.render_core.proofs.stack.Machine.static_ready.Goals as goal

pub returns-clause-gives : goal.returns-clause-gives
returns-clause-gives c m =
    static_gives c.args.scene.now.program.now (view_value c.args.scene.now.input.now) c.args.self.now c.pass.new.self
    c.args.ahead c.args.room.now c.put_whole.new.room c.in_ok-n.n c.args.text.now m (record {
      top = c.requires.top;
      fits = c.requires.fits;
      low = c.requires.low;
      none = c.requires.none;
      top_after = c.pass.ensures.top;
      below = c.pass.ensures.below;
      bound = c.pass.ensures.bound;
      texts = c.pass.ensures.texts;
    }) c.requires.op c.in_ok-n.ensures.some c.in_ok-n.ensures.gave
