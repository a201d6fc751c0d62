use Rattle.std.proofs.Common.{◌≡◌, ◌+◌, arith}
use Rattle.soy_tree.specs.ViewValues.{view_value}
use Rattle.render_core.proofs.ReadyOps.{field_gives}
use Rattle.render_core.proofs.stack.Machine.field_ready.Goals as goal

pub returns-clause-gives : goal.returns-clause-gives
returns-clause-gives g c =
    let once = c.count.ensures in
    let twice = c.count-2.ensures in
    let counted : c.count-2.new.self ≡ c.args.steps.now + 2 = omega (arith, once, twice) in
    field_gives c.args.scene.now.program.now (view_value c.args.scene.now.input.now) c.args.self.now c.pass.new.self
    c.args.ahead c.args.room.now c.put_field.new.room c.in_ok-n.n c.args.expr.now c.args.place c.args.steps.now
    c.count-2.new.self (record {
      top = c.requires.top;
      fits = c.requires.fits;
      low = c.requires.low;
      none = c.requires.none;
      top_after = c.pass.ensures.top;
      below = c.pass.ensures.below;
      bound = c.pass.ensures.bound;
      texts = c.pass.ensures.texts;
    }) c.requires.op counted c.in_ok-n.ensures.gives
