use Rattle.soy_tree.specs.ViewValues.{view_value}
use Rattle.render_core.specs.Stepping.{output}
use Rattle.render_core.proofs.Openings.{null_given}
use Rattle.render_core.proofs.stack.Machine.give_null.Goals as goal

pub returns-clause-gave : goal.returns-clause-gave
returns-clause-gave c =
    null_given c.args.scene.now.program.now (view_value c.args.scene.now.input.now) c.args.self.now
    c.give_value.new.self
    c.args.ahead c.past.result c.args.place c.in-Ok.shown.0 c.in-Ok.shown.1
    (output c.args.room.now c.give_value.new.room c.give_value.new.piece) c.give_value.result c.past.ensures
    c.in-Ok.ensures c.give_value.ensures.gave
