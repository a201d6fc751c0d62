use Rattle.soy_tree.specs.ViewValues.{view_value}
use Rattle.render_core.specs.Stepping.{output}
use Rattle.render_core.proofs.Openings.{call_low, none_opens}
use Rattle.render_core.proofs.stack.Machine.open_none.Goals as goal

pub give_null-requires-clause-low : goal.give_null-requires-clause-low
give_null-requires-clause-low c =
    call_low c.args.scene.now.program.now (view_value c.args.scene.now.input.now) c.args.self.now c.args.ahead
    c.args.handing c.args.callee.now c.requires.opens

pub returns-clause-stepped : goal.returns-clause-stepped
returns-clause-stepped c n =
    none_opens c.args.scene.now.program.now (view_value c.args.scene.now.input.now) c.args.self.now c.give_null.new.self
    c.args.ahead c.args.handing c.args.callee.now n (output c.args.room.now c.give_null.new.room c.give_null.new.piece)
    c.give_null.result c.requires.opens c.requires.lacks c.give_null.ensures.gave
