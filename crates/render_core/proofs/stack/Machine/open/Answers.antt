use Rattle.std.proofs.Common.{sym}
use Rattle.soy_tree.specs.ViewValues.{view_value}
use Rattle.render_core.specs.Stepping.{output}
use Rattle.render_core.proofs.Gives.{quiet_step}
use Rattle.render_core.proofs.stack.Machine.open.Goals as goal

pub open_there-requires-clause-routine : goal.open_there-requires-clause-routine
open_there-requires-clause-routine c = sym c.in-Some.ensures

pub open_none-requires-clause-lacks : goal.open_none-requires-clause-lacks
open_none-requires-clause-lacks c = sym c.in-None.ensures

pub returns-in-Some-clause-stepped : goal.returns-in-Some-clause-stepped
returns-in-Some-clause-stepped c n =
    quiet_step c.args.scene.now.program.now (view_value c.args.scene.now.input.now) c.args.self.now
    c.open_there.new.self n n (output c.args.room.now c.args.room.now c.args.piece.now) c.open_there.result
    (c.open_there.ensures n)
