use Rattle.std.proofs.Common.{◌≤◌, arith, length, sym}
use Rattle.soy_tree.specs.ViewValues.{view_value}
use Rattle.render_core.proofs.Begins.{entry_fits, rest_none}
use Rattle.render_core.proofs.rendering.Rendering.begin_over.Goals as goal

pub begin_routine-requires-clause-routine : goal.begin_routine-requires-clause-routine
begin_routine-requires-clause-routine c = sym c.in-Some.ensures

pub returns-in-None-clause-fits : goal.returns-in-None-clause-fits
returns-in-None-clause-fits c =
    let ends = c.fresh.ensures in
    entry_fits c.args.scene.now.program.now (view_value c.args.scene.now.input.now) c.fresh.result
    (record { first = 0; end = 0 }) 0 ends.top ends.below ends.piece ends.done
    (let h : 0 ≤ length c.fresh.result.machine.bound = omega arith in h)

pub returns-in-None-clause-rest : goal.returns-in-None-clause-rest
returns-in-None-clause-rest c =
    let ends = c.fresh.ensures in
    rest_none c.args.scene.now.program.now (view_value c.args.scene.now.input.now) c.fresh.result c.args.template
    (sym c.in-None.ensures) ends.top ends.below ends.texts ends.piece
