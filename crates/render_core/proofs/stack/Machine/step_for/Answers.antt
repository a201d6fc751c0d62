use Rattle.std.proofs.Common.{Ok, arith}
use Rattle.soy_tree.specs.ViewExpressions.{view_expr}
use Rattle.soy_tree.specs.ViewValues.{view_value}
use Rattle.render_core.proofs.Moves.{same_self}
use Rattle.render_core.proofs.Sights.{finds_at, finds_err}
use Rattle.render_core.proofs.Turns.{loop_stays, loop_step}
use Rattle.render_core.proofs.stack.Machine.step_for.Goals as goal

pub returns-in-Err : goal.returns-in-Err
returns-in-Err g c =
    let p = c.args.scene.now.program.now in
    let v = c.args.scene.now.input.now in
    let input = view_value v in
    let old = c.args.self.now in
    let f = c.args.ahead in
    let at = c.point.ensures in
    let known = finds_err c.point.result p v old.bound f.env at.program at.input at.bound at.env
    (view_expr c.args.list.now) c.args.steps.now c.value_of.new.steps c.in-Err.ensures in
    loop_stays p input old old f c.args.list.now c.args.op.now _ _ c.requires.top c.requires.fits c.requires.op
    c.requires.list c.requires.low known (same_self p input old)

pub returns-in-Ok-begin_loop : goal.returns-in-Ok-begin_loop
returns-in-Ok-begin_loop g c =
    let p = c.args.scene.now.program.now in
    let v = c.args.scene.now.input.now in
    let input = view_value v in
    let old = c.args.self.now in
    let f = c.args.ahead in
    let at = c.point.ensures in
    let known = finds_at c.point.result p v old.bound f.env at.program at.input at.bound at.env
    (view_expr c.args.list.now) c.args.steps.now c.value_of.new.steps (Ok c.in-Ok.found) c.in-Ok.ensures in
    let ends = c.in-Ok-begin_loop.ensures in
    loop_step p input old c.begin_loop.new.self f c.in-Ok.found c.args.list.now c.args.op.now _ _ c.requires.top
    c.requires.fits c.requires.op c.requires.list c.requires.low
    known.0 known.2 ends.top ends.below ends.texts ends.bound

pub returns-in-Err-begin_loop : goal.returns-in-Err-begin_loop
returns-in-Err-begin_loop g c =
    let p = c.args.scene.now.program.now in
    let v = c.args.scene.now.input.now in
    let input = view_value v in
    let old = c.args.self.now in
    let f = c.args.ahead in
    let at = c.point.ensures in
    let known = finds_at c.point.result p v old.bound f.env at.program at.input at.bound at.env
    (view_expr c.args.list.now) c.args.steps.now c.value_of.new.steps (Ok c.in-Ok.found) c.in-Ok.ensures in
    loop_stays p input old c.begin_loop.new.self f c.args.list.now c.args.op.now _ _ c.requires.top c.requires.fits
    c.requires.op c.requires.list c.requires.low (omega (arith, known.2), omega (arith, known.2))
    c.in-Err-begin_loop.ensures.stays
