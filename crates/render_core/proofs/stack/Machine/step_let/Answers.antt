use Rattle.std.proofs.Common.{Ok, refl, arith}
use Rattle.soy_rules.specs.Cost.{cost}
use Rattle.soy_tree.specs.ViewExpressions.{view_expr}
use Rattle.soy_tree.specs.ViewValues.{view_value}
use Rattle.soy_pieces.specs.Giving.{RunEnv}
use Rattle.template_ir.specs.declared.op.Op.TheVariants as op
use Rattle.render_core.specs.Variables.{cells_of, env_at}
use Rattle.render_core.specs.declared.held.Naming.TheVariants as naming
use Rattle.render_core.proofs.Gives.{binds_stay, binds_step}
use Rattle.render_core.proofs.Lets.{means_let}
use Rattle.render_core.proofs.Moves.{same_self}
use Rattle.render_core.proofs.Sights.{finds_at, finds_err}
use Rattle.render_core.proofs.stack.Machine.step_let.Goals as goal

pub returns-in-Err : goal.returns-in-Err
returns-in-Err g c =
    let p = c.args.scene.now.program.now in
    let v = c.args.scene.now.input.now in
    let input = view_value v in
    let old = c.args.self.now in
    let f = c.args.ahead in
    let env : RunEnv = env_at (cells_of p input old.bound) f.env in
    let at = c.point.ensures in
    let known = finds_err c.point.result p v old.bound f.env at.program at.input at.bound at.env
    (view_expr c.args.expr.now) c.args.steps.now c.value_of.new.steps c.in-Err.ensures in
    binds_stay p input old old f (op.Let c.args.name.now c.args.expr.now)
    (cost (view_expr c.args.expr.now) env) _ _ _ c.requires.top c.requires.op c.requires.low refl known
    c.requires.fits (same_self p input old)

pub returns-in-Ok-bind_here : goal.returns-in-Ok-bind_here
returns-in-Ok-bind_here g c =
    let p = c.args.scene.now.program.now in
    let v = c.args.scene.now.input.now in
    let input = view_value v in
    let old = c.args.self.now in
    let f = c.args.ahead in
    let env : RunEnv = env_at (cells_of p input old.bound) f.env in
    let at = c.point.ensures in
    let known = finds_at c.point.result p v old.bound f.env at.program at.input at.bound at.env
    (view_expr c.args.expr.now) c.args.steps.now c.value_of.new.steps (Ok c.in-Ok.found) c.in-Ok.ensures in
    binds_step p input old c.bind_here.new.self f (op.Let c.args.name.now c.args.expr.now)
    (cost (view_expr c.args.expr.now) env) (naming.Op f.at) c.held.result _ _ c.requires.top c.requires.op
    c.requires.low
    (means_let p (cells_of p input old.bound) f c.args.name.now c.args.expr.now env c.in-Ok.found c.held.result
    input c.requires.op known.0 c.held.ensures) known.2 c.in-Ok-bind_here.ensures.binds

pub returns-in-Err-bind_here : goal.returns-in-Err-bind_here
returns-in-Err-bind_here g c =
    let p = c.args.scene.now.program.now in
    let v = c.args.scene.now.input.now in
    let input = view_value v in
    let old = c.args.self.now in
    let f = c.args.ahead in
    let env : RunEnv = env_at (cells_of p input old.bound) f.env in
    let at = c.point.ensures in
    let known = finds_at c.point.result p v old.bound f.env at.program at.input at.bound at.env
    (view_expr c.args.expr.now) c.args.steps.now c.value_of.new.steps (Ok c.in-Ok.found) c.in-Ok.ensures in
    binds_stay p input old c.bind_here.new.self f (op.Let c.args.name.now c.args.expr.now)
    (cost (view_expr c.args.expr.now) env) _ _ _ c.requires.top c.requires.op c.requires.low refl
    (omega (arith, known.2), omega (arith, known.2)) c.requires.fits c.in-Err-bind_here.ensures.stays
