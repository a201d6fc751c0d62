use Rattle.std.proofs.Common.{Ok, arith}
use Rattle.soy_tree.specs.ViewExpressions.{view_expr}
use Rattle.soy_tree.specs.ViewValues.{view_value}
use Rattle.soy_pieces.specs.Giving.{RunEnv}
use Rattle.render_core.specs.Variables.{cells_of, env_at}
use Rattle.render_core.proofs.Handings.{hand_goes, hand_stays, value_bound, value_gives_cost, value_spent}
use Rattle.render_core.proofs.Moves.{same_self}
use Rattle.render_core.proofs.Sights.{finds_at, finds_err}
use Rattle.render_core.proofs.stack.Machine.hand_value.Goals as goal

pub returns-in-Err : goal.returns-in-Err
returns-in-Err g c =
    let p = c.args.scene.now.program.now in
    let v = c.args.scene.now.input.now in
    let input = view_value v in
    let old = c.args.self.now in
    let f = c.args.ahead in
    let d = c.args.handed.now in
    let e = c.args.expr.now in
    let env : RunEnv = env_at (cells_of p input old.bound) f.env in
    let known = finds_err c.point.result p v old.bound f.env c.point.ensures.program c.point.ensures.input
    c.point.ensures.bound
    c.point.ensures.env (view_expr e) c.args.steps.now c.value_of.new.steps c.in-Err.ensures in
    hand_stays p input old old f c.args.handing d (value_spent p input e env) _ _ c.requires.hands
    (value_gives_cost p input f d e env c.requires.by) (known.0, omega (arith, known.1)) (same_self p input old)

pub returns-in-Ok-hand_held : goal.returns-in-Ok-hand_held
returns-in-Ok-hand_held g c =
    let p = c.args.scene.now.program.now in
    let v = c.args.scene.now.input.now in
    let input = view_value v in
    let old = c.args.self.now in
    let f = c.args.ahead in
    let d = c.args.handed.now in
    let e = c.args.expr.now in
    let env : RunEnv = env_at (cells_of p input old.bound) f.env in
    let known = finds_at c.point.result p v old.bound f.env c.point.ensures.program c.point.ensures.input
    c.point.ensures.bound
    c.point.ensures.env (view_expr e) c.args.steps.now c.value_of.new.steps (Ok c.in-Ok.found) c.in-Ok.ensures in
    let ends = c.in-Ok-hand_held.ensures in
    hand_goes p input old c.hand_held.new.self f c.args.handing d c.held.result (value_spent p input e env) _ _
    c.requires.hands (value_gives_cost p input f d e env c.requires.by)
    (value_bound p input f d e (cells_of p input old.bound) env c.in-Ok.found c.held.result c.requires.by known.0
    c.held.ensures) (omega (arith, known.2)) ends.top ends.below ends.texts ends.bound

pub returns-in-Err-hand_held : goal.returns-in-Err-hand_held
returns-in-Err-hand_held g c =
    let p = c.args.scene.now.program.now in
    let v = c.args.scene.now.input.now in
    let input = view_value v in
    let old = c.args.self.now in
    let f = c.args.ahead in
    let d = c.args.handed.now in
    let e = c.args.expr.now in
    let env : RunEnv = env_at (cells_of p input old.bound) f.env in
    let known = finds_at c.point.result p v old.bound f.env c.point.ensures.program c.point.ensures.input
    c.point.ensures.bound
    c.point.ensures.env (view_expr e) c.args.steps.now c.value_of.new.steps (Ok c.in-Ok.found) c.in-Ok.ensures in
    hand_stays p input old c.hand_held.new.self f c.args.handing d (value_spent p input e env) _ _ c.requires.hands
    (value_gives_cost p input f d e env c.requires.by) (omega (arith, known.2), omega (arith, known.2))
    c.in-Err-hand_held.ensures.stays
