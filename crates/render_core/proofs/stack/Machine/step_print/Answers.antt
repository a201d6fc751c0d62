use Rattle.std.proofs.Common.{Ok, length, refl, subst, sym}
use Rattle.soy_rules.specs.Cost.{cost}
use Rattle.soy_rules.specs.Val.{val}
use Rattle.soy_tree.specs.ViewExpressions.{view_expr}
use Rattle.soy_tree.specs.ViewValues.{view_value}
use Rattle.soy_expr.specs.Evaluates.{IsWithin}
use Rattle.soy_pieces.specs.Giving.{RunEnv}
use Rattle.template_ir.specs.Run.{print_gives}
use Rattle.template_ir.specs.declared.op.Op.TheVariants as op
use Rattle.render_core.specs.Seen.{cells_seen, env_seen, program_seen}
use Rattle.render_core.specs.Stepping.{output}
use Rattle.render_core.specs.Variables.{cells_of, env_at}
use Rattle.render_core.proofs.Gives.{does_step}
use Rattle.render_core.proofs.Moves.{same_self, stays_in}
use Rattle.render_core.proofs.Sights.{finds_err, hand_at, prints_at}
use Rattle.render_core.proofs.Shows.{prints_field}
use Rattle.render_core.proofs.stack.Machine.step_print.Goals as goal

pub returns-in-Err-clause-stepped : goal.returns-in-Err-clause-stepped
returns-in-Err-clause-stepped g c =
    let p = c.args.scene.now.program.now in
    let v = c.args.scene.now.input.now in
    let input = view_value v in
    let old = c.args.self.now in
    let f = c.args.ahead in
    let at = c.point-point.ensures in
    let known = finds_err c.point-point.result p v old.bound f.env at.program at.input at.bound at.env
    (view_expr c.args.expr.now) c.args.steps.now c.shown_field.new.steps
    (subst (λ k. IsWithin k c.args.steps.now c.shown_field.new.steps) (sym c.in-Some.ensures.1)
    c.in-Err.ensures.prints) in
    stays_in p input old old f (op.Print c.args.expr.now c.args.place) _ _ _ _ c.requires.top c.requires.op
    c.requires.low refl known c.requires.fits (same_self p input old)

pub returns-clause-stepped : goal.returns-clause-stepped
returns-clause-stepped g c =
    let p = c.args.scene.now.program.now in
    let v = c.args.scene.now.input.now in
    let input = view_value v in
    let old = c.args.self.now in
    let f = c.args.ahead in
    let env : RunEnv = env_at (cells_of p input old.bound) f.env in
    let at = c.point-point.ensures in
    let pt = c.point-point.result in
    let e = view_expr c.args.expr.now in
    let known = prints_at c.point-point.result p v old.bound f.env at.program at.input at.bound at.env
    e c.args.steps.now c.shown_field.new.steps (Ok c.in-Ok.shown)
    (prints_field (program_seen pt) (cells_seen pt) (length pt.bound.now) (val e (env_seen pt))
    (view_value c.in-Some.field.value.now) (cost e (env_seen pt)) c.args.steps.now c.shown_field.new.steps
    (Ok c.in-Ok.shown) c.in-Some.ensures.0 c.in-Some.ensures.1 c.in-Ok.ensures.prints) in
    does_step p input old c.print_shown.new.self f (op.Print c.args.expr.now c.args.place) (cost e env)
    (print_gives p.dir c.args.place (val e env)) c.args.steps.now c.shown_field.new.steps
    (output c.args.room.now c.print_shown.new.room c.print_shown.new.piece) c.print_shown.result
    c.requires.top c.requires.fits c.requires.op c.requires.low refl known.1
    (c.print_shown.ensures.does (val e env) known.0)

pub print_shown-requires-clause-at_hand : goal.print_shown-requires-clause-at_hand
print_shown-requires-clause-at_hand g c =
    let there = c.point-point.ensures in
    hand_at c.point-point.result c.args.scene.now.program.now c.args.scene.now.input.now c.args.self.now.bound
    there.program there.input there.bound c.in-Ok.shown c.in-Ok.ensures.at_hand
