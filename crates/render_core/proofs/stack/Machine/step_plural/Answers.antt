use Rattle.std.proofs.Common.{◌≡◌, ◌+◌, refl, arith, rules, subst}
use mir.Facts.{to_z-of_z}
use mir.Syntax.{w64}
use mir.Val.{SFits}
use Rattle.soy_rules.specs.Cost.{cost}
use Rattle.soy_tree.specs.ViewExpressions.{view_expr}
use Rattle.soy_tree.specs.ViewValues.{view_value}
use Rattle.soy_expr.specs.Evaluates.{IsWithin}
use Rattle.soy_pieces.specs.Branch.{int_of}
use Rattle.soy_pieces.specs.Giving.{RunEnv}
use Rattle.soy_pieces.specs.Outcome.{Outcome}
use Rattle.soy_pieces.specs.Pieces.{valued}
use Rattle.template_ir.specs.declared.op.Op.TheVariants as op
use Rattle.render_core.specs.Frames.{means_before}
use Rattle.render_core.specs.Stepping.{GoesIn}
use Rattle.render_core.specs.Variables.{cells_of, env_at}
use Rattle.render_core.proofs.Moves.{same_self, silent_in, stays_in}
use Rattle.render_core.proofs.Plurals.{plural_arm}
use Rattle.render_core.proofs.Sights.{same_env}
use Rattle.render_core.proofs.stack.Machine.step_plural.Goals as goal

pub returns-in-Err : goal.returns-in-Err
returns-in-Err g c =
    let p = c.args.scene.now.program.now in
    let v = c.args.scene.now.input.now in
    let input = view_value v in
    let old = c.args.self.now in
    let f = c.args.ahead in
    let env : RunEnv = env_at (cells_of p input old.bound) f.env in
    let at = c.point-point.ensures in
    let seen = same_env c.point-point.result p v old.bound f.env at.program at.input at.bound at.env in
    let e = view_expr c.args.plural.now.number in
    let known = subst (λ (around : RunEnv). IsWithin (cost e around) c.args.steps.now
    c.int_value.new.steps) seen c.in-Err.ensures in
    stays_in p input old old f (op.Plural c.args.plural.now) _ _ _ _ c.requires.top c.requires.op c.requires.low refl
    known c.requires.fits (same_self p input old)

pub returns-in-Err-without_offset : goal.returns-in-Err-without_offset
returns-in-Err-without_offset g c =
    let p = c.args.scene.now.program.now in
    let v = c.args.scene.now.input.now in
    let input = view_value v in
    let old = c.args.self.now in
    let f = c.args.ahead in
    let env : RunEnv = env_at (cells_of p input old.bound) f.env in
    let at = c.point-point.ensures in
    let seen = same_env c.point-point.result p v old.bound f.env at.program at.input at.bound at.env in
    let e = view_expr c.args.plural.now.number in
    let known = subst (λ (around : RunEnv). (c.in-Ok.number ≡ int_of (valued e around))
    × (c.int_value.new.steps ≡ c.args.steps.now + cost e around)) seen c.in-Ok.ensures in
    stays_in p input old old f (op.Plural c.args.plural.now) _ _ _ _ c.requires.top c.requires.op c.requires.low refl
    (omega (arith, known.1), omega (arith, known.1)) c.requires.fits (same_self p input old)

pub returns-in-Ok-enter_block : goal.returns-in-Ok-enter_block
returns-in-Ok-enter_block g c =
    let p = c.args.scene.now.program.now in
    let v = c.args.scene.now.input.now in
    let input = view_value v in
    let old = c.args.self.now in
    let f = c.args.ahead in
    let env : RunEnv = env_at (cells_of p input old.bound) f.env in
    let at = c.point-point.ensures in
    let seen = same_env c.point-point.result p v old.bound f.env at.program at.input at.bound at.env in
    let e = view_expr c.args.plural.now.number in
    let known = subst (λ (around : RunEnv). (c.in-Ok.number ≡ int_of (valued e around))
    × (c.int_value.new.steps ≡ c.args.steps.now + cost e around)) seen c.in-Ok.ensures in
    let fits : SFits w64 c.in-Ok.number = search rules in
    let rest_fits : SFits w64 c.in-Ok-without_offset.rest = search rules in
    let block = simp (to_z-of_z fits, to_z-of_z rest_fits) at c.plural_block-block.ensures in
    let rest = simp (to_z-of_z fits) at c.in-Ok-without_offset.ensures in
    let goes = simp (to_z-of_z rest_fits) at (c.in-Ok-enter_block.ensures.goes p input) in
    silent_in p input old c.enter_block.new.self f (op.Plural c.args.plural.now) _ _ _ _ c.requires.top c.requires.op
    c.requires.low refl known.1
    (subst (λ (x : Outcome). GoesIn p input old c.enter_block.new.self f x)
    (plural_arm p (means_before p f.left f.at) c.args.plural.now c.plural_block-block.result c.in-Ok.number
    (int_of (valued e env)) c.in-Ok-without_offset.rest env block rest known.0) goes)

pub returns-in-Err-enter_block : goal.returns-in-Err-enter_block
returns-in-Err-enter_block g c =
    let p = c.args.scene.now.program.now in
    let v = c.args.scene.now.input.now in
    let input = view_value v in
    let old = c.args.self.now in
    let f = c.args.ahead in
    let env : RunEnv = env_at (cells_of p input old.bound) f.env in
    let at = c.point-point.ensures in
    let seen = same_env c.point-point.result p v old.bound f.env at.program at.input at.bound at.env in
    let e = view_expr c.args.plural.now.number in
    let known = subst (λ (around : RunEnv). (c.in-Ok.number ≡ int_of (valued e around))
    × (c.int_value.new.steps ≡ c.args.steps.now + cost e around)) seen c.in-Ok.ensures in
    stays_in p input old c.enter_block.new.self f (op.Plural c.args.plural.now) _ _ _ _ c.requires.top c.requires.op
    c.requires.low refl (omega (arith, known.1), omega (arith, known.1)) c.requires.fits
    c.in-Err-enter_block.ensures.stays
