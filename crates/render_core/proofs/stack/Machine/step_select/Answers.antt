use Rattle.std.proofs.Common.{◌≡◌, ℕ, ◌+◌, pos, Option, refl, arith, subst}
use Rattle.soy_rules.specs.Cost.{cost}
use Rattle.soy_tree.specs.ViewExpressions.{view_expr}
use Rattle.soy_tree.specs.ViewValues.{view_value}
use Rattle.soy_expr.specs.Evaluates.{IsWithin}
use Rattle.soy_pieces.specs.Branch.{word_of}
use Rattle.soy_pieces.specs.Giving.{RunEnv}
use Rattle.soy_pieces.specs.Pieces.{valued}
use Rattle.template_ir.specs.Run.{arm_gives, select_block}
use Rattle.template_ir.specs.declared.op.Block.{Block}
use Rattle.template_ir.specs.declared.op.Op.TheVariants as op
use Rattle.template_ir.specs.declared.op.SelectOp.{SelectOp}
use Rattle.render_core.specs.Frames.{means_before}
use Rattle.render_core.specs.Stepping.{GoesIn}
use Rattle.render_core.specs.Variables.{cells_of, env_at}
use Rattle.render_core.proofs.Moves.{same_self, silent_in, stays_in}
use Rattle.render_core.proofs.Sights.{same_env}
use Rattle.render_core.proofs.stack.Machine.step_select.Goals as goal

abbrev taken : SelectOp → RunEnv → Option Block × ℕ
taken select env =
    (select_block (word_of (valued (view_expr select.word) env)) select.arms, cost (view_expr select.word) env)

pub returns-in-Err : goal.returns-in-Err
returns-in-Err g c =
    let p = c.args.scene.now.program.now in
    let v = c.args.scene.now.input.now in
    let input = view_value v in
    let old = c.args.self.now in
    let f = c.args.ahead in
    let env : RunEnv = env_at (cells_of p input old.bound) f.env in
    let at = c.point-point.ensures in
    let seen = same_env c.point-point.result p v old.bound f.env at.program at.input at.bound at.env in
    let select = c.args.select.now in
    let known = subst (λ (around : RunEnv). IsWithin (taken select around).1 c.args.steps.now
    c.select_taken.new.steps) seen c.in-Err.ensures in
    stays_in p input old old f (op.Select select) _ _ _ _ c.requires.top c.requires.op c.requires.low
    refl known c.requires.fits (same_self p input old)

pub returns-in-Ok-enter_block : goal.returns-in-Ok-enter_block
returns-in-Ok-enter_block g c =
    let p = c.args.scene.now.program.now in
    let v = c.args.scene.now.input.now in
    let input = view_value v in
    let old = c.args.self.now in
    let f = c.args.ahead in
    let env : RunEnv = env_at (cells_of p input old.bound) f.env in
    let at = c.point-point.ensures in
    let seen = same_env c.point-point.result p v old.bound f.env at.program at.input at.bound at.env in
    let select = c.args.select.now in
    let known = subst (λ (around : RunEnv). (c.in-Ok.block ≡ (taken select around).0)
    × (c.select_taken.new.steps ≡ c.args.steps.now + (taken select around).1)) seen c.in-Ok.ensures in
    silent_in p input old c.enter_block.new.self f (op.Select select) _ _ _ _ c.requires.top
    c.requires.op c.requires.low refl known.1
    (subst (λ (b : Option Block). GoesIn p input old c.enter_block.new.self f
    (arm_gives (means_before p f.left f.at) b (pos 0) env)) known.0 (c.in-Ok-enter_block.ensures.goes p input))

pub returns-in-Err-enter_block : goal.returns-in-Err-enter_block
returns-in-Err-enter_block g c =
    let p = c.args.scene.now.program.now in
    let v = c.args.scene.now.input.now in
    let input = view_value v in
    let old = c.args.self.now in
    let f = c.args.ahead in
    let env : RunEnv = env_at (cells_of p input old.bound) f.env in
    let at = c.point-point.ensures in
    let seen = same_env c.point-point.result p v old.bound f.env at.program at.input at.bound at.env in
    let select = c.args.select.now in
    let known = subst (λ (around : RunEnv). (c.in-Ok.block ≡ (taken select around).0)
    × (c.select_taken.new.steps ≡ c.args.steps.now + (taken select around).1)) seen c.in-Ok.ensures in
    stays_in p input old c.enter_block.new.self f (op.Select select) _ _ _ _ c.requires.top
    c.requires.op c.requires.low refl (omega (arith, known.1), omega (arith, known.1))
    c.requires.fits c.in-Err-enter_block.ensures.stays
