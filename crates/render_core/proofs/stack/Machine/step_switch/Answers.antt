use Rattle.std.proofs.Common.{◌≡◌, ℕ, ◌+◌, pos, List, Option, map, refl, arith, subst}
use Rattle.soy_rules.specs.Cost.{cost}
use Rattle.soy_tree.specs.ViewExpressions.{view_expr}
use Rattle.soy_tree.specs.ViewValues.{view_value}
use Rattle.soy_tree.specs.declared.expr.Expr.{Expr}
use Rattle.soy_expr.specs.Evaluates.{IsWithin}
use Rattle.soy_pieces.specs.Giving.{RunEnv}
use Rattle.soy_pieces.specs.Pieces.{valued}
use Rattle.template_ir.specs.Run.{arm_gives}
use Rattle.template_ir.specs.ViewOps.{view_choice}
use Rattle.template_ir.specs.declared.op.Block.{Block}
use Rattle.template_ir.specs.declared.op.Choice.{Choice}
use Rattle.template_ir.specs.declared.op.Op.TheVariants as op
use Rattle.render_core.specs.Chosen.{added_cost, choice_chosen}
use Rattle.render_core.specs.Frames.{means_before}
use Rattle.render_core.specs.Stepping.{GoesIn}
use Rattle.render_core.specs.Variables.{cells_of, env_at}
use Rattle.render_core.proofs.Meanings.{means_switch}
use Rattle.render_core.proofs.Moves.{same_self, silent_in, stays_in}
use Rattle.render_core.proofs.Sights.{same_env}
use Rattle.render_core.proofs.stack.Machine.step_switch.Goals as goal

abbrev taken : Expr → List Choice → Option Block → RunEnv → Option Block × ℕ
taken subject choices other env =
    added_cost (cost (view_expr subject) env)
    (choice_chosen (valued (view_expr subject) env) (map view_choice choices) other env)

pub returns-in-Err : goal.returns-in-Err
returns-in-Err g c =
    let p = c.args.scene.now.program.now in
    let v = c.args.scene.now.input.now in
    let input = view_value v in
    let old = c.args.self.now in
    let f = c.args.ahead in
    let env : RunEnv = env_at (cells_of p input old.bound) f.env in
    let at = c.point-point.ensures in
    let seen = same_env c.point-point.result p v old.bound f.env at.program at.input at.bound at.env in
    let e = c.args.subject.now in
    let cs = c.args.choices.now in
    let other = c.args.other in
    let known = subst (λ (around : RunEnv). IsWithin (taken e cs other around).1 c.args.steps.now
    c.switch_taken.new.steps) seen c.in-Err.ensures in
    stays_in p input old old f (op.Switch e cs other) _ _ _ _ c.requires.top c.requires.op c.requires.low
    (means_switch p f.left f.at e cs other f.number env _ refl) known c.requires.fits (same_self p input old)

pub returns-in-Ok-enter_block : goal.returns-in-Ok-enter_block
returns-in-Ok-enter_block g c =
    let p = c.args.scene.now.program.now in
    let v = c.args.scene.now.input.now in
    let input = view_value v in
    let old = c.args.self.now in
    let f = c.args.ahead in
    let env : RunEnv = env_at (cells_of p input old.bound) f.env in
    let at = c.point-point.ensures in
    let seen = same_env c.point-point.result p v old.bound f.env at.program at.input at.bound at.env in
    let e = c.args.subject.now in
    let cs = c.args.choices.now in
    let other = c.args.other in
    let known = subst (λ (around : RunEnv). (c.in-Ok.block ≡ (taken e cs other around).0)
    × (c.switch_taken.new.steps ≡ c.args.steps.now + (taken e cs other around).1)) seen c.in-Ok.ensures in
    silent_in p input old c.enter_block.new.self f (op.Switch e cs other) _ _ _ _ c.requires.top
    c.requires.op c.requires.low (means_switch p f.left f.at e cs other f.number env _ refl) known.1
    (subst (λ (b : Option Block). GoesIn p input old c.enter_block.new.self f
    (arm_gives (means_before p f.left f.at) b (pos 0) env)) known.0 (c.in-Ok-enter_block.ensures.goes p input))

pub returns-in-Err-enter_block : goal.returns-in-Err-enter_block
returns-in-Err-enter_block g c =
    let p = c.args.scene.now.program.now in
    let v = c.args.scene.now.input.now in
    let input = view_value v in
    let old = c.args.self.now in
    let f = c.args.ahead in
    let env : RunEnv = env_at (cells_of p input old.bound) f.env in
    let at = c.point-point.ensures in
    let seen = same_env c.point-point.result p v old.bound f.env at.program at.input at.bound at.env in
    let e = c.args.subject.now in
    let cs = c.args.choices.now in
    let other = c.args.other in
    let known = subst (λ (around : RunEnv). (c.in-Ok.block ≡ (taken e cs other around).0)
    × (c.switch_taken.new.steps ≡ c.args.steps.now + (taken e cs other around).1)) seen c.in-Ok.ensures in
    stays_in p input old c.enter_block.new.self f (op.Switch e cs other) _ _ _ _ c.requires.top
    c.requires.op c.requires.low (means_switch p f.left f.at e cs other f.number env _ refl)
    (omega (arith, known.1), omega (arith, known.1)) c.requires.fits c.in-Err-enter_block.ensures.stays
