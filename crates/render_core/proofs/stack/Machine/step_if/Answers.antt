use Rattle.std.proofs.Common.{◌≡◌, ℕ, ◌+◌, pos, List, Option, map, arith, subst}
use Rattle.soy_tree.specs.ViewValues.{view_value}
use Rattle.soy_expr.specs.Evaluates.{IsWithin}
use Rattle.soy_pieces.specs.Giving.{RunEnv}
use Rattle.template_ir.specs.Run.{arm_gives}
use Rattle.template_ir.specs.ViewOps.{view_branch}
use Rattle.template_ir.specs.declared.op.Block.{Block}
use Rattle.template_ir.specs.declared.op.Branch.{Branch}
use Rattle.template_ir.specs.declared.op.Op.TheVariants as op
use Rattle.render_core.specs.Chosen.{branch_chosen}
use Rattle.render_core.specs.Frames.{means_before}
use Rattle.render_core.specs.Stepping.{GoesIn}
use Rattle.render_core.specs.Variables.{cells_of, env_at}
use Rattle.render_core.proofs.Meanings.{means_if}
use Rattle.render_core.proofs.Moves.{same_self, silent_in, stays_in}
use Rattle.render_core.proofs.Sights.{same_env}
use Rattle.render_core.proofs.stack.Machine.step_if.Goals as goal

abbrev taken : List Branch → Option Block → RunEnv → Option Block × ℕ
taken branches other env = branch_chosen (map view_branch branches) other env

pub returns-in-Err : goal.returns-in-Err
returns-in-Err g c =
    let p = c.args.scene.now.program.now in
    let v = c.args.scene.now.input.now in
    let input = view_value v in
    let old = c.args.self.now in
    let f = c.args.ahead in
    let env : RunEnv = env_at (cells_of p input old.bound) f.env in
    let at = c.point-point.ensures in
    let seen = same_env c.point-point.result p v old.bound f.env at.program at.input at.bound at.env in
    let bs = c.args.branches.now in
    let other = c.args.other in
    let known = subst (λ (around : RunEnv). IsWithin (taken bs other around).1 c.args.steps.now
    c.branch_taken.new.steps) seen c.in-Err.ensures in
    stays_in p input old old f (op.If bs other) _ _ _ _ c.requires.top c.requires.op c.requires.low
    (means_if p f.left f.at bs other f.number env) known c.requires.fits (same_self p input old)

pub returns-in-Ok-enter_block : goal.returns-in-Ok-enter_block
returns-in-Ok-enter_block g c =
    let p = c.args.scene.now.program.now in
    let v = c.args.scene.now.input.now in
    let input = view_value v in
    let old = c.args.self.now in
    let f = c.args.ahead in
    let env : RunEnv = env_at (cells_of p input old.bound) f.env in
    let at = c.point-point.ensures in
    let seen = same_env c.point-point.result p v old.bound f.env at.program at.input at.bound at.env in
    let bs = c.args.branches.now in
    let other = c.args.other in
    let known = subst (λ (around : RunEnv). (c.in-Ok.block ≡ (taken bs other around).0)
    × (c.branch_taken.new.steps ≡ c.args.steps.now + (taken bs other around).1)) seen c.in-Ok.ensures in
    silent_in p input old c.enter_block.new.self f (op.If bs other) _ _ _ _ c.requires.top
    c.requires.op c.requires.low (means_if p f.left f.at bs other f.number env) known.1
    (subst (λ (b : Option Block). GoesIn p input old c.enter_block.new.self f
    (arm_gives (means_before p f.left f.at) b (pos 0) env)) known.0 (c.in-Ok-enter_block.ensures.goes p input))

pub returns-in-Err-enter_block : goal.returns-in-Err-enter_block
returns-in-Err-enter_block g c =
    let p = c.args.scene.now.program.now in
    let v = c.args.scene.now.input.now in
    let input = view_value v in
    let old = c.args.self.now in
    let f = c.args.ahead in
    let env : RunEnv = env_at (cells_of p input old.bound) f.env in
    let at = c.point-point.ensures in
    let seen = same_env c.point-point.result p v old.bound f.env at.program at.input at.bound at.env in
    let bs = c.args.branches.now in
    let other = c.args.other in
    let known = subst (λ (around : RunEnv). (c.in-Ok.block ≡ (taken bs other around).0)
    × (c.branch_taken.new.steps ≡ c.args.steps.now + (taken bs other around).1)) seen c.in-Ok.ensures in
    stays_in p input old c.enter_block.new.self f (op.If bs other) _ _ _ _ c.requires.top
    c.requires.op c.requires.low (means_if p f.left f.at bs other f.number env)
    (omega (arith, known.1), omega (arith, known.1)) c.requires.fits c.in-Err-enter_block.ensures.stays
