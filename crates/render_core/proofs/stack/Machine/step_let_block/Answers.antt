use Rattle.std.proofs.Common.{arith}
use Rattle.soy_tree.specs.ViewValues.{view_value}
use Rattle.soy_pieces.specs.Giving.{RunEnv}
use Rattle.template_ir.specs.declared.op.Op.TheVariants as op
use Rattle.render_core.specs.Variables.{cells_of, env_at}
use Rattle.render_core.specs.declared.held.Held.TheVariants as held
use Rattle.render_core.specs.declared.held.Naming.TheVariants as naming
use Rattle.render_core.proofs.Lets.{means_block}
use Rattle.render_core.proofs.Gives.{binds_stay, binds_step}
use Rattle.render_core.proofs.stack.Machine.step_let_block.Goals as goal

pub returns-in-Ok : goal.returns-in-Ok
returns-in-Ok c n =
    let p = c.args.scene.now.program.now in
    let v = c.args.scene.now.input.now in
    let input = view_value v in
    let old = c.args.self.now in
    let f = c.args.ahead in
    let env : RunEnv = env_at (cells_of p input old.bound) f.env in
    binds_step p input old c.bind_here.new.self f (op.LetBlock c.args.name.now c.args.kind c.args.block) 0
    (naming.Op f.at) (held.Block c.kept.result) _ _ c.requires.top c.requires.op c.requires.low
    (means_block p (cells_of p input old.bound) f c.args.name.now c.args.kind c.args.block c.kept.result input
    c.requires.op c.requires.kind c.kept.ensures) (omega arith) c.in-Ok.ensures.binds

pub returns-in-Err : goal.returns-in-Err
returns-in-Err c n =
    let p = c.args.scene.now.program.now in
    let v = c.args.scene.now.input.now in
    let input = view_value v in
    let old = c.args.self.now in
    let f = c.args.ahead in
    let env : RunEnv = env_at (cells_of p input old.bound) f.env in
    binds_stay p input old c.bind_here.new.self f (op.LetBlock c.args.name.now c.args.kind c.args.block) 0 _ _ _
    c.requires.top c.requires.op c.requires.low
    (means_block p (cells_of p input old.bound) f c.args.name.now c.args.kind c.args.block c.kept.result input
    c.requires.op c.requires.kind c.kept.ensures) (omega arith, omega arith) c.requires.fits c.in-Err.ensures.stays
