use Rattle.std.proofs.Common.{Ok, sym, ap, ◌∙◌, arith}
use Rattle.soy_tree.specs.ViewValues.{view_value}
use Rattle.soy_pieces.specs.Giving.{RunEnv}
use Rattle.template_ir.specs.declared.op.Op.TheVariants as op
use Rattle.render_core.specs.Variables.{cells_of, env_at}
use Rattle.soy_base.specs.Piece.{Static}
use Rattle.soy_pieces.specs.Outcome.{GivesPiece, Outcome, gives_nothing, none_spent, spent_first}
use Rattle.template_ir.specs.Run.{one_step}
use Rattle.render_core.proofs.Moves.{into_none, silent_in}
use Rattle.render_core.specs.Stepping.{output}
use Rattle.render_core.specs.declared.stack.Step.TheVariants as step
use Rattle.render_core.proofs.Gives.{does_step, gave_does, quiet_step, text_none, text_some}
use Rattle.render_core.proofs.stack.Machine.step_static.Goals as goal

pub returns-then-is_empty-clause-stepped : goal.returns-then-is_empty-clause-stepped
returns-then-is_empty-clause-stepped c n =
    let p = c.args.scene.now.program.now in
    let v = c.args.scene.now.input.now in
    let input = view_value v in
    let old = c.args.self.now in
    let f = c.args.ahead in
    let env : RunEnv = env_at (cells_of p input old.bound) f.env in
    let text = c.args.text.now in
    let new = c.pass.new.self in
    quiet_step p input old new n n (output c.args.room.now c.args.room.now c.args.piece.now) (Ok step.Silent)
    (silent_in p input old new f (op.Static text) 0 gives_nothing n n c.requires.top c.requires.op c.requires.low
    (ap (λ (o : Outcome). (spent_first (one_step 0) o, env))
    (text_none text (sym c.is_empty.ensures ∙ c.if-is_empty.true)))
    (omega arith)
    (into_none p input old new f c.requires.top c.requires.fits c.pass.ensures.top c.pass.ensures.below
    c.pass.ensures.texts c.pass.ensures.bound))

pub returns-clause-stepped : goal.returns-clause-stepped
returns-clause-stepped c n =
    let p = c.args.scene.now.program.now in
    let v = c.args.scene.now.input.now in
    let input = view_value v in
    let old = c.args.self.now in
    let f = c.args.ahead in
    let env : RunEnv = env_at (cells_of p input old.bound) f.env in
    let text = c.args.text.now in
    let out = output c.args.room.now c.give_static.new.room c.give_static.new.piece in
    does_step p input old c.give_static.new.self f (op.Static text) 0
    (GivesPiece none_spent (Static text) gives_nothing) n n
    out c.give_static.result c.requires.top c.requires.fits c.requires.op c.requires.low
    (ap (λ (o : Outcome). (spent_first (one_step 0) o, env))
    (text_some text (sym c.is_empty.ensures ∙ c.if-is_empty.false)))
    (omega arith)
    (gave_does p input old c.give_static.new.self f (Static text) out c.give_static.result c.requires.top
    c.requires.fits (c.give_static.ensures.gave p input c.requires.op))
