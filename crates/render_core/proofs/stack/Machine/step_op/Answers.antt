use Rattle.std.proofs.Common.{Ok, ◌∙◌, Some, ap, refl, subst, sym}
use Rattle.soy_base.specs.declared.kind.Kind.{Kind}
use Rattle.template_ir.specs.declared.op.Op.{Op}
use Rattle.template_ir.specs.declared.op.Op.TheVariants as op
use Rattle.render_core.specs.Rounds.{IsLoopOver}
use Rattle.render_core.specs.Stepping.{IsBlockKind, output}
use Rattle.soy_tree.specs.ViewValues.{view_value}
use Rattle.render_core.proofs.Gives.{quiet_step}
use Rattle.render_core.proofs.stack.Machine.step_op.Goals as goal

pub step_for-requires-clause-list : goal.step_for-requires-clause-list
step_for-requires-clause-list g c =
    subst (λ (o : Op). IsLoopOver c.in-For.list o) (sym c.in-For.is) refl

pub step_let_text-requires-clause-op : goal.step_let_text-requires-clause-op
step_let_text-requires-clause-op g c =
    c.requires.op
    ∙ (ap (λ (o : Op). Some o) c.in-LetBlock.is
    ∙ ap (λ (k : Kind). Some (op.LetBlock c.in-LetBlock.name k c.in-LetBlock.block)) c.in-Text.is)

pub step_let_block-requires-clause-kind : goal.step_let_block-requires-clause-kind
step_let_block-requires-clause-kind g c = subst IsBlockKind (sym c.in-Html.is) tt

pub step_let_block-requires-in-Attributes-clause-kind : goal.step_let_block-requires-in-Attributes-clause-kind
step_let_block-requires-in-Attributes-clause-kind g c = subst IsBlockKind (sym c.in-Attributes.is) tt

pub returns-in-Static-clause-stepped : goal.returns-in-Static-clause-stepped
returns-in-Static-clause-stepped g c = c.step_static.ensures.stepped _

pub returns-in-Number-clause-stepped : goal.returns-in-Number-clause-stepped
returns-in-Number-clause-stepped g c = c.step_number.ensures.stepped _

pub returns-in-Text-clause-stepped : goal.returns-in-Text-clause-stepped
returns-in-Text-clause-stepped g c =
    let n = c.args.steps.now in
    quiet_step c.args.scene.now.program.now (view_value c.args.scene.now.input.now) c.args.self.now
    c.step_let_text.new.self n n (output c.args.room.now c.args.room.now c.args.piece.now)
    c.step_let_text.result (c.step_let_text.ensures n)

pub returns-in-Html-clause-stepped : goal.returns-in-Html-clause-stepped
returns-in-Html-clause-stepped g c =
    let n = c.args.steps.now in
    quiet_step c.args.scene.now.program.now (view_value c.args.scene.now.input.now) c.args.self.now
    c.step_let_block.new.self n n (output c.args.room.now c.args.room.now c.args.piece.now)
    c.step_let_block.result (c.step_let_block.ensures n)

pub returns-in-Attributes-clause-stepped : goal.returns-in-Attributes-clause-stepped
returns-in-Attributes-clause-stepped g c =
    let n = c.args.steps.now in
    quiet_step c.args.scene.now.program.now (view_value c.args.scene.now.input.now) c.args.self.now
    c.step_let_block-in-Attributes.new.self n n (output c.args.room.now c.args.room.now c.args.piece.now)
    c.step_let_block-in-Attributes.result (c.step_let_block-in-Attributes.ensures n)

pub returns-in-Call-clause-stepped : goal.returns-in-Call-clause-stepped
returns-in-Call-clause-stepped g c =
    let n = c.args.steps.now in
    quiet_step c.args.scene.now.program.now (view_value c.args.scene.now.input.now) c.args.self.now
    c.step_call.new.self n n (output c.args.room.now c.args.room.now c.args.piece.now)
    (Ok c.step_call.result) (c.step_call.ensures n)
