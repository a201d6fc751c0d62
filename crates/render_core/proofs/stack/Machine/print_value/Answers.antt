use Rattle.std.proofs.Common.{sym, ◌∙◌, subst}
use Rattle.soy_tree.specs.ViewValues.{view_value}
use Rattle.render_core.specs.Forms.{form_at}
use Rattle.render_core.specs.Shows.{print_text}
use Rattle.render_core.specs.Stepping.{GaveForm, output}
use Rattle.render_core.specs.Variables.{cells_of}
use Rattle.render_core.specs.declared.frame.Ahead.{Ahead}
use Rattle.render_core.specs.declared.frame.Frame.TheVariants as frame
use Rattle.render_core.proofs.GivenForms.{given_at}
use Rattle.render_core.proofs.Sights.{hand_seen}
use Rattle.render_core.proofs.stack.Machine.print_value.Goals as goal

pub returns-in-Ok-clause-gave : goal.returns-in-Ok-clause-gave
returns-in-Ok-clause-gave c =
    let p = c.args.scene.now.program.now in
    let v = c.args.scene.now.input.now in
    let old = c.args.self.now in
    let pt = c.point.result in
    let at = c.point.ensures in
    let known = c.in-Ok.ensures in (
      c.pass.ensures.top,
      c.pass.ensures.below,
      c.pass.ensures.bound,
      c.pass.ensures.texts,
      sym c.is_empty.ensures ∙ c.if-is_empty.true,
      given_at pt p v old.bound at.program at.input at.bound c.args.place c.args.print c.args.class
          (output c.args.room.now c.give_form.new.room c.give_form.new.piece) c.in-Ok.n known.given,
    )

pub returns-else-is_empty-clause-gave : goal.returns-else-is_empty-clause-gave
returns-else-is_empty-clause-gave c =
    let p = c.args.scene.now.program.now in
    let input = view_value c.args.scene.now.input.now in
    let old = c.args.self.now in
    let text = print_text (cells_of p input old.bound) c.args.print in
    let out = output c.args.room.now c.give_value.new.room c.give_value.new.piece in
    subst (λ (g : Ahead). GaveForm p input old c.give_value.new.self (frame.Ops g)
    (form_at c.args.place c.args.class text p.dir) out c.give_value.result)
    c.past.ensures c.give_value.ensures.gave

pub give_form-requires-clause-at_hand : goal.give_form-requires-clause-at_hand
give_form-requires-clause-at_hand c =
    let at = c.point.ensures in
    hand_seen c.point.result c.args.scene.now.program.now c.args.scene.now.input.now c.args.self.now.bound
    at.program at.input at.bound c.args.print c.requires.at_hand
