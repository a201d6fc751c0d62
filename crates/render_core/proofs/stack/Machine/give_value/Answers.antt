use Rattle.std.proofs.Common.{ℕ, List, refl, sym, ◌∙◌, subst}
use Rattle.soy_tree.specs.ViewValues.{view_value}
use Rattle.render_core.specs.Stepping.{GaveForm, output}
use Rattle.render_core.proofs.GivenForms.{form_same, given_at}
use Rattle.render_core.proofs.Sights.{hand_seen}
use Rattle.render_core.proofs.stack.Machine.give_value.Goals as goal

pub returns-in-Ok-clause-gave : goal.returns-in-Ok-clause-gave
returns-in-Ok-clause-gave c =
    let p = c.args.scene.now.program.now in
    let v = c.args.scene.now.input.now in
    let old = c.args.self.now in
    let pt = c.point.result in
    let at = c.point.ensures in
    let known = c.in-Ok.ensures in (
      refl,
      refl,
      refl,
      refl,
      sym c.is_empty.ensures ∙ c.if-is_empty.true,
      given_at pt p v old.bound at.program at.input at.bound c.args.place c.args.print c.args.class
          (output c.args.room.now c.give_form.new.room c.give_form.new.piece) c.in-Ok.n known.given,
    )

pub returns-in-Ok-escaped_whole-clause-gave : goal.returns-in-Ok-escaped_whole-clause-gave
returns-in-Ok-escaped_whole-clause-gave c =
    let p = c.args.scene.now.program.now in
    let v = c.args.scene.now.input.now in
    let old = c.args.self.now in
    let pt = c.point-else-is_empty.result in
    let at = c.point-else-is_empty.ensures in
    let out = output c.args.room.now c.args.room.now c.args.piece.now in
    subst (λ (form : List ℕ). GaveForm p (view_value v) old c.gather_more.new.self c.args.next form out
    c.gather_more.result)
    (c.in-Ok-escaped_whole.ensures
    ∙ form_same pt p v old.bound at.program at.input at.bound c.args.place c.args.print c.args.class)
    (c.gather_more.ensures.gave p (view_value v) out)

pub give_form-requires-clause-at_hand : goal.give_form-requires-clause-at_hand
give_form-requires-clause-at_hand c =
    let at = c.point.ensures in
    hand_seen c.point.result c.args.scene.now.program.now c.args.scene.now.input.now c.args.self.now.bound
    at.program at.input at.bound c.args.print c.requires.at_hand

pub escaped_whole-requires : goal.escaped_whole-requires
escaped_whole-requires c =
    let at = c.point-else-is_empty.ensures in
    hand_seen c.point-else-is_empty.result c.args.scene.now.program.now c.args.scene.now.input.now
    c.args.self.now.bound at.program at.input at.bound c.args.print c.requires.at_hand
