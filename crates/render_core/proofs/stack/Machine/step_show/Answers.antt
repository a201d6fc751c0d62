use Rattle.std.proofs.Common.{subst}
use Rattle.soy_base.specs.declared.place.ValueClass.TheVariants as value_class
use Rattle.soy_tree.specs.ViewValues.{view_value}
use Rattle.render_core.specs.Forms.{form_at}
use Rattle.render_core.specs.Stepping.{GaveForm, output}
use Rattle.render_core.specs.declared.frame.Ahead.{Ahead}
use Rattle.render_core.specs.declared.frame.Frame.TheVariants as frame
use Rattle.render_core.proofs.Moves.{same_self}
use Rattle.render_core.proofs.Openings.{show_gives}
use Rattle.render_core.proofs.TextEnds.{same_stays}
use Rattle.render_core.proofs.stack.Machine.step_show.Goals as goal

pub returns-in-Err-clause-stepped : goal.returns-in-Err-clause-stepped
returns-in-Err-clause-stepped c n =
    let p = c.args.scene.now.program.now in
    let input = view_value c.args.scene.now.input.now in
    let old = c.args.self.now in
    same_stays p input old old n (same_self p input old) c.requires.fits

pub returns-clause-stepped : goal.returns-clause-stepped
returns-clause-stepped c n =
    let p = c.args.scene.now.program.now in
    let input = view_value c.args.scene.now.input.now in
    let old = c.args.self.now in
    let text = c.in-Ok.text in
    let out = output c.args.room.now c.give_value.new.room c.give_value.new.piece in
    show_gives p input old c.give_value.new.self c.args.ahead c.args.at n text c.args.place out c.give_value.result
    c.requires.top c.requires.fits c.requires.place c.in-Ok.ensures
    (subst (λ (a : Ahead). GaveForm p input old c.give_value.new.self (frame.Ops a)
    (form_at c.args.place value_class.Text text p.dir) out c.give_value.result) c.past.ensures
    c.give_value.ensures.gave)
