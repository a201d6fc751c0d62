use Rattle.std.proofs.Common.{ℕ, List, subst}
use Rattle.soy_tree.specs.ViewValues.{view_value}
use Rattle.render_core.specs.Linked.{Adds}
use Rattle.render_core.specs.Stepping.{text_var}
use Rattle.render_core.proofs.Moves.{same_self}
use Rattle.render_core.proofs.TextEnds.{gather_low, same_stays, text_ends}
use Rattle.render_core.proofs.stack.Machine.step_gathered.Goals as goal

pub end_text-requires : goal.end_text-requires
end_text-requires c =
    let p = c.args.scene.now.program.now in
    let input = view_value c.args.scene.now.input.now in
    gather_low p input c.args.self.now c.args.ahead c.args.purpose c.requires.top c.requires.fits

pub returns-in-Err : goal.returns-in-Err
returns-in-Err c n =
    let p = c.args.scene.now.program.now in
    let input = view_value c.args.scene.now.input.now in
    same_stays p input c.args.self.now c.args.self.now n (same_self p input c.args.self.now) c.requires.fits

pub returns-in-Ok-end_text : goal.returns-in-Ok-end_text
returns-in-Ok-end_text c n =
    let p = c.args.scene.now.program.now in
    let input = view_value c.args.scene.now.input.now in
    let old = c.args.self.now in
    let f = c.args.ahead in
    let ends = c.in-Ok-end_text.ensures in
    text_ends p input old c.end_text.new.self f c.args.purpose n c.requires.top c.requires.fits ends.top ends.below
    ends.texts
    (subst (λ (text : List ℕ). Adds p (text_var f c.args.purpose text) old.bound c.end_text.new.self.bound)
    c.in-Ok.ensures ends.bound)

pub returns-in-Err-end_text : goal.returns-in-Err-end_text
returns-in-Err-end_text c n =
    let p = c.args.scene.now.program.now in
    let input = view_value c.args.scene.now.input.now in
    same_stays p input c.args.self.now c.end_text.new.self n c.in-Err-end_text.ensures.stays c.requires.fits
