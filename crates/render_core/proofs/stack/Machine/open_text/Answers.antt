use Rattle.std.proofs.Common.{◌∙◌, ap}
use Rattle.soy_tree.specs.ViewValues.{view_value}
use Rattle.render_core.specs.declared.frame.Ahead.{Ahead}
use Rattle.render_core.specs.declared.frame.Frame.TheVariants as frame
use Rattle.render_core.proofs.Openings.{text_opens}
use Rattle.render_core.proofs.TextEnds.{same_stays}
use Rattle.render_core.proofs.stack.Machine.open_text.Goals as goal

pub called_child-requires : goal.called_child-requires
called_child-requires c = c.requires.opens.left

pub returns-in-Ok : goal.returns-in-Ok
returns-in-Ok c n =
    let ends = c.in-Ok.ensures in
    text_opens c.args.scene.now.program.now (view_value c.args.scene.now.input.now) c.args.self.now c.gather.new.self
    c.args.ahead c.args.handing c.args.callee.now c.args.routine.now n c.requires.opens c.requires.kind
    (ends.top ∙ ap (λ (a : Ahead). frame.Ops a) c.called_child.ensures) ends.below ends.texts ends.bound

pub returns-in-Err : goal.returns-in-Err
returns-in-Err c n =
    same_stays c.args.scene.now.program.now (view_value c.args.scene.now.input.now) c.args.self.now c.gather.new.self n
    c.in-Err.ensures.stays c.requires.opens.opens.fits
