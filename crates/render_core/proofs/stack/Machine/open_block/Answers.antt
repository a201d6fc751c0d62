use Rattle.std.proofs.Common.{◌∙◌, ◌∷◌, ap}
use Rattle.soy_tree.specs.ViewValues.{view_value}
use Rattle.render_core.specs.declared.frame.Ahead.{Ahead}
use Rattle.render_core.specs.declared.frame.Frame.TheVariants as frame
use Rattle.render_core.proofs.Openings.{block_opens, call_low}
use Rattle.render_core.proofs.TextEnds.{same_stays}
use Rattle.render_core.proofs.stack.Machine.open_block.Goals as goal

pub called_child-requires : goal.called_child-requires
called_child-requires c = c.requires.opens.left

pub past-requires : goal.past-requires
past-requires c =
    call_low c.args.scene.now.program.now (view_value c.args.scene.now.input.now) c.args.self.now c.args.ahead
    c.args.handing c.args.callee.now c.requires.opens.opens

pub returns-in-Ok : goal.returns-in-Ok
returns-in-Ok c n =
    let ends = c.in-Ok.ensures in
    block_opens c.args.scene.now.program.now (view_value c.args.scene.now.input.now) c.args.self.now c.enter.new.self
    c.args.ahead c.args.handing c.args.callee.now c.args.routine.now n c.requires.opens c.requires.kind
    (ends.top ∙ ap (λ (a : Ahead). frame.Ops a) c.called_child.ensures)
    (ends.below ∙ ap (λ (a : Ahead). frame.Ops a ∷ c.args.self.now.below) c.past.ensures) ends.texts ends.bound

pub returns-in-Err : goal.returns-in-Err
returns-in-Err c n =
    let ends = c.in-Err.ensures in
    same_stays c.args.scene.now.program.now (view_value c.args.scene.now.input.now) c.args.self.now c.enter.new.self n
    (record { top = ends.top_stays; below = ends.below_stays; texts = ends.texts; bound = ends.bound })
    c.requires.opens.opens.fits
