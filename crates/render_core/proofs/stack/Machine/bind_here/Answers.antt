use Rattle.std.proofs.Common.{refl, ap, ◌∙◌}
use Rattle.soy_tree.specs.ViewValues.{view_value}
use Rattle.render_core.specs.Frames.{past_with}
use Rattle.render_core.specs.declared.frame.Frame.TheVariants as frame
use Rattle.render_core.specs.declared.held.Naming.TheVariants as naming
use Rattle.render_core.specs.declared.stack.Machine.{Machine}
use Rattle.render_core.proofs.Gives.{bind_does}
use Rattle.render_core.proofs.stack.Machine.bind_here.Goals as goal

pub returns-in-Ok-clause-binds : goal.returns-in-Ok-clause-binds
returns-in-Ok-clause-binds c =
    let p = c.args.scene.now.program.now in
    let input = view_value c.args.scene.now.input.now in
    let old = c.args.self.now in
    let f = c.args.ahead in
    let new : Machine = record old { top = frame.Ops c.past_with.result; bound = c.bind.new.self } in
    bind_does p input old new f (naming.Op f.at) c.args.to c.requires.top c.requires.fits
    (ap frame.Ops (c.past_with.ensures ∙ ap (past_with f) c.in-Ok.ensures.number)) refl refl c.in-Ok.ensures.ok
