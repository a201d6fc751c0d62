use Rattle.std.proofs.Common.{refl, sym, ap, ◌∙◌}
use Rattle.soy_tree.specs.ViewValues.{view_value}
use Rattle.std.proofs.Common.{take}
use Rattle.render_core.specs.declared.stack.Machine.{Machine}
use Rattle.render_core.proofs.Leaves.{left_frame}
use Rattle.render_core.proofs.stack.Machine.leave.Goals as goal

pub returns-in-Some : goal.returns-in-Some
returns-in-Some c = λ n.
    let p = c.args.scene.now.program.now in
    let input = view_value c.args.scene.now.input.now in
    let old = c.args.self.now in
    let new : Machine = record old { top = c.in-Some.frame; below = c.pop.new.self; bound = c.truncate.new.self } in
    left_frame p input old new c.in-Some.frame c.pop.new.self n c.requires.plain c.in-Some.ensures c.requires.fits
    c.requires.none refl refl refl (c.truncate.ensures ∙ ap (λ k. take k old.bound) (sym c.requires.mark))
