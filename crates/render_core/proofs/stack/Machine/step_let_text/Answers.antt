use Rattle.soy_tree.specs.ViewValues.{view_value}
use Rattle.render_core.proofs.Gathers.{text_let}
use Rattle.render_core.proofs.stack.Machine.step_let_text.Goals as goal

pub returns-in-Ok : goal.returns-in-Ok
returns-in-Ok c n =
    let p = c.args.scene.now.program.now in
    let input = view_value c.args.scene.now.input.now in
    let ends = c.in-Ok.ensures in
    text_let p input c.args.self.now c.gather_block.new.self c.args.ahead c.args.name.now c.args.block n c.requires.top
    c.requires.fits c.requires.op c.requires.low ends.top ends.below ends.texts ends.bound
