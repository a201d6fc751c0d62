use Rattle.soy_tree.specs.ViewValues.{view_value}
use Rattle.render_core.proofs.Handings.{hand_gathers}
use Rattle.render_core.proofs.TextEnds.{same_stays}
use Rattle.render_core.proofs.stack.Machine.hand_text.Goals as goal

pub returns-in-Ok : goal.returns-in-Ok
returns-in-Ok c n =
    let p = c.args.scene.now.program.now in
    let input = view_value c.args.scene.now.input.now in
    let ends = c.in-Ok.ensures in
    hand_gathers p input c.args.self.now c.gather_block.new.self c.args.ahead c.args.handing c.args.handed.now
    c.args.block n
    c.requires.hands c.requires.by ends.top ends.below ends.texts ends.bound

pub returns-in-Err : goal.returns-in-Err
returns-in-Err c n =
    let p = c.args.scene.now.program.now in
    let input = view_value c.args.scene.now.input.now in
    same_stays p input c.args.self.now c.gather_block.new.self n c.in-Err.ensures.stays c.requires.hands.fits
