use Rattle.std.proofs.Common.{arith}
use Rattle.soy_tree.specs.ViewValues.{view_value}
use Rattle.soy_pieces.specs.Giving.{RunEnv}
use Rattle.soy_pieces.specs.Outcome.{none_spent}
use Rattle.render_core.specs.Variables.{cells_of, env_at}
use Rattle.render_core.specs.declared.held.Held.TheVariants as held
use Rattle.render_core.proofs.Handings.{hand_goes, kept_bound, kept_gives_none}
use Rattle.render_core.proofs.TextEnds.{same_stays}
use Rattle.render_core.proofs.stack.Machine.hand_kept.Goals as goal

pub returns-in-Ok : goal.returns-in-Ok
returns-in-Ok c n =
    let p = c.args.scene.now.program.now in
    let input = view_value c.args.scene.now.input.now in
    let old = c.args.self.now in
    let f = c.args.ahead in
    let d = c.args.handed.now in
    let kept = c.kept.result in
    let env : RunEnv = env_at (cells_of p input old.bound) f.env in
    let ends = c.in-Ok.ensures in
    hand_goes p input old c.hand_held.new.self f c.args.handing d (held.Block kept) none_spent n n c.requires.hands
    (kept_gives_none p input f d c.args.kind c.args.block env c.requires.by c.requires.kind)
    (kept_bound p input f d c.args.kind c.args.block (cells_of p input old.bound) kept c.requires.by
    c.requires.kind
    c.kept.ensures) (omega arith) ends.top ends.below ends.texts ends.bound

pub returns-in-Err : goal.returns-in-Err
returns-in-Err c n =
    let p = c.args.scene.now.program.now in
    let input = view_value c.args.scene.now.input.now in
    same_stays p input c.args.self.now c.hand_held.new.self n c.in-Err.ensures.stays c.requires.hands.fits
