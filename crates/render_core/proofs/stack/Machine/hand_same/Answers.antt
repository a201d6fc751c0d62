use Rattle.std.proofs.Common.{◌∙◌, ap, arith, sym}
use Rattle.soy_rules.specs.Val.{binding}
use Rattle.soy_tree.specs.ViewValues.{view_value}
use Rattle.soy_pieces.specs.Giving.{RunEnv}
use Rattle.soy_pieces.specs.Outcome.{none_spent}
use Rattle.render_core.specs.Variables.{cells_of, env_at}
use Rattle.render_core.proofs.Handings.{hand_goes, hand_stays, same_bound, same_gives_none}
use Rattle.render_core.proofs.Moves.{same_self}
use Rattle.render_core.proofs.Sights.{found_at, same_env}
use Rattle.render_core.proofs.stack.Machine.hand_same.Goals as goal

pub returns-in-Err : goal.returns-in-Err
returns-in-Err c n =
    let p = c.args.scene.now.program.now in
    let input = view_value c.args.scene.now.input.now in
    let old = c.args.self.now in
    let f = c.args.ahead in
    let d = c.args.handed.now in
    let env : RunEnv = env_at (cells_of p input old.bound) f.env in
    hand_stays p input old old f c.args.handing d none_spent n n c.requires.hands
    (same_gives_none p input f d env c.requires.by) (omega arith, omega arith) (same_self p input old)

pub returns-in-Ok-hand_held : goal.returns-in-Ok-hand_held
returns-in-Ok-hand_held c n =
    let p = c.args.scene.now.program.now in
    let v = c.args.scene.now.input.now in
    let input = view_value v in
    let old = c.args.self.now in
    let f = c.args.ahead in
    let d = c.args.handed.now in
    let pt = c.point.result in
    let seen = c.point.ensures in
    let env : RunEnv = env_at (cells_of p input old.bound) f.env in
    let ends = c.in-Ok-hand_held.ensures in
    hand_goes p input old c.hand_held.new.self f c.args.handing d c.held.result none_spent n n c.requires.hands
    (same_gives_none p input f d env c.requires.by)
    (same_bound p input f d (cells_of p input old.bound) env c.in-Ok.found c.held.result c.requires.by
    (sym (found_at pt p v old.bound seen.program seen.input seen.bound c.in-Ok.found)
    ∙ (c.in-Ok.ensures.means
    ∙ ap (λ (around : RunEnv). binding d.name around)
    (same_env pt p v old.bound f.env seen.program seen.input seen.bound seen.env)))
    c.held.ensures) (omega arith) ends.top ends.below ends.texts ends.bound

pub returns-in-Err-hand_held : goal.returns-in-Err-hand_held
returns-in-Err-hand_held c n =
    let p = c.args.scene.now.program.now in
    let input = view_value c.args.scene.now.input.now in
    let old = c.args.self.now in
    let f = c.args.ahead in
    let d = c.args.handed.now in
    let env : RunEnv = env_at (cells_of p input old.bound) f.env in
    hand_stays p input old c.hand_held.new.self f c.args.handing d none_spent n n c.requires.hands
    (same_gives_none p input f d env c.requires.by) (omega arith, omega arith) c.in-Err-hand_held.ensures.stays
