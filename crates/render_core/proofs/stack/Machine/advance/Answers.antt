use Rattle.std.proofs.Common.{◌<◌, List, ℕ, length, refl, subst, sym}
use Rattle.soy_tree.specs.ViewValues.{view_value}
use Rattle.render_core.specs.Frames.{MachineFits}
use Rattle.render_core.proofs.ReadyOps.{ready_piece, same_advanced}
use Rattle.render_core.proofs.stack.Machine.advance.Goals as goal

pub advance_by_steps-requires-clause-fits : goal.advance_by_steps-requires-clause-fits
advance_by_steps-requires-clause-fits g c =
    subst MachineFits (sym (c.in-None.ensures.machine refl)) c.requires.fits

pub advance_by_steps-requires-clause-some : goal.advance_by_steps-requires-clause-some
advance_by_steps-requires-clause-some g c =
    subst (λ (xs : List ℕ). 0 < length xs) (sym (c.in-None.ensures.room refl)) c.requires.some

pub returns-in-Some : goal.returns-in-Some
returns-in-Some g c =
    ready_piece c.args.scene.now.program.now (view_value c.args.scene.now.input.now) c.args.self.now
    c.give_ready.new.self c.args.steps.now c.give_ready.new.steps c.args.room.now c.give_ready.new.room
    c.args.piece.now c.in-Some.n c.requires.fits c.in-Some.ensures.gives c.in-Some.ensures.some c.requires.none

pub returns-in-None : goal.returns-in-None
returns-in-None g c =
    let same = c.in-None.ensures in
    same_advanced c.args.scene.now.program.now (view_value c.args.scene.now.input.now) c.args.self.now
    c.give_ready.new.self c.advance_by_steps.new.self c.args.steps.now c.give_ready.new.steps
    c.advance_by_steps.new.steps c.args.room.now c.give_ready.new.room c.advance_by_steps.new.room
    c.advance_by_steps.new.piece c.advance_by_steps.result (same.machine refl) (same.room refl) (same.steps refl)
    c.advance_by_steps.ensures
