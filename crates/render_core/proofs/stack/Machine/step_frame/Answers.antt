use Rattle.std.proofs.Common.{Ok, ◌∙◌, ap, subst, sym}
use Rattle.std.specs.List.{slice_get}
use Rattle.soy_tree.specs.ViewValues.{view_value}
use Rattle.render_core.specs.Frames.{IsPlainFrame, frame_gives, mark_of}
use Rattle.render_core.specs.Variables.{cells_of, env_at}
use Rattle.render_core.specs.declared.frame.Frame.{Frame}
use Rattle.render_core.specs.declared.frame.Frame.TheVariants as frame
use Rattle.render_core.specs.Stepping.{output}
use Rattle.render_core.proofs.Gives.{quiet_step}
use Rattle.render_core.proofs.Moves.{fits_top}
use Rattle.render_core.proofs.Openings.{call_none}
use Rattle.render_core.proofs.Ops.{ahead_end}
use Rattle.render_core.proofs.stack.Machine.step_frame.Goals as goal

pub leave-requires-clause-mark : goal.leave-requires-clause-mark
leave-requires-clause-mark g c = ap mark_of c.in-Ops.is

pub leave-requires-clause-plain : goal.leave-requires-clause-plain
leave-requires-clause-plain g c = subst IsPlainFrame (sym c.in-Ops.is) tt

pub leave-requires-clause-none : goal.leave-requires-clause-none
leave-requires-clause-none g c =
    let p = c.args.scene.now.program.now in
    let input = view_value c.args.scene.now.input.now in
    let bound = c.args.self.now.bound in
    let f = c.in-Ops.ahead in
    ap (λ (t : Frame). frame_gives p input bound t) c.in-Ops.is
    ∙ ahead_end p f (env_at (cells_of p input bound) f.env) c.in-None.ensures

pub step_show-requires-clause-low : goal.step_show-requires-clause-low
step_show-requires-clause-low g c =
    let p = c.args.scene.now.program.now in
    let input = view_value c.args.scene.now.input.now in
    (fits_top p input c.args.self.now (frame.Show c.in-Show.ahead c.in-Show.at) c.in-Show.is c.requires.fits).0.0

pub step_handing-requires-clause-op : goal.step_handing-requires-clause-op
step_handing-requires-clause-op g c = sym c.in-Some-callee_at.ensures

pub leave-requires-in-None-callee_at-clause-mark : goal.leave-requires-in-None-callee_at-clause-mark
leave-requires-in-None-callee_at-clause-mark g c = ap mark_of c.in-Call.is

pub leave-requires-in-None-callee_at-clause-plain : goal.leave-requires-in-None-callee_at-clause-plain
leave-requires-in-None-callee_at-clause-plain g c = subst IsPlainFrame (sym c.in-Call.is) tt

pub leave-requires-in-None-callee_at-clause-none : goal.leave-requires-in-None-callee_at-clause-none
leave-requires-in-None-callee_at-clause-none g c =
    let p = c.args.scene.now.program.now in
    let input = view_value c.args.scene.now.input.now in
    let bound = c.args.self.now.bound in
    let f = c.in-Call.ahead in
    let h = c.in-Call.handing in
    ap (λ (t : Frame). frame_gives p input bound t) c.in-Call.is
    ∙ call_none p f h.next (env_at (cells_of p input bound) f.env) (env_at (cells_of p input bound) h.inner)
    (slice_get p.ops f.at) (sym c.in-None-callee_at.ensures)

pub returns-in-None-clause-stepped : goal.returns-in-None-clause-stepped
returns-in-None-clause-stepped g c =
    let n = c.args.steps.now in
    quiet_step c.args.scene.now.program.now (view_value c.args.scene.now.input.now) c.args.self.now
    c.leave.new.self n n (output c.args.room.now c.args.room.now c.args.piece.now)
    (Ok c.leave.result) (c.leave.ensures n)

pub returns-in-Turns-clause-stepped : goal.returns-in-Turns-clause-stepped
returns-in-Turns-clause-stepped g c =
    let n = c.args.steps.now in
    quiet_step c.args.scene.now.program.now (view_value c.args.scene.now.input.now) c.args.self.now
    c.step_turn.new.self n n (output c.args.room.now c.args.room.now c.args.piece.now)
    c.step_turn.result (c.step_turn.ensures n)

pub returns-in-Gather-clause-stepped : goal.returns-in-Gather-clause-stepped
returns-in-Gather-clause-stepped g c =
    let n = c.args.steps.now in
    quiet_step c.args.scene.now.program.now (view_value c.args.scene.now.input.now) c.args.self.now
    c.step_gathered.new.self n n (output c.args.room.now c.args.room.now c.args.piece.now)
    c.step_gathered.result (c.step_gathered.ensures n)

pub returns-in-None-callee_at-clause-stepped : goal.returns-in-None-callee_at-clause-stepped
returns-in-None-callee_at-clause-stepped g c =
    let n = c.args.steps.now in
    quiet_step c.args.scene.now.program.now (view_value c.args.scene.now.input.now) c.args.self.now
    c.leave-in-None-callee_at.new.self n n (output c.args.room.now c.args.room.now c.args.piece.now)
    (Ok c.leave-in-None-callee_at.result) (c.leave-in-None-callee_at.ensures n)

pub returns-in-Show-clause-stepped : goal.returns-in-Show-clause-stepped
returns-in-Show-clause-stepped g c = c.step_show.ensures.stepped _
