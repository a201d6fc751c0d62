use Rattle.std.specs.Prelude.{◌≡◌, None}
use Rattle.soy_tree.specs.ViewValues.{view_value}
use Rattle.render_core.specs.Stepping.{Went}
use Rattle.render_core.proofs.Wents.{measure}
use Rattle.render_core.proofs.stack.Machine.advance_by_steps.Given as goal

abbrev pub invariant-loop-n : goal.invariant-loop-n
invariant-loop-n g l = record {
  went : Went l.scene.program.now (view_value l.scene.input.now) l.initial.self l.self l.initial.steps l.steps;
  room : l.room ≡ l.initial.room;
  none : l.piece ≡ None;
}

abbrev pub decreases-loop-n : goal.decreases-loop-n
decreases-loop-n g l = measure l.scene.program.now (view_value l.scene.input.now) l.self
