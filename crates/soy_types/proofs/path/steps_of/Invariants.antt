use Rattle.std.proofs.Common.{◌≡◌, ◌++◌, length}
use Rattle.soy_types.proofs.path.steps_of.Given as goal

abbrev pub invariant-loop-step : goal.invariant-loop-step
invariant-loop-step l = l.steps ++ l.left ≡ l.initial.left

abbrev pub decreases-loop-step : goal.decreases-loop-step
decreases-loop-step l = length l.left
