use Rattle.std.proofs.Common.{length, ◌-◌}
use Rattle.value_cursor.proofs.LenSoFar.{LenSoFar}
use Rattle.value_cursor.proofs.plan.Plan.len_by_runs.Given as goal

abbrev pub invariant-loop-offset : goal.invariant-loop-offset
invariant-loop-offset l = LenSoFar l.self l.source l.len l.offset

abbrev pub decreases-loop-offset : goal.decreases-loop-offset
decreases-loop-offset l = length l.source - l.offset
