use Rattle.std.proofs.Common.{length, ◌-◌}
use Rattle.value_cursor.proofs.RunSoFar.{RunSoFar}
use Rattle.value_cursor.proofs.progress.Progress.run.Given as goal

abbrev pub invariant-loop-filled : goal.invariant-loop-filled
invariant-loop-filled l = RunSoFar l.plan l.source l.fn.self l.self l.fn.room l.room l.filled

abbrev pub decreases-loop-filled : goal.decreases-loop-filled
decreases-loop-filled l = length l.source - l.self.offset
