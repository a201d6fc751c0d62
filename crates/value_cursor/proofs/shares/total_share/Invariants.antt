use Rattle.std.proofs.Common.{length}
use Rattle.value_cursor.proofs.Totals.{TotalSoFar}
use Rattle.value_cursor.proofs.shares.total_share.Given as goal

abbrev pub invariant-loop-rest : goal.invariant-loop-rest
invariant-loop-rest l = TotalSoFar l.shares l.bytes l.rest l.total

abbrev pub decreases-loop-rest : goal.decreases-loop-rest
decreases-loop-rest l = length l.rest
