use Rattle.std.proofs.Common.{length}
use Rattle.esc_table.proofs.PassedSoFar.{PassedSoFar}
use Rattle.esc_table.proofs.table.Table.plain_prefix.Given as goal

abbrev pub invariant-loop-rest : goal.invariant-loop-rest
invariant-loop-rest g l = PassedSoFar l.self l.text l.rest

abbrev pub decreases-loop-rest : goal.decreases-loop-rest
decreases-loop-rest g l = length l.rest
