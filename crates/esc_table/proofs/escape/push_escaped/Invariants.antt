use Rattle.std.proofs.Common.{length}
use Rattle.std.specs.Str.{chars}
use Rattle.std.specs.String.{string_bytes}
use Rattle.esc_table.proofs.PushedSoFar.{PushedSoFar}
use Rattle.esc_table.proofs.escape.push_escaped.Given as goal

abbrev pub invariant-loop-rest : goal.invariant-loop-rest
invariant-loop-rest g l = PushedSoFar l.table (chars (string_bytes l.initial.out)) (chars (string_bytes l.out)) l.rest
    l.text

abbrev pub decreases-loop-rest : goal.decreases-loop-rest
decreases-loop-rest g l = length l.rest
