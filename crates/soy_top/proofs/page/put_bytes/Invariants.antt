use Rattle.std.proofs.Common.{◌≤◌, length}
use Rattle.soy_top.proofs.Took.{PutSoFar}
use Rattle.soy_top.proofs.page.put_bytes.Given as goal

abbrev pub invariant-loop-rest : goal.invariant-loop-rest
invariant-loop-rest g l = record {
  so_far : PutSoFar (g.K.Sink.taken l.initial.out) (g.K.Sink.taken l.out) l.bytes l.rest;
  later : g.K.Sink.faults l.initial.out ≤ g.K.Sink.faults l.out;
}

abbrev pub decreases-loop-rest : goal.decreases-loop-rest
decreases-loop-rest g l = length l.rest
