-- The bytes before `taken` were taken, and the count of faults did not fall.
use Rattle.std.proofs.Common.{◌≡◌, ◌≤◌, ◌-◌, length, take}
use Rattle.soy_io.specs.Added.{added}
use Rattle.soy_io.proofs.sink.put_all.Given as goal

abbrev pub invariant-loop-taken : goal.invariant-loop-taken
invariant-loop-taken g l = record {
  within : l.taken ≤ length l.bytes;
  prefix : g.K.Sink.taken l.sink ≡ added (g.K.Sink.taken l.initial.sink) (take l.taken l.bytes);
  later : g.K.Sink.faults l.initial.sink ≤ g.K.Sink.faults l.sink;
}

abbrev pub decreases-loop-taken : goal.decreases-loop-taken
decreases-loop-taken g l = length l.bytes - l.taken
