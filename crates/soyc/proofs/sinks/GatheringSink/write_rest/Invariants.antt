use Rattle.std.proofs.Common.{◌≤◌, ◌-◌, length}
use Rattle.soyc.proofs.sinks.GatheringSink.write_rest.Given as goal

abbrev pub invariant-loop-start : goal.invariant-loop-start
invariant-loop-start g l = record {
  within : l.start ≤ length l.self.gathered.items;
  later : l.initial.self.faults ≤ l.self.faults;
}

abbrev pub decreases-loop-start : goal.decreases-loop-start
decreases-loop-start g l = length l.self.gathered.items - l.start
