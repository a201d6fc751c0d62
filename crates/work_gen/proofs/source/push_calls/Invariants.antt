use Rattle.soy_base.specs.Appends.{Appends}
use Rattle.work_gen.specs.Source.{call_line, each_below}
use Rattle.work_gen.proofs.source.push_calls.Given as goal

abbrev pub invariant-loop-k : goal.invariant-loop-k
invariant-loop-k l = Appends l.initial.out l.out (each_below l.k call_line)
