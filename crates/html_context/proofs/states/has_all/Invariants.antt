use Rattle.std.proofs.Common.{drop}
use Rattle.html_context.specs.Covers.{Within}
use Rattle.html_context.proofs.states.has_all.Given as goal

abbrev pub invariant-loop-state : goal.invariant-loop-state
invariant-loop-state l = Within (drop l.state-index l.some) l.states → Within l.some l.states
