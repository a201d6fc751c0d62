use Rattle.render_core.specs.Linked.{LeadsTo}
use Rattle.render_core.proofs.variable_stack.VariableStack.levels.Given as goal

abbrev pub invariant-loop-other : goal.invariant-loop-other
invariant-loop-other l = LeadsTo l.self l.key l.to.items l.last l.below

abbrev pub decreases-loop-other : goal.decreases-loop-other
decreases-loop-other l = l.last
