use Rattle.std.proofs.Common.{ℕ, List, ◌-◌, length}
use Rattle.render_core.specs.Linked.{LeadsTo, Passes}
use Rattle.render_core.specs.declared.held.Bound.{Bound}
use Rattle.render_core.proofs.variable_stack.copy_levels.Given as goal

abbrev pub invariant-loop-to : goal.invariant-loop-to
invariant-loop-to l =
    (bound : List Bound) (below : ℕ) → Passes bound l.number l.other
    → LeadsTo bound l.key l.initial.to.items l.number below → LeadsTo bound l.key l.to.items l.number below

abbrev pub decreases-loop-to : goal.decreases-loop-to
decreases-loop-to l = l.count - length l.to.items
