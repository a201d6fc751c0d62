use Rattle.std.proofs.Common.{◌≡◌, drop}
use Rattle.soy_meaning.specs.Walks.PageMachine.{page_machine}
use Rattle.soy_meaning.specs.Walks.Walk.{all_may_end}
use Rattle.html_context.proofs.states.all_may_end.Given as goal

abbrev pub invariant-loop-state : goal.invariant-loop-state
invariant-loop-state l = all_may_end page_machine l.kind (drop l.state-index l.states)
    ≡ all_may_end page_machine l.kind l.states
