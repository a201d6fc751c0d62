use Rattle.std.proofs.Common.{◌≡◌, drop}
use Rattle.soy_meaning.specs.Walks.PageMachine.{page_machine}
use Rattle.soy_meaning.specs.Walks.States.{has_state}
use Rattle.html_context.proofs.states.has_state.Given as goal

abbrev pub invariant-loop-other : goal.invariant-loop-other
invariant-loop-other l = has_state page_machine l.state (drop l.other-index l.states)
    ≡ has_state page_machine l.state l.states
