use Rattle.std.proofs.Common.{◌≡◌, drop}
use Rattle.soy_meaning.specs.Walks.PageMachine.{page_machine}
use Rattle.soy_meaning.specs.Walks.States.{joined_states}
use Rattle.html_context.proofs.states.join.Given as goal

abbrev pub invariant-loop-state : goal.invariant-loop-state
invariant-loop-state l =
    joined_states page_machine l.states.items (drop l.state-index l.more)
    ≡ joined_states page_machine l.initial.states.items l.more
