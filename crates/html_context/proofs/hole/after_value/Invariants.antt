use Rattle.std.proofs.Common.{◌≡◌, drop, map}
use Rattle.html_state.specs.AfterValue.{after_value}
use Rattle.soy_meaning.specs.Walks.PageMachine.{page_machine}
use Rattle.soy_meaning.specs.Walks.States.{joined_states}
use Rattle.soy_meaning.specs.Walks.Walk.{states_after_value}
use Rattle.html_context.proofs.hole.after_value.Given as goal

abbrev pub invariant-loop-state : goal.invariant-loop-state
invariant-loop-state l =
    joined_states page_machine l.after.items (map after_value (drop l.state-index l.states))
    ≡ states_after_value page_machine l.states
