use Rattle.std.proofs.Common.{◌≡◌, [], drop}
use Rattle.html_state.specs.Next.{text_end}
use Rattle.soy_meaning.specs.Walks.PageMachine.{page_machine}
use Rattle.soy_meaning.specs.Walks.Walk.{moved_states}
use Rattle.html_context.proofs.text.ended.Given as goal

abbrev pub invariant-loop-state : goal.invariant-loop-state
invariant-loop-state l =
    moved_states page_machine text_end l.after.items (drop l.state-index l.states)
    ≡ moved_states page_machine text_end [] l.states
