use Rattle.std.proofs.Common.{◌≡◌, [], drop}
use Rattle.html_state.specs.Next.{next}
use Rattle.soy_meaning.specs.Walks.PageMachine.{page_machine}
use Rattle.soy_meaning.specs.Walks.Walk.{moved_states}
use Rattle.html_context.proofs.text.stepped.Given as goal

abbrev pub invariant-loop-state : goal.invariant-loop-state
invariant-loop-state l =
    moved_states page_machine (λ s. next s l.c) l.after.items (drop l.state-index l.states)
    ≡ moved_states page_machine (λ s. next s l.c) [] l.states
