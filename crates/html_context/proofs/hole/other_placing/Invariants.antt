use Rattle.std.proofs.Common.{◌≡◌, drop}
use Rattle.soy_meaning.specs.Walks.PageMachine.{page_machine}
use Rattle.soy_meaning.specs.Walks.Walk.{other_placing}
use Rattle.html_context.proofs.hole.other_placing.Given as goal

abbrev pub invariant-loop-state : goal.invariant-loop-state
invariant-loop-state l =
    other_placing page_machine l.placing (drop l.state-index l.states) ≡ other_placing page_machine l.placing l.states
