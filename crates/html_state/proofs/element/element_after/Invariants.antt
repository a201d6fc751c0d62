use Rattle.std.proofs.Common.{◌≡◌, drop}
use Rattle.html_state.specs.AfterAll.{after_all}
use Rattle.html_state.specs.ElementNext.{element_next}
use Rattle.html_state.proofs.element.element_after.Given as goal

abbrev pub invariant-loop-c : goal.invariant-loop-c
invariant-loop-c l = after_all element_next l.now (drop l.c-index l.characters)
    ≡ after_all element_next l.element l.characters
