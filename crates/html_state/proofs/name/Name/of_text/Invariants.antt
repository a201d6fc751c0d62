use Rattle.std.proofs.Common.{◌≡◌, take}
use Rattle.html_state.proofs.name.Name.of_text.Given as goal

abbrev pub invariant-loop-c : goal.invariant-loop-c
invariant-loop-c l = l.name ≡ take l.c-index l.text
