use Rattle.std.proofs.Common.{◌≡◌, length}
use Rattle.bidi_order.specs.DirectionalStatus.{isolate_popped}
use Rattle.bidi_preview.proofs.status.pop_isolate.Given as goal

abbrev pub invariant-loop-entry : goal.invariant-loop-entry
invariant-loop-entry l = isolate_popped l.stack ≡ isolate_popped l.initial.stack

abbrev pub decreases-loop-entry : goal.decreases-loop-entry
decreases-loop-entry l = length l.stack
