use Rattle.std.proofs.Common.{◌≡◌, ◌++◌, drop}
use Rattle.bidi_preview.proofs.order.push_unchanged.Given as goal

abbrev pub invariant-loop-x : goal.invariant-loop-x
invariant-loop-x l = l.order.items ++ drop l.x-index l.characters ≡ l.initial.order.items ++ l.characters
