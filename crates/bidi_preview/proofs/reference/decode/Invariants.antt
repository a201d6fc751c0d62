use Rattle.std.proofs.Common.{◌≡◌, ◌++◌, drop}
use Rattle.bidi_order.specs.DecodedReferences.{decoded, decoded_from}
use Rattle.bidi_preview.specs.ReadingSteps.{pending_of}
use Rattle.bidi_preview.proofs.reference.decode.Given as goal

abbrev pub invariant-loop-c : goal.invariant-loop-c
invariant-loop-c l = l.out.items
    ++ decoded_from (pending_of l.pending.begun l.pending.letters.items) (drop l.c-index l.text) ≡ decoded l.text
