use Rattle.std.proofs.Common.{◌≡◌, ◌++◌, drop}
use Rattle.bidi_preview.proofs.reading.push_ascii.Given as goal

abbrev pub invariant-loop-byte : goal.invariant-loop-byte
invariant-loop-byte l = l.out.items ++ drop l.byte-index l.text ≡ l.initial.out.items ++ l.text
