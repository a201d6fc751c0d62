use Rattle.std.specs.Str.{chars}
use Rattle.std.specs.Str.Iter.{char_indices_offset, char_indices_rest}
use Rattle.std.specs.String.{string_bytes}
use Rattle.bidi_text.proofs.CleanedSoFar.{CleanedSoFar}
use Rattle.bidi_text.proofs.cleaning.clean.Given as goal

abbrev pub invariant-loop-offset : goal.invariant-loop-offset
invariant-loop-offset l =
    CleanedSoFar l.offsets (chars (string_bytes l.cleaned)) (char_indices_offset l.offset-iterator)
    (char_indices_rest l.offset-iterator) l.text
