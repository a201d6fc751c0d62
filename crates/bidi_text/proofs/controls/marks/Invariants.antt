use Rattle.std.specs.Str.Iter.{char_indices_offset, char_indices_rest}
use Rattle.bidi_text.proofs.Marking.{Marking}
use Rattle.bidi_text.proofs.controls.marks.Given as goal

abbrev pub invariant-loop-offset : goal.invariant-loop-offset
invariant-loop-offset l = Marking l.offsets.items l.closings (char_indices_offset l.offset-iterator)
    (char_indices_rest l.offset-iterator) l.text
