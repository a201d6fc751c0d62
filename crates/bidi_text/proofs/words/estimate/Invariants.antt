use Rattle.std.proofs.Common.{length}
use Rattle.std.specs.Str.{IsUtf8, chars}
use Rattle.bidi_text.proofs.Counted.{Counted}
use Rattle.bidi_text.proofs.words.estimate.Given as goal

abbrev pub invariant-loop-rest : goal.invariant-loop-rest
invariant-loop-rest l = record {
  utf8 : IsUtf8 l.rest;
  counted : Counted l.tally.right_to_left l.tally.total l.tally.weak (chars l.rest) (chars l.text) (length l.text);
}

abbrev pub decreases-loop-rest : goal.decreases-loop-rest
decreases-loop-rest l = length (chars l.rest)
