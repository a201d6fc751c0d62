use Rattle.std.proofs.Common.{◌≡◌, length}
use Rattle.std.specs.Str.{chars, IsUtf8}
use Rattle.icu_text.specs.PatternReading.{pattern_start, reading}
use Rattle.icu_text.specs.Pieces.{text_state}
use Rattle.icu_text.proofs.parse.read.Given as goal

abbrev pub invariant-loop-rest : goal.invariant-loop-rest
invariant-loop-rest l = record {
  utf8 : IsUtf8 l.rest;
  same : reading (chars l.rest) (text_state l.reader) ≡ reading (chars l.text) pattern_start;
}

abbrev pub decreases-loop-rest : goal.decreases-loop-rest
decreases-loop-rest l = length (chars l.rest)
