-- What the reading of one segment answers: the segment with the rest of the text, or how many bytes further on no token
-- begins.
use Rattle.std.specs.Prelude.{◌≡◌, ℕ, Result, Ok, Err}
use Rattle.std.specs.Str.{chars}
use Rattle.soy_base.specs.declared.memory.Refusal.{Refusal}
use Rattle.soy_base.specs.declared.memory.Refusal.TheVariants.{Because, OutOfMemory}
use Rattle.soy_lexer.specs.Segment.{Segment}
use Rattle.soy_lexer.specs.Found.{Found}
use Rattle.soy_lexer.specs.Segment.Segment.{TextCharacter, Skipped, Literal, CommandToken}
use Rattle.soy_lexer.specs.Found.Found.{Begins, Fails}
use Rattle.soy_lexer.specs.declared.source_segment.SourceSegment.{SourceSegment}
use Rattle.soy_lexer.specs.declared.source_segment.SourceSegment.TheVariants as segment
use Rattle.soy_lexer.specs.declared.source_segment.FirstSegment.{FirstSegment}

abbrev pub view_segment : SourceSegment → Segment
view_segment (segment.TextCharacter c) = TextCharacter c
view_segment (segment.Skipped text) = Skipped (chars text.now)
view_segment (segment.Literal text) = Literal (chars text.now)
view_segment (segment.CommandToken kind text value) = CommandToken kind (chars text.now) value

abbrev pub ReadsSegment : Found → Result FirstSegment (Refusal ℕ) → Type 0
ReadsSegment found (Ok read) = found ≡ Begins (view_segment read.segment) (chars read.rest.now)
ReadsSegment found (Err (Because further)) = found ≡ Fails further
ReadsSegment found (Err OutOfMemory) = Unit {0}
