-- What the reading of one segment answers where the text may begin with none of its kind.
use Rattle.std.specs.Prelude.{◌≡◌, ℕ, Option, None, Some, Result}
use Rattle.soy_base.specs.declared.memory.Refusal.{Refusal}
use Rattle.soy_lexer.specs.Found.{Found}
use Rattle.soy_lexer.specs.ReadsSegment.{ReadsSegment}
use Rattle.soy_lexer.specs.declared.source_segment.FirstSegment.{FirstSegment}

abbrev pub ReadsSegmentIf : Option Found → Option (Result FirstSegment (Refusal ℕ)) → Type 0
ReadsSegmentIf found None = found ≡ None
ReadsSegmentIf found (Some result) = (segment : Found) × (found ≡ Some segment) × ReadsSegment segment result
