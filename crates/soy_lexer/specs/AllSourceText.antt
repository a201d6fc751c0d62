-- The characters in which segments stand, one segment after the other.
--
-- The segments of `a{b}` stand in `a`, `{`, `b` and `}`.
use Rattle.std.specs.Prelude.{ℕ, List, [], ◌∷◌, ◌++◌}
use Rattle.soy_lexer.specs.Segment.{Segment, source_text}

abbrev pub all_source_text : List Segment → List ℕ
all_source_text [] = []
all_source_text (segment ∷ segments) = source_text segment ++ all_source_text segments
