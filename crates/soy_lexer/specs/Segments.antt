-- A whole text as a sequence of segments, one directly after the other, up to its end or up to the first offset where
-- no token begins.
--
-- `a{b}` has four segments up to its end; `a}b` has one, and no token begins at its offset 1.
use Rattle.std.specs.Prelude.{◌≡◌, ℕ, ◌+◌, List, [], ◌∷◌, Option, None, Some}
use Rattle.soy_base.specs.ByteLength.{byte_len}
use Rattle.soy_lexer.specs.Segment.{Segment, source_text}
use Rattle.soy_lexer.specs.ModeAfter.{mode_after}
use Rattle.soy_lexer.specs.declared.mode.Mode.{Mode}
use Rattle.soy_lexer.specs.Found.Found.{Begins, Fails}
use Rattle.soy_lexer.specs.TextSegment.{segment_of}

-- the text that stands at this offset of a file and in this mode has these segments, up to its end or up to an offset
-- of the file where no token begins
pub data Segments : ℕ → Mode → List ℕ → List Segment → Option ℕ → Type 0 where
  Ended : (offset : ℕ) (mode : Mode) → Segments offset mode [] [] None
  Stopped : (offset : ℕ) (mode : Mode) (c : ℕ) (cs : List ℕ) (further : ℕ) →
      segment_of mode (c ∷ cs) ≡ Fails further →
      Segments offset mode (c ∷ cs) [] (Some (offset + further))
  Goes : (offset : ℕ) (mode : Mode) (c : ℕ) (cs : List ℕ) (segment : Segment) (rest : List ℕ) (segments : List Segment)
      (stop : Option ℕ) →
      segment_of mode (c ∷ cs) ≡ Begins segment rest →
      Segments (offset + byte_len (source_text segment)) (mode_after mode segment) rest segments stop →
      Segments offset mode (c ∷ cs) (segment ∷ segments) stop
