-- What a text begins with: a segment, which other text follows; or no token, so many bytes further on.
--
-- The text `a{b` begins with the segment `a`; in a command `#a` begins with no token, 0 bytes further on.
use Rattle.std.specs.Prelude.{ℕ, List, [], ◌∷◌, Option, None, Some}
use Rattle.soy_base.specs.ByteLength.{byte_len}
use Rattle.soy_base.specs.Characters.{null}
use Rattle.soy_base.specs.Cuts.{cut}
use Rattle.soy_lexer.specs.Segment.{Segment, source_text}

pub data Found : Type 0 where
  Begins : Segment → List ℕ → Found
  Fails : ℕ → Found

-- no token begins at a U+0000, in whatever segment it stands
abbrev pub unless_null : Option (List ℕ × List ℕ) → Found → Found
unless_null None found = found
unless_null (Some parts) found = Fails (byte_len parts.0)

abbrev pub begins : Segment → List ℕ → Found
begins segment rest = unless_null (cut (null ∷ []) (source_text segment)) (Begins segment rest)
