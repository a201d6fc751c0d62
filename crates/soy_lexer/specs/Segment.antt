-- The segments of which a text is a sequence, and the characters in which they stand.
--
-- The text `a{b /}` has the segments `a`, a character of a run, `{`, `b`, a space that is skipped, and `/}`.
use Rattle.std.specs.Prelude.{ℕ, List, [], ◌∷◌, ◌++◌, codes}
use Rattle.soy_lexer.specs.declared.token.TokenKind.{TokenKind}

pub data Segment : Type 0 where
  TextCharacter : ℕ → Segment  -- a character of a text run
  Skipped : List ℕ → Segment  -- a comment, or white space in a command
  Literal : List ℕ → Segment  -- the characters between `{literal}` and `{/literal}`
  CommandToken : TokenKind → List ℕ → List ℕ → Segment  -- a token of a command: its kind, its source text, and its text

-- the characters in which a segment stands
abbrev pub source_text : Segment → List ℕ
source_text (TextCharacter c) = c ∷ []
source_text (Skipped text) = text
source_text (Literal text) = codes "{literal}" ++ (text ++ codes "{/literal}")
source_text (CommandToken kind text value) = text
