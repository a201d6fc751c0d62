-- Pieces of a line of a body: characters that stand for themselves, and commands as they are written.
-- The lexemes of pieces are those of the commands among them, with each text between two of them as one.
-- Example: the pieces of `a{sp}b` are `a`, the command `{sp}` and `b`; the text `b` is still open at their end.
use Rattle.std.specs.Prelude.{ℕ, List, [], ◌∷◌, ◌++◌}
use Rattle.soy_lexer.specs.declared.token.TokenKind.TheVariants as kind
use Rattle.formatted_source.specs.Lexemes.{Lexeme}

pub data Piece : Type 0 where
  Plain : ℕ → Piece
  Written : List ℕ → List Lexeme → Piece  -- the text of a command, and its lexemes

abbrev pub piece_text : Piece → List ℕ
piece_text (Plain c) = c ∷ []
piece_text (Written text ls) = text

abbrev pub pieces_text : List Piece → List ℕ
pieces_text [] = []
pieces_text (p ∷ ps) = piece_text p ++ pieces_text ps

-- the lexeme of a text, which is left out where it has no characters
abbrev pub text_lexemes : List ℕ → List Lexeme
text_lexemes [] = []
text_lexemes (c ∷ cs) = (kind.Text, c ∷ cs) ∷ []

-- the lexemes up to the last command among pieces that follow a text
abbrev pub closed_lexemes : List ℕ → List Piece → List Lexeme
closed_lexemes line [] = []
closed_lexemes line (Plain c ∷ ps) = closed_lexemes (line ++ (c ∷ [])) ps
closed_lexemes line (Written text ls ∷ ps) = text_lexemes line ++ (ls ++ closed_lexemes [] ps)

-- and the text after it
abbrev pub open_line : List ℕ → List Piece → List ℕ
open_line line [] = line
open_line line (Plain c ∷ ps) = open_line (line ++ (c ∷ [])) ps
open_line line (Written text ls ∷ ps) = open_line [] ps
