-- The lexemes of pieces with the text after their last command, part by part.
use Rattle.std.proofs.Common.{◌≡◌, ℕ, List, [], ◌∷◌, ◌++◌, sym}
use Rattle.std.proofs.Common.{ap}
use Rattle.std.proofs.Common.{◌∙◌, append_assoc}
use Rattle.formatted_source.specs.Lexemes.{Lexeme}
use Rattle.formatted_source.specs.Pieces.{Piece, Plain, Written, closed_lexemes, open_line, text_lexemes}

-- those of pieces after a text, with the text after them
abbrev pub all_lexemes : List ℕ → List Piece → List Lexeme
all_lexemes line ps = closed_lexemes line ps ++ text_lexemes (open_line line ps)

-- up to a command, and from it on
pub to_command : (line : List ℕ) (ps qs : List Piece) (text : List ℕ) (ls : List Lexeme)
    → all_lexemes line (ps ++ (Written text ls ∷ qs)) ≡ all_lexemes line ps ++ (ls ++ all_lexemes [] qs)
to_command line [] qs text ls =
    append_assoc (text_lexemes line) (ls ++ closed_lexemes [] qs) (text_lexemes (open_line [] qs))
    ∙ ap (λ l. text_lexemes line ++ l) (append_assoc ls (closed_lexemes [] qs) (text_lexemes (open_line [] qs)))
to_command line (Plain c ∷ ps) qs text ls = to_command (line ++ (c ∷ [])) ps qs text ls
to_command line (Written written ms ∷ ps) qs text ls =
    append_assoc (text_lexemes line) (ms ++ closed_lexemes [] (ps ++ (Written text ls ∷ qs)))
    (text_lexemes (open_line [] (ps ++ (Written text ls ∷ qs))))
    ∙ (ap (λ l. text_lexemes line ++ l) (append_assoc ms (closed_lexemes [] (ps ++ (Written text ls ∷ qs)))
    (text_lexemes (open_line [] (ps ++ (Written text ls ∷ qs))))
    ∙ (ap (λ l. ms ++ l) (to_command [] ps qs text ls)
    ∙ sym (append_assoc ms (all_lexemes [] ps) (ls ++ all_lexemes [] qs))))
    ∙ (sym (append_assoc (text_lexemes line) (ms ++ all_lexemes [] ps) (ls ++ all_lexemes [] qs))
    ∙ ap (λ l. l ++ (ls ++ all_lexemes [] qs)) (sym (first line ms ps))))
  where
    first : (line : List ℕ) (ms : List Lexeme) (ps : List Piece)
        → all_lexemes line (Written written ms ∷ ps) ≡ text_lexemes line ++ (ms ++ all_lexemes [] ps)
    first line ms ps =
        append_assoc (text_lexemes line) (ms ++ closed_lexemes [] ps) (text_lexemes (open_line [] ps))
        ∙ ap (λ l. text_lexemes line ++ l) (append_assoc ms (closed_lexemes [] ps) (text_lexemes (open_line [] ps)))

-- a command first
pub from_command : (qs : List Piece) (text : List ℕ) (ls : List Lexeme)
    → all_lexemes [] (Written text ls ∷ qs) ≡ ls ++ all_lexemes [] qs
from_command qs text ls = append_assoc ls (closed_lexemes [] qs) (text_lexemes (open_line [] qs))
