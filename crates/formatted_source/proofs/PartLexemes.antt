-- The lexemes of pieces before a command, and of those up to one: those of the parts.
use Rattle.std.proofs.Common.{◌≡◌, ℕ, List, [], ◌∷◌, ◌++◌, sym, ap, ◌∙◌, append_assoc, append-nil}
use Rattle.formatted_source.specs.Lexemes.{Lexeme}
use Rattle.formatted_source.specs.Pieces.{Piece, Plain, Written, closed_lexemes, open_line, text_lexemes}
use Rattle.formatted_source.proofs.EdgedNodes.{Closed, Opened}
use Rattle.formatted_source.proofs.NodeLexemes.{all_lexemes, from_command, to_command}

written_first : (line text : List ℕ) (ls : List Lexeme) (ps : List Piece)
    → all_lexemes line (Written text ls ∷ ps) ≡ text_lexemes line ++ (ls ++ all_lexemes [] ps)
written_first line text ls ps =
    append_assoc (text_lexemes line) (ls ++ closed_lexemes [] ps) (text_lexemes (open_line [] ps))
    ∙ ap (λ l. text_lexemes line ++ l) (append_assoc ls (closed_lexemes [] ps) (text_lexemes (open_line [] ps)))

-- **Pieces before others that begin with a command.**
pub before_command : (line : List ℕ) (ps qs : List Piece) → Opened qs
    → all_lexemes line (ps ++ qs) ≡ all_lexemes line ps ++ all_lexemes [] qs
before_command line ps _ (Opened.opened_ text ls qs) =
    to_command line ps qs text ls ∙ ap (λ l. all_lexemes line ps ++ l) (sym (from_command qs text ls))

-- **Pieces that end with a command, before others.**
pub after_command : (line : List ℕ) (ps qs : List Piece) → Closed ps
    → all_lexemes line (ps ++ qs) ≡ all_lexemes line ps ++ all_lexemes [] qs
after_command line _ qs (Closed.last_ text ls) =
    written_first line text ls qs
    ∙ sym (ap (λ l. l ++ all_lexemes [] qs) (written_first line text ls [])
    ∙ (append_assoc (text_lexemes line) (ls ++ []) (all_lexemes [] qs)
    ∙ ap (λ l. text_lexemes line ++ (l ++ all_lexemes [] qs)) (append-nil ls)))
after_command line _ qs (Closed.more_ (Plain c) ps d) = after_command (line ++ (c ∷ [])) ps qs d
after_command line _ qs (Closed.more_ (Written text ls) ps d) =
    written_first line text ls (ps ++ qs)
    ∙ (ap (λ l. text_lexemes line ++ (ls ++ l)) (after_command [] ps qs d)
    ∙ (ap (λ l. text_lexemes line ++ l) (sym (append_assoc ls (all_lexemes [] ps) (all_lexemes [] qs)))
    ∙ (sym (append_assoc (text_lexemes line) (ls ++ all_lexemes [] ps) (all_lexemes [] qs))
    ∙ ap (λ l. l ++ all_lexemes [] qs) (sym (written_first line text ls ps)))))
