-- The lexemes of pieces that are a command, a block, or a command before a body and more.
use Rattle.std.proofs.Common.{◌≡◌, ℕ, List, [], ◌∷◌, ◌++◌, sym, ap, ◌∙◌, append_assoc, append-nil}
use Rattle.formatted_source.specs.Lexemes.{Lexeme}
use Rattle.formatted_source.specs.Pieces.{Piece, Written}
use Rattle.formatted_source.proofs.EdgedNodes.{Opened}
use Rattle.formatted_source.proofs.NodeLexemes.{all_lexemes, from_command, to_command}
use Rattle.formatted_source.proofs.PartLexemes.{before_command}

-- pieces that begin with a command, if there are any
pub data MayOpen : List Piece → Type 0 where
  empty_ : MayOpen []
  open_ : (ps : List Piece) → Opened ps → MayOpen ps

pub opened_on : (ps qs : List Piece) → Opened ps → Opened (ps ++ qs)
opened_on _ qs (Opened.opened_ text ls ps) = Opened.opened_ text ls (ps ++ qs)

pub before_open : (line : List ℕ) (ps qs : List Piece) → MayOpen qs
    → all_lexemes line (ps ++ qs) ≡ all_lexemes line ps ++ all_lexemes [] qs
before_open line ps _ MayOpen.empty_ =
    ap (λ l. all_lexemes line l) (append-nil ps) ∙ sym (append-nil (all_lexemes line ps))
before_open line ps _ (MayOpen.open_ qs o) = before_command line ps qs o

pub one_piece : (text : List ℕ) (ls : List Lexeme) → all_lexemes [] (Written text ls ∷ []) ≡ ls
one_piece text ls = from_command [] text ls ∙ append-nil ls

-- pieces and the command after them
pub ended_pieces : (ps : List Piece) (text : List ℕ) (ls : List Lexeme)
    → all_lexemes [] (ps ++ (Written text ls ∷ [])) ≡ all_lexemes [] ps ++ ls
ended_pieces ps text ls = to_command [] ps [] text ls ∙ ap (λ l. all_lexemes [] ps ++ l) (append-nil ls)

pub block_pieces : (text : List ℕ) (ls : List Lexeme) (ps : List Piece) (close : List ℕ) (ms : List Lexeme)
    → all_lexemes [] (Written text ls ∷ (ps ++ (Written close ms ∷ []))) ≡ ls ++ (all_lexemes [] ps ++ ms)
block_pieces text ls ps close ms =
    from_command (ps ++ (Written close ms ∷ [])) text ls ∙ ap (λ l. ls ++ l) (ended_pieces ps close ms)

-- a command, a body, and more
pub row_pieces : (text : List ℕ) (ls : List Lexeme) (ps qs : List Piece) → MayOpen qs
    → all_lexemes [] (Written text ls ∷ (ps ++ qs)) ≡ (ls ++ all_lexemes [] ps) ++ all_lexemes [] qs
row_pieces text ls ps qs o =
    from_command (ps ++ qs) text ls ∙ (ap (λ l. ls ++ l) (before_open [] ps qs o)
    ∙ sym (append_assoc ls (all_lexemes [] ps) (all_lexemes [] qs)))
