-- What pieces say that are a command, a block, or a command before a body and more.
use Rattle.std.proofs.Common.{◌≡◌, ℕ, ◌+◌, ◌≤◌, List, [], ◌∷◌, ◌++◌}
use Rattle.soy_parser.specs.declared.command.Command.{Command}
use Rattle.soy_parser.specs.declared.command.CommandForm.{CommandForm}
use Rattle.soy_parser.specs.Depth.{inside_blocks}
use Rattle.formatted_source.specs.CommandPieces.{braced}
use Rattle.formatted_source.specs.Lexemes.{Lexeme}
use Rattle.formatted_source.specs.Pieces.{Piece, Written}
use Rattle.formatted_source.proofs.Commands.BareCommands.{Says, bare_command}
use Rattle.formatted_source.proofs.LineLexemes.{block_pieces, one_piece}
use Rattle.formatted_source.proofs.NodeLexemes.{all_lexemes}
use Rattle.formatted_source.proofs.Speaking.{IsCommandOf, Speaks, block, one_command, same_part}

-- a command of one lexeme
pub bare : (b : ℕ) (l : Lexeme) (of : CommandForm) → b ≤ 64 → Says l of
    → IsCommandOf b (braced (l ∷ [])) (λ f. f ≡ of)
bare b l of le is ts same = bare_command b ts l of le is same

pub piece_command : (b : ℕ) (text : List ℕ) (ls : List Lexeme) (F : CommandForm → Type 0)
    (R : List Command → List ℕ → Type 0) → IsCommandOf b ls F → ((c : Command) → F c.form → R (c ∷ []) (0 ∷ []))
    → Speaks b (all_lexemes [] (Written text ls ∷ [])) R
piece_command b text ls F R command then_ =
    same_part b ls (all_lexemes [] (Written text ls ∷ [])) R (one_piece text ls) (one_command b ls F R command then_)

pub piece_block : (b : ℕ) (text : List ℕ) (ls : List Lexeme) (ps : List Piece) (close : List ℕ) (ms : List Lexeme)
    (F : CommandForm → Type 0) (P : List Command → List ℕ → Type 0) (G : CommandForm → Type 0)
    (R : List Command → List ℕ → Type 0) → IsCommandOf b ls F → Speaks (b + 1) (all_lexemes [] ps) P
    → IsCommandOf (b + 1) ms G
    → ((c z : Command) (cs : List Command) (ks : List ℕ) → F c.form → P cs ks → G z.form
    → R (c ∷ (cs ++ (z ∷ []))) (0 ∷ inside_blocks 1 (ks ++ (0 ∷ []))))
    → Speaks b (all_lexemes [] (Written text ls ∷ (ps ++ (Written close ms ∷ [])))) R
piece_block b text ls ps close ms F P G R opening inner closing then_ =
    same_part b (ls ++ (all_lexemes [] ps ++ ms)) (all_lexemes [] (Written text ls ∷ (ps ++ (Written close ms ∷ [])))) R
    (block_pieces text ls ps close ms) (block b ls (all_lexemes [] ps) ms F P G R opening inner closing then_)
