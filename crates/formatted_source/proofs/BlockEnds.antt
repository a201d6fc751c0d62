-- What the end of an if or a switch says, as it is written: its close, and before that an else or a default with a body.
use Rattle.std.proofs.Common.{◌≡◌, ℕ, List, [], ◌∷◌, ◌++◌}
use Rattle.soy_tree.specs.Nodes.{Nodes, Otherwise, no_otherwise, otherwise}
use Rattle.soy_parser.specs.declared.command.Command.{Command}
use Rattle.soy_parser.specs.declared.command.CommandForm.{CommandForm}
use Rattle.formatted_source.specs.Lexemes.{Lexeme}
use Rattle.formatted_source.specs.NodePieces.{nodes_pieces, otherwise_pieces}
use Rattle.formatted_source.specs.Pieces.{Written}
use Rattle.formatted_source.proofs.EdgedNodes.{Opened}
use Rattle.formatted_source.proofs.LineLexemes.{block_pieces}
use Rattle.formatted_source.proofs.NodeAlike.{BodyIs}
use Rattle.formatted_source.proofs.NodeLexemes.{all_lexemes}
use Rattle.formatted_source.proofs.PieceParts.{piece_command}
use Rattle.formatted_source.proofs.Speaking.{Ended, IsCommandOf, Speaks, command_then, ended_part, same_part}

pub data EndIs (between last : CommandForm) : Otherwise → List Command → List ℕ → Type 0 where
  ends_ : (z : Command) → z.form ≡ last → EndIs between last no_otherwise (z ∷ []) (0 ∷ [])
  goes_on_ : (d z : Command) (ns : Nodes) (cs : List Command) (ks : List ℕ) → d.form ≡ between → BodyIs ns cs ks
      → z.form ≡ last → EndIs between last (otherwise ns) (d ∷ (cs ++ (z ∷ []))) (0 ∷ (ks ++ (0 ∷ [])))

-- what a body says, if there is one
abbrev pub OtherwiseSpeaks : ℕ → Otherwise → Type 0
OtherwiseSpeaks b no_otherwise = Unit {0}
OtherwiseSpeaks b (otherwise ns) = Speaks b (all_lexemes [] (nodes_pieces ns)) (BodyIs ns)

pub end_opened : (text : List ℕ) (ls : List Lexeme) (close : List ℕ) (ms : List Lexeme) (other : Otherwise)
    → Opened (otherwise_pieces (Written text ls) other ++ (Written close ms ∷ []))
end_opened text ls close ms no_otherwise = Opened.opened_ close ms []
end_opened text ls close ms (otherwise ns) = Opened.opened_ text ls (nodes_pieces ns ++ (Written close ms ∷ []))

pub end_speaks : (b : ℕ) (between last : CommandForm) (text : List ℕ) (ls : List Lexeme) (close : List ℕ)
    (ms : List Lexeme) → IsCommandOf b ls (λ f. f ≡ between) → IsCommandOf b ms (λ f. f ≡ last) → (other : Otherwise)
    → OtherwiseSpeaks b other
    → Speaks b (all_lexemes [] (otherwise_pieces (Written text ls) other ++ (Written close ms ∷ [])))
    (EndIs between last other)
end_speaks b between last text ls close ms one two no_otherwise inner =
    piece_command b close ms (λ f. f ≡ last) (EndIs between last no_otherwise) two (λ z h. EndIs.ends_ z h)
end_speaks b between last text ls close ms one two (otherwise ns) inner =
    same_part b (ls ++ (all_lexemes [] (nodes_pieces ns) ++ ms))
    (all_lexemes [] (Written text ls ∷ (nodes_pieces ns ++ (Written close ms ∷ []))))
    (EndIs between last (otherwise ns)) (block_pieces text ls (nodes_pieces ns) close ms)
    (command_then b ls (all_lexemes [] (nodes_pieces ns) ++ ms) (λ f. f ≡ between) (Ended (BodyIs ns) (λ f. f ≡ last))
    (EndIs between last (otherwise ns)) one
    (ended_part b (all_lexemes [] (nodes_pieces ns)) ms (BodyIs ns) (λ f. f ≡ last) inner two) over)
  where
    over : (d : Command) (ds : List Command) (ks : List ℕ) → d.form ≡ between
        → Ended (BodyIs ns) (λ f. f ≡ last) ds ks → EndIs between last (otherwise ns) (d ∷ ds) (0 ∷ ks)
    over d _ _ h (Ended.ended_ cs z ks p g) = EndIs.goes_on_ d z ns cs ks h p g
