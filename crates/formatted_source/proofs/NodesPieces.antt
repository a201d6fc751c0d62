-- Which pieces nodes have on a line: those of their commands, and for each text any pieces that are its characters. So
-- they have them with `{sp}` for a space at an end of the line, too.
use Rattle.std.proofs.Common.{◌≡◌, ℕ, ◌==◌, Bool, true, false, if◌then◌else◌, List, [], ◌∷◌, ◌++◌, refl}
use Rattle.std.proofs.Common.{subst}
use Rattle.std.proofs.Common.{arith}
use Rattle.std.specs.Prelude.{codes}
use Rattle.std.proofs.lemmas.Bool.Decides.{nat_tests}
use Rattle.soy_base.specs.declared.fault.Span.{Span}
use Rattle.soy_lexer.specs.declared.token.TokenKind.TheVariants as kind
use Rattle.soy_tree.specs.Formed.{is_text}
use Rattle.soy_tree.specs.Nodes.{Node, Nodes, TextNode, no_node, node}
use Rattle.formatted_source.specs.EdgedPieces.{after_first_piece, edge_piece, space_piece}
use Rattle.formatted_source.specs.NodePieces.{node_pieces}
use Rattle.formatted_source.specs.Pieces.{Piece, Plain}
use Rattle.formatted_source.proofs.Commands.BareCommands.{sp_says}
use Rattle.formatted_source.proofs.TextsSpelled.{TextPieces}

-- a text has a piece at least
pub record HasPiece (ps : List Piece) : Type 0 where
  pub first : Piece
  pub more : List Piece
  pub are : ps ≡ first ∷ more

pub data NodesPieces : Nodes → List Piece → Type 0 where
  none_ : NodesPieces no_node []
  text_ : (text : List ℕ) (span : Span) (ps qs : List Piece) (ns : Nodes) → TextPieces text ps → HasPiece ps
      → NodesPieces ns qs → NodesPieces (node (TextNode text span) ns) (ps ++ qs)
  other_ : (n : Node) (qs : List Piece) (ns : Nodes) → is_text n ≡ false → NodesPieces ns qs
      → NodesPieces (node n ns) (node_pieces n ++ qs)

-- a space at an edge is written as a command
edge_is : (c : ℕ) (text : List ℕ) (ps : List Piece) → TextPieces text ps
    → TextPieces (c ∷ text) (edge_piece (Plain c) ∷ ps)
edge_is c text ps d = over (c == 32) refl
  where
    over : (t : Bool) → (c == 32) ≡ t → TextPieces (c ∷ text) ((if t then space_piece else Plain c) ∷ ps)
    over true e =
        let is : 32 ≡ c = grind (arith, nat_tests, e) in
        subst (λ x. TextPieces (x ∷ text) (space_piece ∷ ps)) is
        (TextPieces.command_ (codes "{sp}") (kind.Word, codes "sp") (32 ∷ []) text ps sp_says d)
    over false e = TextPieces.plain_ c text ps d

-- the first piece of a text
pub first_edge : (text : List ℕ) (p : Piece) (ps : List Piece) → TextPieces text (p ∷ ps)
    → TextPieces text (edge_piece p ∷ ps)
first_edge _ _ _ (TextPieces.plain_ c text ps d) = edge_is c text ps d
first_edge _ _ _ (TextPieces.command_ written l value text ps s d) = TextPieces.command_ written l value text ps s d

-- and the last one
pub last_edge : (text : List ℕ) (ps : List Piece) → TextPieces text ps → TextPieces text (after_first_piece ps)
last_edge _ _ TextPieces.none_ = TextPieces.none_
last_edge _ _ (TextPieces.plain_ c text [] d) = edge_is c text [] d
last_edge _ _ (TextPieces.plain_ c text (p ∷ ps) d) =
    TextPieces.plain_ c text (after_first_piece (p ∷ ps)) (last_edge text (p ∷ ps) d)
last_edge _ _ (TextPieces.command_ written l value text [] s d) = TextPieces.command_ written l value text [] s d
last_edge _ _ (TextPieces.command_ written l value text (p ∷ ps) s d) =
    TextPieces.command_ written l value text (after_first_piece (p ∷ ps)) s (last_edge text (p ∷ ps) d)
