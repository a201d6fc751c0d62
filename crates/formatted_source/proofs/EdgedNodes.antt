-- Nodes have their own pieces, also with `{sp}` for a space at an end of the line.
use Rattle.std.proofs.Common.{◌≡◌, ℕ, true, false, List, [], ◌∷◌, ◌++◌, refl, sym, ap, subst, ◌∙◌, append-nil}
use Rattle.soy_base.specs.declared.fault.Span.{Span}
use Rattle.soy_tree.specs.Formed.{is_text}
use Rattle.soy_tree.specs.Nodes.{Node, Nodes, TextNode, Print, If, Switch, For, Let}
use Rattle.soy_tree.specs.Nodes.{LetBlock, Call, MessageNode, message, no_node, node, no_otherwise, otherwise}
use Rattle.soy_tree.specs.Nodes.{no_arm, arm, no_argument, argument}
use Rattle.formatted_source.specs.EdgedPieces.{after_first_piece, edge_piece, edged_pieces}
use Rattle.formatted_source.specs.Lexemes.{Lexeme}
use Rattle.formatted_source.specs.NodePieces.{arguments_pieces, arms_pieces, cases_pieces, characters_pieces}
use Rattle.formatted_source.specs.NodePieces.{character_piece, default_piece, else_piece, fallback_pieces}
use Rattle.formatted_source.specs.NodePieces.{message_pieces}
use Rattle.formatted_source.specs.NodePieces.{nil_piece, node_pieces, nodes_pieces, otherwise_pieces, text_pieces}
use Rattle.formatted_source.specs.Pieces.{Piece, Written}
use Rattle.formatted_source.proofs.NodesPieces.{HasPiece, NodesPieces, first_edge, last_edge}
use Rattle.formatted_source.proofs.TextsSpelled.{TextPieces, text_are}

-- pieces that end with a command
pub data Closed : List Piece → Type 0 where
  last_ : (text : List ℕ) (ls : List Lexeme) → Closed (Written text ls ∷ [])
  more_ : (p : Piece) (ps : List Piece) → Closed ps → Closed (p ∷ ps)

closed_after : (ps : List Piece) → Closed ps → after_first_piece ps ≡ ps
closed_after _ (Closed.last_ text ls) = refl
closed_after _ (Closed.more_ p _ (Closed.last_ text ls)) = refl
closed_after _ (Closed.more_ p _ (Closed.more_ q ps c)) =
    ap (λ l. p ∷ l) (closed_after (q ∷ ps) (Closed.more_ q ps c))

closed_on : (ps qs : List Piece) → Closed qs → Closed (ps ++ qs)
closed_on [] qs c = c
closed_on (p ∷ ps) qs c = Closed.more_ p (ps ++ qs) (closed_on ps qs c)

pub node_closed : (n : Node) → is_text n ≡ false → Closed (node_pieces n)
node_closed (TextNode text span) k = absurd (cc)
node_closed (Print e phname span) k = Closed.last_ _ _
node_closed (If arms other span) k =
    closed_on (arms_pieces true arms) _ (closed_on (otherwise_pieces else_piece other) _ (Closed.last_ _ _))
node_closed (Switch e cases other span) k =
    Closed.more_ _ _ (closed_on (cases_pieces cases) _ (closed_on (otherwise_pieces default_piece other) _
    (Closed.last_ _ _)))
node_closed (For name index e body span) k = Closed.more_ _ _ (closed_on (nodes_pieces body) _ (Closed.last_ _ _))
node_closed (Let name e span) k = Closed.last_ _ _
node_closed (LetBlock name kind body span) k = Closed.more_ _ _ (closed_on (nodes_pieces body) _ (Closed.last_ _ _))
node_closed (Call name all no_argument span) k = Closed.last_ _ _
node_closed (Call name all (argument first given at rest) span) k =
    Closed.more_ _ _ (closed_on (arguments_pieces (argument first given at rest)) _ (Closed.last_ _ _))
node_closed (MessageNode m other span) k =
    closed_on (message_pieces _ _ m) _ (closed_on (fallback_pieces other) _ (Closed.last_ _ _))

-- pieces that begin with a command
pub data Opened : List Piece → Type 0 where
  opened_ : (text : List ℕ) (ls : List Lexeme) (ps : List Piece) → Opened (Written text ls ∷ ps)

pub node_opened : (n : Node) → is_text n ≡ false → Opened (node_pieces n)
node_opened (TextNode text span) k = absurd (cc)
node_opened (Print e phname span) k = Opened.opened_ _ _ _
node_opened (If no_arm no_otherwise span) k = Opened.opened_ _ _ _
node_opened (If no_arm (otherwise body) span) k = Opened.opened_ _ _ _
node_opened (If (arm e body arms) other span) k = Opened.opened_ _ _ _
node_opened (Switch e cases other span) k = Opened.opened_ _ _ _
node_opened (For name index e body span) k = Opened.opened_ _ _ _
node_opened (Let name e span) k = Opened.opened_ _ _ _
node_opened (LetBlock name kind body span) k = Opened.opened_ _ _ _
node_opened (Call name all given span) k = Opened.opened_ _ _ _
node_opened (MessageNode (message desc meaning body at) other span) k = Opened.opened_ _ _ _

-- what stands before a piece that isn't the first of a line stays as it is
after_append : (ps : List Piece) (q : Piece) (qs : List Piece)
    → after_first_piece (ps ++ (q ∷ qs)) ≡ ps ++ after_first_piece (q ∷ qs)
after_append [] q qs = refl
after_append (p ∷ []) q qs = refl
after_append (p ∷ r ∷ ps) q qs = ap (λ l. p ∷ l) (after_append (r ∷ ps) q qs)

written_edge : (text : List ℕ) (ls : List Lexeme) (ps : List Piece)
    → edged_pieces (Written text ls ∷ ps) ≡ after_first_piece (Written text ls ∷ ps)
written_edge text ls [] = refl
written_edge text ls (p ∷ ps) = refl

opened_edge : (ps qs : List Piece) → Opened ps → edged_pieces (ps ++ qs) ≡ after_first_piece (ps ++ qs)
opened_edge _ qs (Opened.opened_ text ls ps) = written_edge text ls (ps ++ qs)

keep_first : (text : List ℕ) (p : Piece) (ps : List Piece) → TextPieces text (p ∷ ps)
    → TextPieces text (p ∷ after_first_piece ps)
keep_first _ _ _ (TextPieces.plain_ c text ps d) = TextPieces.plain_ c text (after_first_piece ps) (last_edge text ps d)
keep_first _ _ _ (TextPieces.command_ written l value text ps s d) =
    TextPieces.command_ written l value text (after_first_piece ps) s (last_edge text ps d)

has_after : (ps : List Piece) → HasPiece ps → HasPiece (after_first_piece ps)
has_after [] h = absurd (let e = h.are in cc)
has_after (p ∷ []) h = record { first = edge_piece p; more = []; are = refl }
has_after (p ∷ q ∷ ps) h = record { first = p; more = after_first_piece (q ∷ ps); are = refl }

-- a text at the end of a line, and one before more
text_last : (text : List ℕ) (span : Span) (ps : List Piece) (ns : Nodes) → TextPieces text ps → HasPiece ps
    → NodesPieces ns [] → NodesPieces (node (TextNode text span) ns) ps
text_last text span ps ns t h d =
    subst (λ l. NodesPieces (node (TextNode text span) ns) l) (append-nil ps)
    (NodesPieces.text_ text span ps [] ns t h d)

after_nodes : (ns : Nodes) (ps : List Piece) → NodesPieces ns ps → NodesPieces ns (after_first_piece ps)
after_nodes _ _ NodesPieces.none_ = NodesPieces.none_
after_nodes _ _ (NodesPieces.text_ text span ps [] ns t h d) =
    subst (λ l. NodesPieces (node (TextNode text span) ns) (after_first_piece l)) (sym (append-nil ps))
    (text_last text span (after_first_piece ps) ns (last_edge text ps t) (has_after ps h) d)
after_nodes _ _ (NodesPieces.text_ text span ps (q ∷ qs) ns t h d) =
    subst (λ l. NodesPieces (node (TextNode text span) ns) l) (sym (after_append ps q qs))
    (NodesPieces.text_ text span ps (after_first_piece (q ∷ qs)) ns t h (after_nodes ns (q ∷ qs) d))
after_nodes _ _ (NodesPieces.other_ n [] ns k d) =
    let same : after_first_piece (node_pieces n ++ []) ≡ node_pieces n ++ [] =
    ap after_first_piece (append-nil (node_pieces n)) ∙ (closed_after (node_pieces n) (node_closed n k)
    ∙ sym (append-nil (node_pieces n))) in
    subst (λ l. NodesPieces (node n ns) l) (sym same) (NodesPieces.other_ n [] ns k d)
after_nodes _ _ (NodesPieces.other_ n (q ∷ qs) ns k d) =
    subst (λ l. NodesPieces (node n ns) l) (sym (after_append (node_pieces n) q qs))
    (NodesPieces.other_ n (after_first_piece (q ∷ qs)) ns k (after_nodes ns (q ∷ qs) d))

text_edge : (text : List ℕ) (span : Span) (p : Piece) (ps qs : List Piece) (ns : Nodes) → TextPieces text (p ∷ ps)
    → NodesPieces ns qs → NodesPieces (node (TextNode text span) ns) (edge_piece p ∷ after_first_piece (ps ++ qs))
text_edge text span p ps [] ns t d =
    subst (λ l. NodesPieces (node (TextNode text span) ns) (edge_piece p ∷ after_first_piece l)) (sym (append-nil ps))
    (text_last text span (edge_piece p ∷ after_first_piece ps) ns
    (keep_first text (edge_piece p) ps (first_edge text p ps t))
    (record { first = edge_piece p; more = after_first_piece ps; are = refl }) d)
text_edge text span p ps (q ∷ qs) ns t d =
    subst (λ l. NodesPieces (node (TextNode text span) ns) (edge_piece p ∷ l)) (sym (after_append ps q qs))
    (NodesPieces.text_ text span (edge_piece p ∷ ps) (after_first_piece (q ∷ qs)) ns (first_edge text p ps t)
    (record { first = edge_piece p; more = ps; are = refl }) (after_nodes ns (q ∷ qs) d))

-- **Nodes have their pieces with the edges of a line.**
pub edged_nodes : (ns : Nodes) (ps : List Piece) → NodesPieces ns ps → NodesPieces ns (edged_pieces ps)
edged_nodes _ _ NodesPieces.none_ = NodesPieces.none_
edged_nodes _ _ (NodesPieces.text_ text span ps qs ns t h d) =
    subst (λ l. NodesPieces (node (TextNode text span) ns) (edged_pieces (l ++ qs))) (sym h.are)
    (text_edge text span h.first h.more qs ns (subst (λ l. TextPieces text l) h.are t) d)
edged_nodes _ _ (NodesPieces.other_ n qs ns k d) =
    subst (λ l. NodesPieces (node n ns) l) (sym (opened_edge (node_pieces n) qs (node_opened n k)))
    (after_nodes (node n ns) (node_pieces n ++ qs) (NodesPieces.other_ n qs ns k d))

has_text : (text : List ℕ) → HasPiece (text_pieces text)
has_text [] = record { first = nil_piece; more = []; are = refl }
has_text (c ∷ cs) = record { first = character_piece c; more = characters_pieces _ cs; are = refl }

-- **And nodes have the pieces that they are written with.**
pub own_pieces : (ns : Nodes) → NodesPieces ns (nodes_pieces ns)
own_pieces no_node = NodesPieces.none_
own_pieces (node (TextNode text span) ns) =
    NodesPieces.text_ text span (text_pieces text) (nodes_pieces ns) ns (text_are text) (has_text text) (own_pieces ns)
own_pieces (node (Print e phname span) ns) =
    NodesPieces.other_ (Print e phname span) (nodes_pieces ns) ns refl (own_pieces ns)
own_pieces (node (If arms other span) ns) =
    NodesPieces.other_ (If arms other span) (nodes_pieces ns) ns refl (own_pieces ns)
own_pieces (node (Switch e cases other span) ns) =
    NodesPieces.other_ (Switch e cases other span) (nodes_pieces ns) ns refl (own_pieces ns)
own_pieces (node (For name index e body span) ns) =
    NodesPieces.other_ (For name index e body span) (nodes_pieces ns) ns refl (own_pieces ns)
own_pieces (node (Let name e span) ns) =
    NodesPieces.other_ (Let name e span) (nodes_pieces ns) ns refl (own_pieces ns)
own_pieces (node (LetBlock name k body span) ns) =
    NodesPieces.other_ (LetBlock name k body span) (nodes_pieces ns) ns refl (own_pieces ns)
own_pieces (node (Call name all given span) ns) =
    NodesPieces.other_ (Call name all given span) (nodes_pieces ns) ns refl (own_pieces ns)
own_pieces (node (MessageNode m other span) ns) =
    NodesPieces.other_ (MessageNode m other span) (nodes_pieces ns) ns refl (own_pieces ns)
