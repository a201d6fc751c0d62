-- What the nodes of a line say, by what each of them says that is no text.
use Rattle.std.proofs.Common.{◌≡◌, ℕ, ◌≤◌, ◌&&◌, not, Bool, true, false, List, [], ◌∷◌, ◌++◌, refl, sym, ap, ◌∙◌}
use Rattle.soy_base.specs.declared.fault.Span.{Span}
use Rattle.soy_lexer.specs.declared.token.Token.{Token}
use Rattle.soy_tree.specs.Formed.{are_formed_nodes, begins_with_text, is_formed_node, is_text}
use Rattle.soy_tree.specs.Nodes.{Nodes, TextNode, no_node, node}
use Rattle.soy_tree.specs.ViewNodes.{view_nodes}
use Rattle.soy_tree.specs.declared.node.Form.TheVariants as form
use Rattle.soy_tree.specs.declared.node.Node as code
use Rattle.soy_parser.specs.declared.command.Command.{Command}
use Rattle.soy_parser.specs.Depth.{inside_blocks}
use Rattle.soy_parser.specs.Nodes.{node_of}
use Rattle.soy_parser.specs.SpellsCommand.{SpellsCommands}
use Rattle.soy_parser.specs.SpellsTree.{SpellsNode, SpellsText}
use Rattle.soy_parser.proofs.NodeViews.{view_text}
use Rattle.soy_format.specs.WithoutSpans.{no_span, node_without_spans, nodes_without_spans}
use Rattle.formatted_source.specs.Lexemes.{lexemes}
use Rattle.formatted_source.specs.NodePieces.{node_pieces}
use Rattle.formatted_source.specs.Pieces.{Piece, Plain, Written}
use Rattle.formatted_source.proofs.Conditions.{not_true, three}
use Rattle.formatted_source.proofs.EdgedNodes.{node_closed, node_opened}
use Rattle.formatted_source.proofs.LineLexemes.{MayOpen, before_open, opened_on}
use Rattle.formatted_source.proofs.NodeAlike.{BodyIs, NodeAs}
use Rattle.formatted_source.proofs.NodeLexemes.{all_lexemes}
use Rattle.formatted_source.proofs.NodeRows.{NodeRows, body_of_rows}
use Rattle.formatted_source.proofs.NodesPieces.{HasPiece, NodesPieces}
use Rattle.formatted_source.proofs.PartLexemes.{after_command}
use Rattle.formatted_source.proofs.Speaking.{Speaks, Spelled, as_part, no_part, same_part, two_parts}
use Rattle.formatted_source.proofs.Sourced.SpokenCommands.{Spoken}
use Rattle.formatted_source.proofs.TextsSpelled.{TextPieces, TextSoFar, pieces_spelled}

-- texts

pub record TextIs (text : List ℕ) (cs : List Command) (ks : List ℕ) : Type 0 where
  pub span : Span
  pub spells : SpellsText cs ks text span

-- a line with characters has lexemes
line_lexeme : (c : ℕ) (cs : List ℕ) (ps : List Piece) → all_lexemes (c ∷ cs) ps ≡ [] → ⊥
line_lexeme c cs [] e = cc
line_lexeme c cs (Plain d ∷ ps) e = line_lexeme c (cs ++ (d ∷ [])) ps e
line_lexeme c cs (Written text ls ∷ ps) e = cc

-- and so have the pieces of a text
some_lexeme : (text : List ℕ) (p : Piece) (ps qs : List Piece) → TextPieces text qs → qs ≡ p ∷ ps
    → all_lexemes [] qs ≡ [] → ⊥
some_lexeme _ p ps _ TextPieces.none_ is e = cc
some_lexeme _ p ps _ (TextPieces.plain_ c text qs d) is e = line_lexeme c [] qs e
some_lexeme _ p ps _ (TextPieces.command_ written l value text qs s d) is e = cc

no_commands : (ts : List Token) (ds : List ℕ) (ws : List Bool) (cs : List Command) (ks : List ℕ) → cs ≡ []
    → SpellsCommands ts ds ws cs ks → ts ≡ []
no_commands _ _ _ _ _ e SpellsCommands.none_ = refl
no_commands _ _ _ _ _ e (SpellsCommands.more_ ts us ds es ws vs c cs level levels one more) = absurd (cc)

text_spoken : (b : ℕ) (ts : List Token) (cs : List Command) (ks : List ℕ) (text : List ℕ) → TextSoFar cs ks text
    → Spoken ts cs (inside_blocks b ks) → (ts ≡ [] → ⊥) → Spelled b ts (TextIs text)
text_spoken b ts _ _ _ TextSoFar.nothing_ spoken some =
    absurd (some (no_commands ts spoken.depths spoken.words [] [] refl spoken.spell))
text_spoken b ts _ _ _ (TextSoFar.some_ cs ks text span s) spoken some = record {
  commands = cs;
  levels = ks;
  spoken = spoken;
  said = record { span = span; spells = s };
}

pub text_speaks : (b : ℕ) (text : List ℕ) (ps : List Piece) → b ≤ 64 → TextPieces text ps → HasPiece ps
    → Speaks b (all_lexemes [] ps) (TextIs text)
text_speaks b text ps le t h ts same =
    let s = pieces_spelled b ts [] [] [] [] text ps le TextSoFar.nothing_ t same in
    text_spoken b ts s.commands s.levels text s.texts s.spoken
    (λ none. some_lexeme text h.first h.more ps t h.are (sym same ∙ ap lexemes none))

-- nodes

-- what each says that is no text
abbrev pub EachSpeaks : (List Command → List ℕ → code.Node → Type 0) → ℕ → Nodes → Type 0
EachSpeaks One b no_node = Unit {0}
EachSpeaks One b (node n ns) =
    (is_text n ≡ false → Speaks b (all_lexemes [] (node_pieces n)) (NodeAs One n)) × EachSpeaks One b ns

pub record RowsAs (One : List Command → List ℕ → code.Node → Type 0) (may : Bool) (ns : Nodes) (cs : List Command)
    (ks : List ℕ) : Type 0 where
  pub own : List code.Node
  pub rows : NodeRows One may cs ks own
  pub alike : nodes_without_spans (view_nodes own) ≡ nodes_without_spans ns

-- where a text may not stand first
abbrev pub StartsSo : Bool → Nodes → Type 0
StartsSo true ns = Unit {0}
StartsSo false ns = begins_with_text ns ≡ false

nodes_open : (ns : Nodes) (ps : List Piece) → NodesPieces ns ps → begins_with_text ns ≡ false → MayOpen ps
nodes_open _ _ NodesPieces.none_ h = MayOpen.empty_
nodes_open _ _ (NodesPieces.text_ text span ps qs ns t has d) h = absurd (cc)
nodes_open _ _ (NodesPieces.other_ n qs ns k d) h =
    MayOpen.open_ (node_pieces n ++ qs) (opened_on (node_pieces n) qs (node_opened n k))

-- **The nodes of a line, in the order of the text.**
pub nodes_walked : (One : List Command → List ℕ → code.Node → Type 0) (b : ℕ) (may : Bool) (ns : Nodes)
    (ps : List Piece) → b ≤ 64 → NodesPieces ns ps → are_formed_nodes ns ≡ true → StartsSo may ns
    → EachSpeaks One b ns → Speaks b (all_lexemes [] ps) (RowsAs One may ns)
nodes_walked One b may _ _ le NodesPieces.none_ f starts each =
    no_part b (RowsAs One may no_node) (record { own = []; rows = NodeRows.no_node_ may; alike = refl })
nodes_walked One b true _ _ le (NodesPieces.text_ text span ps qs ns t has d) f starts each =
    let fs = three true (not (begins_with_text ns)) (are_formed_nodes ns) f in
    let apart = not_true (begins_with_text ns) fs.1 in
    same_part b (all_lexemes [] ps ++ all_lexemes [] qs) (all_lexemes [] (ps ++ qs))
    (RowsAs One true (node (TextNode text span) ns)) (before_open [] ps qs (nodes_open ns qs d apart))
    (two_parts b (all_lexemes [] ps) (all_lexemes [] qs) (TextIs text) (RowsAs One false ns)
    (RowsAs One true (node (TextNode text span) ns)) (text_speaks b text ps le t has)
    (nodes_walked One b false ns qs le d fs.2 apart each.1)
    (λ cs ds ks ms own more. record {
      own = node_of (form.Text text) own.span ∷ more.own;
      rows = NodeRows.text_ cs ds ks ms text own.span more.own own.spells more.rows;
      alike = ap (λ n. node (node_without_spans n) (nodes_without_spans (view_nodes more.own)))
          (view_text text own.span) ∙ ap (λ l. node (TextNode text no_span) l) more.alike;
    }))
nodes_walked One b false _ _ le (NodesPieces.text_ text span ps qs ns t has d) f starts each = absurd (cc)
nodes_walked One b may _ _ le (NodesPieces.other_ n qs ns k d) f starts each =
    let fs = three (is_formed_node n) (not (is_text n && begins_with_text ns)) (are_formed_nodes ns) f in
    same_part b (all_lexemes [] (node_pieces n) ++ all_lexemes [] qs) (all_lexemes [] (node_pieces n ++ qs))
    (RowsAs One may (node n ns)) (after_command [] (node_pieces n) qs (node_closed n k))
    (two_parts b (all_lexemes [] (node_pieces n)) (all_lexemes [] qs) (NodeAs One n) (RowsAs One true ns)
    (RowsAs One may (node n ns)) (each.0 k) (nodes_walked One b true ns qs le d fs.2 tt each.1)
    (λ cs ds ks ms own more. record {
      own = own.own ∷ more.own;
      rows = NodeRows.node_ may cs ds ks ms own.own more.own own.spells more.rows;
      alike = ap (λ n. node n (nodes_without_spans (view_nodes more.own))) own.alike
          ∙ ap (λ l. node (node_without_spans n) l) more.alike;
    }))

-- **And outside of messages, as a body.**
pub body_walked : (b : ℕ) (ns : Nodes) (ps : List Piece) → b ≤ 64 → NodesPieces ns ps → are_formed_nodes ns ≡ true
    → EachSpeaks SpellsNode b ns → Speaks b (all_lexemes [] ps) (BodyIs ns)
body_walked b ns ps le d f each =
    as_part b (all_lexemes [] ps) (RowsAs SpellsNode true ns) (BodyIs ns)
    (nodes_walked SpellsNode b true ns ps le d f tt each)
    (λ cs ks r. record { own = r.own; spells = body_of_rows cs ks r.own r.rows; alike = r.alike })
