-- A tree as it is written has the tokens that it is written for.
use Rattle.std.proofs.Common.{◌≡◌, ℕ, ◌&&◌, Bool, true, false, List, [], ◌∷◌, ◌++◌, refl, sym, ap, subst, ◌∙◌}
use Rattle.std.proofs.Common.{append_assoc}
use Rattle.std.proofs.Common.{append-nil}
use Rattle.std.specs.Prelude.{codes}
use Rattle.std.specs.List.{list_all}
use Rattle.soy_base.specs.Names.{is_dotted_name, is_name}
use Rattle.soy_lexer.specs.Found.Found.{Begins}
use Rattle.soy_lexer.specs.Segment.Segment.{TextCharacter}
use Rattle.soy_lexer.specs.TextSegment.{text_segment}
use Rattle.soy_tree.specs.Formed.{are_formed_nodes, is_formed_param, is_formed_template, is_formed_tree, is_formed_type}
use Rattle.soy_tree.specs.Trees.{Param, Template, Tree}
use Rattle.soy_rules.specs.TypeText.{type_text}
use Rattle.soy_format.specs.Formatted.{formatted_template, formatted_templates, formatted_tree, param_line, param_lines}
use Rattle.soy_format.specs.Formatted.{param_start, template_kind_text, template_line, visibility_text}
use Rattle.soy_format.specs.FormattedBody.{formatted_nodes}
use Rattle.soy_format.specs.FormattedText.{body_line}
use Rattle.formatted_source.specs.EdgedPieces.{edged_pieces}
use Rattle.formatted_source.specs.Lexemes.{Lexeme}
use Rattle.formatted_source.specs.NodePieces.{nodes_pieces}
use Rattle.formatted_source.specs.Pieces.{Piece, closed_lexemes, open_line, pieces_text, text_lexemes}
use Rattle.formatted_source.specs.ReadsAs.{HasTokens}
use Rattle.formatted_source.specs.SourcedTrees.{are_sourced_nodes, is_sourced_tree}
use Rattle.formatted_source.specs.TreeLexemes.{line_lexemes, opening_lexemes, param_lexemes, params_lexemes}
use Rattle.formatted_source.specs.TreeLexemes.{namespace_lexemes, template_close_lexemes, template_lexemes}
use Rattle.formatted_source.specs.TreeLexemes.{templates_lexemes}
use Rattle.formatted_source.specs.TreeLexemes.{tree_lexemes}
use Rattle.formatted_source.proofs.Written.CharactersWritten.{sp_is, template_close}
use Rattle.formatted_source.proofs.Written.Names.{both}
use Rattle.formatted_source.proofs.Written.NodesWritten.{nodes_are}
use Rattle.formatted_source.proofs.PieceEdges.{are_edged, edged_text, first_black, last_black}
use Rattle.formatted_source.proofs.PieceReads.{ArePieces, IsCommand, pieces_read}
use Rattle.formatted_source.proofs.PieceTexts.{nodes_text}
use Rattle.formatted_source.proofs.ReadTexts.{Outside, Reads, reads_append}
use Rattle.formatted_source.proofs.ReadTokens.{reads_tokens}
use Rattle.formatted_source.proofs.Runs.{RunLexemes, feed, no_run, run_lexemes}
use Rattle.formatted_source.proofs.Written.TemplatesWritten.{namespace_written, param_line_written, template_written}

-- a line feed outside of commands
feed_found : (white : Bool) (rest : List ℕ) → text_segment white (10 ∷ rest) ≡ Begins (TextCharacter 10) rest
feed_found true rest = refl
feed_found false rest = refl

read_feed : (white : Bool) (run rest : List ℕ)
    → Reads (Outside white) run (10 ∷ rest) [] (Outside true) (run ++ (10 ∷ [])) rest
read_feed white run rest =
    Reads.character_ (Outside white) (Outside true) run rest 10 [] (run ++ (10 ∷ [])) rest (feed_found white rest)
    (Reads.here_ (Outside true) (run ++ (10 ∷ [])) rest)

-- a command on a line
command_line : (text : List ℕ) (ls : List Lexeme) → IsCommand text ls → (white : Bool) (run rest : List ℕ)
    (before : List Lexeme) → RunLexemes run before
    → Reads (Outside white) run (text ++ (10 ∷ rest)) (before ++ ls) (Outside true) (10 ∷ []) rest
command_line text ls c white run rest before runs =
    subst (λ l. Reads (Outside white) run (text ++ (10 ∷ rest)) l (Outside true) (10 ∷ []) rest)
    (append-nil (before ++ ls))
    (reads_append (Outside white) (Outside false) (Outside true) run (text ++ (10 ∷ rest)) (10 ∷ rest) rest []
    (10 ∷ []) (before ++ ls) [] (c.reads white run (10 ∷ rest) before runs) (read_feed false [] rest))

-- line feeds alone are a run without lexemes
feed_run : RunLexemes (10 ∷ []) []
feed_run = run_lexemes true false [] refl refl refl

feeds_run : RunLexemes (10 ∷ 10 ∷ []) []
feeds_run = run_lexemes true true [] refl refl refl

-- a part of lines: from the start of a line to that of another
abbrev Lines : List ℕ → List Lexeme → Type 0
Lines text ls = (rest : List ℕ) → Reads (Outside true) (10 ∷ []) (text ++ rest) ls (Outside true) (10 ∷ []) rest

followed : (a b : List ℕ) (ls ms : List Lexeme) → Lines a ls → Lines b ms → Lines (a ++ b) (ls ++ ms)
followed a b ls ms one two rest =
    subst (λ l. Reads (Outside true) (10 ∷ []) l (ls ++ ms) (Outside true) (10 ∷ []) rest) (sym (append_assoc a b rest))
    (reads_append (Outside true) (Outside true) (Outside true) (10 ∷ []) (a ++ (b ++ rest)) (b ++ rest) rest (10 ∷ [])
    (10 ∷ []) ls ms (one (b ++ rest)) (two rest))

none : Lines [] []
none rest = Reads.here_ (Outside true) (10 ∷ []) rest

-- a line of a command
line_of : (text line : List ℕ) (ls : List Lexeme) → IsCommand text ls → line ≡ text ++ (10 ∷ []) → Lines line ls
line_of text line ls c is rest =
    subst (λ l. Reads (Outside true) (10 ∷ []) l ls (Outside true) (10 ∷ []) rest)
    (sym (append_assoc text (10 ∷ []) rest) ∙ ap (λ l. l ++ rest) (sym is))
    (command_line text ls c true (10 ∷ []) rest [] feed_run)

-- a parameter
param_is : (p : Param)
    → param_line p ≡ (param_start p.required ++ ((p.name ++ (codes ": " ++ type_text p.of)) ++ (125 ∷ []))) ++ (10 ∷ [])
param_is p = sym (append_assoc (param_start p.required) ((p.name ++ (codes ": " ++ type_text p.of)) ++ (125 ∷ []))
    (10 ∷ [])
    ∙ ap (λ l. param_start p.required ++ l) (append_assoc (p.name ++ (codes ": " ++ type_text p.of)) (125 ∷ [])
    (10 ∷ [])
    ∙ (append_assoc p.name (codes ": " ++ type_text p.of) (125 ∷ 10 ∷ [])
    ∙ ap (λ l. p.name ++ l) (append_assoc (codes ": ") (type_text p.of) (125 ∷ 10 ∷ [])))))

params_are : (ps : List Param) → list_all is_formed_param ps ≡ true → Lines (param_lines ps) (params_lexemes ps)
params_are [] f = none
params_are (p ∷ ps) f =
    let fs = both (is_formed_param p) (list_all is_formed_param ps) f in
    let gs = both (is_name p.name) (is_formed_type p.of) fs.0 in
    followed (param_line p) (param_lines ps) (param_lexemes p) (params_lexemes ps)
    (line_of (param_start p.required ++ ((p.name ++ (codes ": " ++ type_text p.of)) ++ (125 ∷ []))) (param_line p)
    (param_lexemes p) (param_line_written p.required p.name p.of gs.0 gs.1) (param_is p))
    (params_are ps fs.1)

-- the line of a body, and that of the close of its template
line_and_close : (ps : List Piece) → ArePieces false ps
    → Lines (body_line (pieces_text ps) ++ codes "{/template}\n") (line_lexemes ps ++ template_close_lexemes)
line_and_close [] a rest =
    line_of (codes "{/template}") (codes "{/template}\n") template_close_lexemes template_close refl rest
line_and_close (p ∷ ps) a rest =
    let es : List Piece = edged_pieces (p ∷ ps) in
    let more : List ℕ = codes "{/template}" ++ (10 ∷ rest) in
    let are = are_edged sp_is false (p ∷ ps) a in
    let r = pieces_read true true false [] (edged_pieces (p ∷ ps)) (10 ∷ (codes "{/template}" ++ (10 ∷ rest))) are refl
    (first_black false (p ∷ ps) a) refl in
    let line : List ℕ = open_line [] (edged_pieces (p ∷ ps)) in
    let runs : RunLexemes ((feed r.lead_after ++ open_line [] (edged_pieces (p ∷ ps))) ++ (10 ∷ []))
    (text_lexemes (open_line [] (edged_pieces (p ∷ ps)))) =
    subst (λ l. RunLexemes l (text_lexemes (open_line [] (edged_pieces (p ∷ ps)))))
    (sym (append_assoc (feed r.lead_after) (open_line [] (edged_pieces (p ∷ ps))) (10 ∷ [])))
    (run_lexemes r.lead_after true (open_line [] (edged_pieces (p ∷ ps))) r.unbroken r.follows
    (last_black false (p ∷ ps) a)) in
    let close = command_line (codes "{/template}") template_close_lexemes template_close true
    ((feed r.lead_after ++ open_line [] (edged_pieces (p ∷ ps))) ++ (10 ∷ [])) rest
    (text_lexemes (open_line [] (edged_pieces (p ∷ ps)))) runs in
    let ended = reads_append (Outside r.white_after) (Outside true) (Outside true)
    (feed r.lead_after ++ open_line [] (edged_pieces (p ∷ ps))) (10 ∷ (codes "{/template}" ++ (10 ∷ rest)))
    (codes "{/template}" ++ (10 ∷ rest)) rest ((feed r.lead_after ++ open_line [] (edged_pieces (p ∷ ps))) ++ (10 ∷ []))
    (10 ∷ []) [] (text_lexemes (open_line [] (edged_pieces (p ∷ ps))) ++ template_close_lexemes)
    (read_feed r.white_after (feed r.lead_after ++ open_line [] (edged_pieces (p ∷ ps)))
    (codes "{/template}" ++ (10 ∷ rest))) close in
    let whole = reads_append (Outside true) (Outside r.white_after) (Outside true) (10 ∷ [])
    (pieces_text (edged_pieces (p ∷ ps)) ++ (10 ∷ (codes "{/template}" ++ (10 ∷ rest))))
    (10 ∷ (codes "{/template}" ++ (10 ∷ rest))) rest (feed r.lead_after ++ open_line [] (edged_pieces (p ∷ ps)))
    (10 ∷ []) (closed_lexemes [] (edged_pieces (p ∷ ps)))
    (text_lexemes (open_line [] (edged_pieces (p ∷ ps))) ++ template_close_lexemes) r.reads ended in
    let text_is : (body_line (pieces_text (p ∷ ps)) ++ codes "{/template}\n") ++ rest
    ≡ pieces_text (edged_pieces (p ∷ ps)) ++ (10 ∷ (codes "{/template}" ++ (10 ∷ rest))) =
    append_assoc (body_line (pieces_text (p ∷ ps))) (codes "{/template}\n") rest
    ∙ (ap (λ l. l ++ (codes "{/template}\n" ++ rest)) (edged_text false p ps a)
    ∙ append_assoc (pieces_text (edged_pieces (p ∷ ps))) (10 ∷ []) (codes "{/template}\n" ++ rest)) in
    subst (λ l. Reads (Outside true) (10 ∷ []) l (line_lexemes (p ∷ ps) ++ template_close_lexemes) (Outside true)
    (10 ∷ []) rest) (sym text_is)
    (subst (λ l. Reads (Outside true) (10 ∷ [])
    (pieces_text (edged_pieces (p ∷ ps)) ++ (10 ∷ (codes "{/template}" ++ (10 ∷ rest)))) l (Outside true)
    (10 ∷ []) rest)
    (sym (append_assoc (closed_lexemes [] (edged_pieces (p ∷ ps))) (text_lexemes (open_line [] (edged_pieces (p ∷ ps))))
    template_close_lexemes)) whole)

-- a template after its first line
within_template : (t : Template) → is_formed_template t ≡ true → are_sourced_nodes false t.body ≡ true
    → Lines (param_lines t.params ++ (body_line (formatted_nodes t.body) ++ codes "{/template}\n"))
    (params_lexemes t.params ++ (line_lexemes (nodes_pieces t.body) ++ template_close_lexemes))
within_template t f s =
    let fs = both (is_name t.name && list_all is_formed_param t.params) (are_formed_nodes t.body) f in
    let gs = both (is_name t.name) (list_all is_formed_param t.params) fs.0 in
    followed (param_lines t.params) (body_line (formatted_nodes t.body) ++ codes "{/template}\n")
    (params_lexemes t.params)
    (line_lexemes (nodes_pieces t.body) ++ template_close_lexemes) (params_are t.params gs.1)
    (subst (λ l. Lines (body_line l ++ codes "{/template}\n")
    (line_lexemes (nodes_pieces t.body) ++ template_close_lexemes)) (nodes_text t.body)
    (line_and_close (nodes_pieces t.body) (nodes_are false t.body fs.1 s false tt)))

opening_is : (t : Template) → template_line t.name t.kind t.private
    ≡ (123 ∷ (codes "template" ++ (32 ∷ ((t.name ++ (template_kind_text t.kind ++ visibility_text t.private)) ++
    (125 ∷ [])))))
    ++ (10 ∷ [])
opening_is t = ap (λ l. codes "{template " ++ l) (sym (
    append_assoc (t.name ++ (template_kind_text t.kind ++ visibility_text t.private)) (125 ∷ []) (10 ∷ [])
    ∙ (append_assoc t.name (template_kind_text t.kind ++ visibility_text t.private) (125 ∷ 10 ∷ [])
    ∙ ap (λ l. t.name ++ l) (append_assoc (template_kind_text t.kind) (visibility_text t.private) (125 ∷ 10 ∷ [])))))

-- a template after an empty line
template_is : (t : Template) → is_formed_template t ≡ true → are_sourced_nodes false t.body ≡ true
    → Lines (10 ∷ formatted_template t) (template_lexemes t)
template_is t f s rest =
    let fs = both (is_name t.name && list_all is_formed_param t.params) (are_formed_nodes t.body) f in
    let gs = both (is_name t.name) (list_all is_formed_param t.params) fs.0 in
    let inner : List ℕ = param_lines t.params ++ (body_line (formatted_nodes t.body) ++ codes "{/template}\n") in
    let opening = command_line
    (123 ∷ (codes "template" ++ (32 ∷ ((t.name ++ (template_kind_text t.kind ++ visibility_text t.private)) ++
    (125 ∷ [])))))
    (opening_lexemes t) (template_written t.name t.kind t.private gs.0) true (10 ∷ 10 ∷ [])
    ((param_lines t.params ++ (body_line (formatted_nodes t.body) ++ codes "{/template}\n")) ++ rest) [] feeds_run in
    let text_is : formatted_template t ++ rest
    ≡ (123 ∷ (codes "template" ++ (32 ∷ ((t.name ++ (template_kind_text t.kind ++ visibility_text t.private)) ++
    (125 ∷ [])))))
    ++ (10 ∷ ((param_lines t.params ++ (body_line (formatted_nodes t.body) ++ codes "{/template}\n")) ++ rest)) =
    append_assoc (template_line t.name t.kind t.private)
    (param_lines t.params ++ (body_line (formatted_nodes t.body) ++ codes "{/template}\n")) rest
    ∙ (ap (λ l. l ++ ((param_lines t.params ++ (body_line (formatted_nodes t.body) ++ codes "{/template}\n")) ++ rest))
    (opening_is t)
    ∙ append_assoc
    (123 ∷ (codes "template" ++ (32 ∷ ((t.name ++ (template_kind_text t.kind ++ visibility_text t.private)) ++
    (125 ∷ [])))))
    (10 ∷ []) ((param_lines t.params ++ (body_line (formatted_nodes t.body) ++ codes "{/template}\n")) ++ rest)) in
    reads_append (Outside true) (Outside true) (Outside true) (10 ∷ []) (10 ∷ (formatted_template t ++ rest))
    (formatted_template t ++ rest) rest (10 ∷ 10 ∷ []) (10 ∷ []) [] (template_lexemes t)
    (read_feed true (10 ∷ []) (formatted_template t ++ rest))
    (subst (λ l. Reads (Outside true) (10 ∷ 10 ∷ []) l (template_lexemes t) (Outside true) (10 ∷ []) rest) (sym text_is)
    (reads_append (Outside true) (Outside true) (Outside true) (10 ∷ 10 ∷ [])
    ((123 ∷ (codes "template" ++ (32 ∷ ((t.name ++ (template_kind_text t.kind ++ visibility_text t.private)) ++
    (125 ∷ [])))))
    ++ (10 ∷ ((param_lines t.params ++ (body_line (formatted_nodes t.body) ++ codes "{/template}\n")) ++ rest)))
    ((param_lines t.params ++ (body_line (formatted_nodes t.body) ++ codes "{/template}\n")) ++ rest) rest (10 ∷ [])
    (10 ∷ []) (opening_lexemes t)
    (params_lexemes t.params ++ (line_lexemes (nodes_pieces t.body) ++ template_close_lexemes)) opening
    (within_template t f s rest)))

templates_are : (ts : List Template) → list_all is_formed_template ts ≡ true
    → list_all (λ (t : Template). are_sourced_nodes false t.body) ts ≡ true
    → Lines (formatted_templates ts) (templates_lexemes ts)
templates_are [] f s = none
templates_are (t ∷ ts) f s =
    let fs = both (is_formed_template t) (list_all is_formed_template ts) f in
    let ss = both (are_sourced_nodes false t.body) (list_all (λ (t : Template). are_sourced_nodes false t.body) ts) s in
    followed (10 ∷ formatted_template t) (formatted_templates ts) (template_lexemes t) (templates_lexemes ts)
    (template_is t fs.0 ss.0) (templates_are ts fs.1 ss.1)

-- **A tree as it is written has the tokens that it is written for.**
pub tree_written : (t : Tree) → is_formed_tree t ≡ true → is_sourced_tree t ≡ true
    → HasTokens (formatted_tree t) (tree_lexemes t)
tree_written t f s =
    let fs = both (is_dotted_name t.namespace) (list_all is_formed_template t.templates) f in
    let start = command_line (123 ∷ (codes "namespace" ++ (32 ∷ (t.namespace ++ (125 ∷ []))))) (namespace_lexemes t)
    (namespace_written t.namespace fs.0) true [] (formatted_templates t.templates) [] no_run in
    let text_is : formatted_tree t
    ≡ (123 ∷ (codes "namespace" ++ (32 ∷ (t.namespace ++ (125 ∷ []))))) ++ (10 ∷ formatted_templates t.templates) =
    ap (λ l. codes "{namespace " ++ l) (sym (append_assoc t.namespace (125 ∷ [])
    (10 ∷ formatted_templates t.templates))) in
    let rest : Reads (Outside true) (10 ∷ []) (formatted_templates t.templates) (templates_lexemes t.templates)
    (Outside true) (10 ∷ []) [] =
    subst (λ l. Reads (Outside true) (10 ∷ []) l (templates_lexemes t.templates) (Outside true) (10 ∷ []) [])
    (append-nil (formatted_templates t.templates)) (templates_are t.templates fs.1 s []) in
    let whole = reads_append (Outside true) (Outside true) (Outside true) []
    ((123 ∷ (codes "namespace" ++ (32 ∷ (t.namespace ++ (125 ∷ []))))) ++ (10 ∷ formatted_templates t.templates))
    (formatted_templates t.templates) [] (10 ∷ []) (10 ∷ []) (namespace_lexemes t) (templates_lexemes t.templates) start
    rest in
    subst (HasTokens (formatted_tree t)) (append-nil (tree_lexemes t))
    (reads_tokens (Outside true) (formatted_tree t) (10 ∷ []) (tree_lexemes t) []
    (subst (λ l. Reads (Outside true) [] l (tree_lexemes t) (Outside true) (10 ∷ []) []) (sym text_is) whole) feed_run)
