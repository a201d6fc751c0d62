-- What a switch says, as it is written, by what its bodies say.
use Rattle.std.proofs.Common.{◌≡◌, ℕ, ◌+◌, ◌≤◌, true, List, [], ◌∷◌, ◌++◌, map, Some, None, refl, ap, ◌∙◌, arith}
use Rattle.std.specs.Prelude.{codes}
use Rattle.std.specs.List.{list_all}
use Rattle.soy_base.specs.declared.fault.Span.{Span}
use Rattle.soy_lexer.specs.declared.token.TokenKind.TheVariants as kind
use Rattle.soy_tree.specs.Expressions.{Expr}
use Rattle.soy_tree.specs.Formed.{is_formed_expr}
use Rattle.soy_tree.specs.Nodes as tree
use Rattle.soy_tree.specs.Nodes.{Nodes, Cases, Otherwise, Switch, no_case, case}
use Rattle.soy_tree.specs.ViewExpressions.{view_expr, view_exprs}
use Rattle.soy_tree.specs.ViewNodes.{view_cases, view_nodes}
use Rattle.soy_tree.specs.declared.expr.Expr as code_expr
use Rattle.soy_tree.specs.declared.node.Case.{Case}
use Rattle.soy_tree.specs.declared.node.Form.TheVariants as form
use Rattle.soy_tree.specs.declared.node.Node as code
use Rattle.expr_parser.specs.Operands.{joined}
use Rattle.soy_parser.specs.declared.command.Command.{Command}
use Rattle.soy_parser.specs.declared.command.CommandForm.{CommandForm}
use Rattle.soy_parser.specs.declared.command.CommandForm.TheVariants as says
use Rattle.soy_parser.specs.declared.command.Middle.TheVariants as middle
use Rattle.soy_parser.specs.declared.command.Opening.TheVariants as opening
use Rattle.soy_parser.specs.declared.terminal.BlockName.TheVariants as block_name
use Rattle.soy_parser.specs.Nodes.{case_of, node_of}
use Rattle.soy_parser.specs.SpellsTree.{SpellsBody, SpellsCases, SpellsNode, SpellsWhite}
use Rattle.soy_parser.proofs.ViewForms.{view-Switch, view-SwitchDefault, view-case}
use Rattle.soy_format.specs.WithoutSpans.{cases_without_spans, expr_without_spans, no_span, node_without_spans}
use Rattle.soy_format.specs.WithoutSpans.{nodes_without_spans}
use Rattle.formatted_source.specs.CommandPieces.{braced, close_piece, values_lexemes}
use Rattle.formatted_source.specs.ExprLexemes.{expr_lexemes}
use Rattle.formatted_source.specs.Lexemes.{Lexeme}
use Rattle.formatted_source.specs.NodePieces.{cases_pieces, default_piece, node_pieces, nodes_pieces, otherwise_pieces}
use Rattle.formatted_source.specs.Pieces.{Piece}
use Rattle.formatted_source.specs.SourcedTrees.{has_value}
use Rattle.formatted_source.proofs.Commands.BareCommands.{default_says, switch_closes}
use Rattle.formatted_source.proofs.BlockEnds.{EndIs, OtherwiseSpeaks, end_opened, end_speaks}
use Rattle.formatted_source.proofs.Commands.CaseCommands.{AllLow, SaysValues, alike_values, case_command}
use Rattle.formatted_source.proofs.Commands.CommandRows.{Rows, gathered}
use Rattle.formatted_source.proofs.EdgedNodes.{Opened}
use Rattle.formatted_source.proofs.Commands.ExprCommands.{SaysExpr, expr_command, switch_head}
use Rattle.formatted_source.proofs.Fitting.FittingTrees.{ValuesFit}
use Rattle.formatted_source.proofs.LineLexemes.{MayOpen, before_open, row_pieces}
use Rattle.formatted_source.proofs.NodeAlike.{BodyIs, NodeIs}
use Rattle.formatted_source.proofs.NodeLexemes.{all_lexemes, from_command}
use Rattle.formatted_source.proofs.PieceParts.{bare}
use Rattle.formatted_source.proofs.Speaking.{Both, Headed, Speaks, Within, both_parts, command_then, headed_part}
use Rattle.formatted_source.proofs.Speaking.{inner_part, no_part, same_part, two_parts}
use Rattle.formatted_source.proofs.Fitting.WrittenHeight.{expr_height}

-- a case
pub data OneCase : List Command → List ℕ → Case → Type 0 where
  case_ : (c : Command) (cs : List Command) (ks : List ℕ) (values : List code_expr.Expr) (body : List code.Node)
      → c.form ≡ says.GoesOn (middle.Case values) → SpellsBody cs ks body
      → OneCase (c ∷ cs) (0 ∷ ks) (case_of values body)

pub record CasesAre (cases : Cases) (cs : List Command) (ks : List ℕ) : Type 0 where
  pub own : List Case
  pub rows : Rows Case OneCase cs ks own
  pub alike : cases_without_spans (view_cases own) ≡ cases_without_spans cases

cases_open : (cases : Cases) → MayOpen (cases_pieces cases)
cases_open no_case = MayOpen.empty_
cases_open (case values body cases) = MayOpen.open_ _ (Opened.opened_ _ _ _)

values_viewed : (values : List code_expr.Expr) → map expr_without_spans (view_exprs values) ≡ alike_values values
values_viewed [] = refl
values_viewed (e ∷ es) = ap (λ l. expr_without_spans (view_expr e) ∷ l) (values_viewed es)

-- a case that is alike, before others
same_case : (own_values : List code_expr.Expr) (own : List code.Node) (values : List Expr) (body : Nodes)
    (more : List Case) (cases : Cases) → alike_values own_values ≡ map expr_without_spans values
    → nodes_without_spans (view_nodes own) ≡ nodes_without_spans body
    → cases_without_spans (view_cases more) ≡ cases_without_spans cases
    → cases_without_spans (view_cases (case_of own_values own ∷ more)) ≡ cases_without_spans (case values body cases)
same_case own_values own values body more cases f g h =
    ap (λ (p : List Expr × Nodes). case (map expr_without_spans p.0) (nodes_without_spans p.1)
    (cases_without_spans (view_cases more))) (view-case own_values own)
    ∙ over (map expr_without_spans (view_exprs own_values)) (map expr_without_spans values)
    (nodes_without_spans (view_nodes own))
    (nodes_without_spans body) (cases_without_spans (view_cases more)) (cases_without_spans cases)
    (values_viewed own_values ∙ f) g h
  where
    over : (p q : List Expr) (r s : Nodes) (t u : Cases) → p ≡ q → r ≡ s → t ≡ u → case p r t ≡ case q s u
    over p q r s t u f g h = cc (f, g, h)

pub no_cases_speak : (b : ℕ) → Speaks b (all_lexemes [] (cases_pieces no_case)) (CasesAre no_case)
no_cases_speak b = no_part b (CasesAre no_case) (record { own = []; rows = Rows.no_row_; alike = refl })

all_low : (b : ℕ) (es : List Expr) → ValuesFit b es → AllLow b es
all_low b [] fit = tt
all_low b (e ∷ es) fit = (fit.0, all_low b es fit.1)

cases_speak : (b : ℕ) (e : Expr) (es : List Expr) (body : Nodes) (cases : Cases) → b ≤ 64
    → list_all is_formed_expr (e ∷ es) ≡ true → ValuesFit b (e ∷ es)
    → Speaks b (all_lexemes [] (nodes_pieces body)) (BodyIs body)
    → Speaks b (all_lexemes [] (cases_pieces cases)) (CasesAre cases)
    → Speaks b (all_lexemes [] (cases_pieces (case (e ∷ es) body cases))) (CasesAre (case (e ∷ es) body cases))
cases_speak b e es body cases le f fit inner more =
    same_part b
    ((braced ((kind.Word, codes "case") ∷ values_lexemes (e ∷ es)) ++ all_lexemes [] (nodes_pieces body))
    ++ all_lexemes [] (cases_pieces cases))
    (all_lexemes [] (cases_pieces (case (e ∷ es) body cases))) (CasesAre (case (e ∷ es) body cases))
    (row_pieces [] (braced ((kind.Word, codes "case") ∷ values_lexemes (e ∷ es))) (nodes_pieces body)
    (cases_pieces cases) (cases_open cases))
    (two_parts b (braced ((kind.Word, codes "case") ∷ values_lexemes (e ∷ es)) ++ all_lexemes [] (nodes_pieces body))
    (all_lexemes [] (cases_pieces cases)) (Headed (SaysValues (e ∷ es)) (BodyIs body)) (CasesAre cases)
    (CasesAre (case (e ∷ es) body cases))
    (headed_part b (braced ((kind.Word, codes "case") ∷ values_lexemes (e ∷ es))) (all_lexemes [] (nodes_pieces body))
    (SaysValues (e ∷ es)) (BodyIs body)
    (λ ts same. case_command b ts e es le f (all_low b (e ∷ es) fit) same) inner) more over)
  where
    over : (cs ds : List Command) (ks ns : List ℕ) → Headed (SaysValues (e ∷ es)) (BodyIs body) cs ks
        → CasesAre cases ds ns → CasesAre (case (e ∷ es) body cases) (cs ++ ds) (ks ++ ns)
    over _ ds _ ns (Headed.headed_ c cs ks s p) r = record {
      own = case_of s.values p.own ∷ r.own;
      rows = Rows.row_ (c ∷ cs) ds (0 ∷ ks) ns (case_of s.values p.own) r.own
          (OneCase.case_ c cs ks s.values p.own s.is p.spells) r.rows;
      alike = same_case s.values p.own (e ∷ es) body r.own cases s.alike p.alike r.alike;
    }

-- in a text each case has a value
pub any_case_speaks : (b : ℕ) (values : List Expr) (body : Nodes) (cases : Cases) → b ≤ 64
    → has_value values ≡ true → list_all is_formed_expr values ≡ true → ValuesFit b values
    → Speaks b (all_lexemes [] (nodes_pieces body)) (BodyIs body)
    → Speaks b (all_lexemes [] (cases_pieces cases)) (CasesAre cases)
    → Speaks b (all_lexemes [] (cases_pieces (case values body cases))) (CasesAre (case values body cases))
any_case_speaks b [] body cases le some f fit inner more = absurd (cc)
any_case_speaks b (e ∷ es) body cases le some f fit inner more = cases_speak b e es body cases le f fit inner more

one_more : (cs ds : List Command) (ks ns : List ℕ) (done : List Case) (a : Case)
    → SpellsCases cs ks done → OneCase ds ns a → SpellsCases (cs ++ ds) (ks ++ ns) (done ++ (a ∷ []))
one_more cs _ ks _ done _ s (OneCase.case_ c ds ns values body h r) =
    SpellsCases.case_ cs ds ks ns done c values body s h r

spells_cases : (cs : List Command) (ks : List ℕ) (own : List Case) → Rows Case OneCase cs ks own
    → SpellsCases cs ks own
spells_cases cs ks own rows =
    gathered Case OneCase (λ cs ks done. SpellsCases cs ks done) one_more [] cs [] ks [] own SpellsCases.no_case_ rows

same_switch : (w z : Expr) (x y : Cases) (p q : Otherwise) → w ≡ z → x ≡ y → p ≡ q
    → Switch w x p no_span ≡ Switch z y q no_span
same_switch w z x y p q d e f = cc (d, e, f)

abbrev SwitchEnd : Otherwise → List Command → List ℕ → Type 0
SwitchEnd other cs ks = EndIs (says.GoesOn middle.Default) (says.Closes block_name.Switch) other cs ks

abbrev Begins : Expr → CommandForm → Type 0
Begins e f = SaysExpr (λ x. says.Opens (opening.Switch x)) e f

switch_node : (e : Expr) (cases : Cases) (other : Otherwise) (span : Span) (c : Command) (ds : List Command)
    (ns : List ℕ) → Begins e c.form → Within (Both (CasesAre cases) (SwitchEnd other)) ds ns
    → NodeIs (Switch e cases other span) (c ∷ ds) (0 ∷ ns)
switch_node e cases _ span c _ _ s (Within.within_ _ _ (Both.both_ cs _ ks _ p (EndIs.ends_ z h))) = record {
  own = node_of (form.Switch s.expr p.own None) (joined c.span z.span);
  spells = SpellsNode.switch_ c z [] cs [] ks s.expr p.own s.is SpellsWhite.none_ (spells_cases cs ks p.own p.rows) h;
  alike = ap node_without_spans (view-Switch s.expr p.own (joined c.span z.span))
      ∙ same_switch (expr_without_spans (view_expr s.expr)) (expr_without_spans e)
      (cases_without_spans (view_cases p.own)) (cases_without_spans cases) tree.no_otherwise tree.no_otherwise s.alike
      p.alike refl;
}
switch_node e cases _ span c _ _ s
    (Within.within_ _ _ (Both.both_ cs _ ks _ p (EndIs.goes_on_ d z body ds ns g q h))) = record {
      own = node_of (form.Switch s.expr p.own (Some q.own)) (joined c.span z.span);
      spells = SpellsNode.switch_default_ c d z [] cs ds [] ks ns s.expr p.own q.own s.is SpellsWhite.none_
          (spells_cases cs ks p.own p.rows) g q.spells h;
      alike = ap node_without_spans (view-SwitchDefault s.expr p.own q.own (joined c.span z.span))
          ∙ same_switch (expr_without_spans (view_expr s.expr)) (expr_without_spans e)
          (cases_without_spans (view_cases p.own)) (cases_without_spans cases)
          (tree.otherwise (nodes_without_spans (view_nodes q.own))) (tree.otherwise (nodes_without_spans body)) s.alike
          p.alike (ap tree.otherwise q.alike);
    }

-- **A switch, by what its bodies say.**
pub switch_speaks : (b : ℕ) (e : Expr) (cases : Cases) (other : Otherwise) (span : Span) → b + 1 ≤ 64
    → is_formed_expr e ≡ true → b + expr_height e ≤ 64
    → Speaks (b + 1) (all_lexemes [] (cases_pieces cases)) (CasesAre cases) → OtherwiseSpeaks (b + 1) other
    → Speaks b (all_lexemes [] (node_pieces (Switch e cases other span))) (NodeIs (Switch e cases other span))
switch_speaks b e cases other span le f fits inner last =
    let first : List Lexeme = braced ((kind.Word, codes "switch") ∷ expr_lexemes e) in
    let end : List Piece =
    otherwise_pieces default_piece other ++ (close_piece (codes "{/switch}") (codes "switch") ∷ []) in
    same_part b (first ++ (all_lexemes [] (cases_pieces cases) ++ all_lexemes [] end))
    (all_lexemes [] (node_pieces (Switch e cases other span))) (NodeIs (Switch e cases other span))
    (from_command (cases_pieces cases ++ end) [] first
    ∙ ap (λ l. first ++ l) (before_open [] (cases_pieces cases) end (MayOpen.open_ end (end_opened (codes "{default}")
    (braced ((kind.Word, codes "default") ∷ [])) (codes "{/switch}") (braced ((kind.BeginClose, codes "switch") ∷ []))
    other))))
    (command_then b first (all_lexemes [] (cases_pieces cases) ++ all_lexemes [] end) (Begins e)
    (Within (Both (CasesAre cases) (SwitchEnd other))) (NodeIs (Switch e cases other span))
    (λ ts same. expr_command b ts (codes "switch") (λ x. says.Opens (opening.Switch x)) e (omega (arith, le)) f fits
    switch_head same)
    (inner_part b (all_lexemes [] (cases_pieces cases) ++ all_lexemes [] end) (Both (CasesAre cases) (SwitchEnd other))
    (both_parts (b + 1) (all_lexemes [] (cases_pieces cases)) (all_lexemes [] end) (CasesAre cases) (SwitchEnd other)
    inner
    (end_speaks (b + 1) (says.GoesOn middle.Default) (says.Closes block_name.Switch) (codes "{default}")
    (braced ((kind.Word, codes "default") ∷ [])) (codes "{/switch}") (braced ((kind.BeginClose, codes "switch") ∷ []))
    (bare (b + 1) (kind.Word, codes "default") (says.GoesOn middle.Default) le default_says)
    (bare (b + 1) (kind.BeginClose, codes "switch") (says.Closes block_name.Switch) le switch_closes) other last)))
    (switch_node e cases other span))
