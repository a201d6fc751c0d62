-- What an if says, as it is written, by what its bodies say.
use Rattle.std.proofs.Common.{◌≡◌, ℕ, ◌+◌, ◌≤◌, true, false, List, [], ◌∷◌, ◌++◌, Some, None, refl, ap, ◌∙◌, arith}
use Rattle.std.specs.Prelude.{codes}
use Rattle.soy_base.specs.declared.fault.Span.{Span}
use Rattle.soy_lexer.specs.declared.token.TokenKind.TheVariants as kind
use Rattle.soy_tree.specs.Expressions.{Expr}
use Rattle.soy_tree.specs.Formed.{is_formed_expr}
use Rattle.soy_tree.specs.Nodes as tree
use Rattle.soy_tree.specs.Nodes.{Nodes, Arms, Otherwise, If, no_arm, arm}
use Rattle.soy_tree.specs.ViewExpressions.{view_expr}
use Rattle.soy_tree.specs.ViewNodes.{view_arms, view_nodes}
use Rattle.soy_tree.specs.declared.expr.Expr as code_expr
use Rattle.soy_tree.specs.declared.node.Arm.{Arm}
use Rattle.soy_tree.specs.declared.node.Form.TheVariants as form
use Rattle.soy_tree.specs.declared.node.Node as code
use Rattle.expr_parser.specs.Operands.{joined}
use Rattle.soy_parser.specs.declared.command.Command.{Command}
use Rattle.soy_parser.specs.declared.command.CommandForm.{CommandForm}
use Rattle.soy_parser.specs.declared.command.CommandForm.TheVariants as says
use Rattle.soy_parser.specs.declared.command.Middle.TheVariants as middle
use Rattle.soy_parser.specs.declared.command.Opening.TheVariants as opening
use Rattle.soy_parser.specs.declared.terminal.BlockName.TheVariants as block_name
use Rattle.soy_parser.specs.Depth.{inside_blocks}
use Rattle.soy_parser.specs.Nodes.{arm_of, node_of}
use Rattle.soy_parser.specs.SpellsTree.{SpellsArms, SpellsBody, SpellsNode}
use Rattle.soy_parser.proofs.ViewForms.{view-If, view-IfElse, view-arm}
use Rattle.soy_format.specs.WithoutSpans.{arms_without_spans, expr_without_spans, no_span, node_without_spans}
use Rattle.soy_format.specs.WithoutSpans.{nodes_without_spans}
use Rattle.formatted_source.specs.CommandPieces.{braced, close_piece}
use Rattle.formatted_source.specs.ExprLexemes.{expr_lexemes}
use Rattle.formatted_source.specs.NodePieces.{arms_pieces, else_piece, node_pieces, nodes_pieces, otherwise_pieces}
use Rattle.formatted_source.specs.Pieces.{Piece}
use Rattle.formatted_source.proofs.Commands.BareCommands.{else_says, if_closes}
use Rattle.formatted_source.proofs.BlockEnds.{EndIs, OtherwiseSpeaks, end_opened, end_speaks}
use Rattle.formatted_source.proofs.Commands.CommandRows.{Rows, gathered}
use Rattle.formatted_source.proofs.EdgedNodes.{Opened}
use Rattle.formatted_source.proofs.Commands.ExprCommands.{SaysExpr, elseif_head, expr_command, if_head}
use Rattle.formatted_source.proofs.LineLexemes.{MayOpen, before_open, row_pieces}
use Rattle.formatted_source.proofs.NodeAlike.{BodyIs, NodeIs}
use Rattle.formatted_source.proofs.NodeLexemes.{all_lexemes}
use Rattle.formatted_source.proofs.PieceParts.{bare}
use Rattle.formatted_source.proofs.Speaking.{Headed, Speaks, Within, headed_part, inner_part, no_part, same_part}
use Rattle.formatted_source.proofs.Speaking.{two_parts}
use Rattle.formatted_source.proofs.Fitting.WrittenHeight.{expr_height}

-- an arm after the first
pub data OneArm : List Command → List ℕ → Arm → Type 0 where
  arm_ : (c : Command) (cs : List Command) (ks : List ℕ) (e : code_expr.Expr) (body : List code.Node)
      → c.form ≡ says.GoesOn (middle.ElseIf e) → SpellsBody cs ks body
      → OneArm (c ∷ cs) (inside_blocks 1 (0 ∷ ks)) (arm_of e body)

pub record MoreArms (arms : Arms) (cs : List Command) (ks : List ℕ) : Type 0 where
  pub own : List Arm
  pub rows : Rows Arm OneArm cs ks own
  pub alike : arms_without_spans (view_arms own) ≡ arms_without_spans arms

arms_open : (arms : Arms) → MayOpen (arms_pieces false arms)
arms_open no_arm = MayOpen.empty_
arms_open (arm e body arms) = MayOpen.open_ _ (Opened.opened_ _ _ _)

-- an arm that is alike, before others
same_arm : (x : code_expr.Expr) (own : List code.Node) (e : Expr) (body : Nodes) (more : List Arm) (arms : Arms)
    → expr_without_spans (view_expr x) ≡ expr_without_spans e
    → nodes_without_spans (view_nodes own) ≡ nodes_without_spans body
    → arms_without_spans (view_arms more) ≡ arms_without_spans arms
    → arms_without_spans (view_arms (arm_of x own ∷ more)) ≡ arms_without_spans (arm e body arms)
same_arm x own e body more arms f g h =
    ap (λ (p : Expr × Nodes). arm (expr_without_spans p.0) (nodes_without_spans p.1)
    (arms_without_spans (view_arms more))) (view-arm x own)
    ∙ over (expr_without_spans (view_expr x)) (expr_without_spans e) (nodes_without_spans (view_nodes own))
    (nodes_without_spans body) (arms_without_spans (view_arms more)) (arms_without_spans arms) f g h
  where
    over : (p q : Expr) (r s : Nodes) (t u : Arms) → p ≡ q → r ≡ s → t ≡ u → arm p r t ≡ arm q s u
    over p q r s t u f g h = cc (f, g, h)

pub no_arms_speak : (b : ℕ) → Speaks b (all_lexemes [] (arms_pieces false no_arm)) (MoreArms no_arm)
no_arms_speak b = no_part b (MoreArms no_arm) (record { own = []; rows = Rows.no_row_; alike = refl })

abbrev ElseIf : Expr → CommandForm → Type 0
ElseIf e f = SaysExpr (λ x. says.GoesOn (middle.ElseIf x)) e f

pub arms_speak : (b : ℕ) (e : Expr) (body : Nodes) (arms : Arms) → b + 1 ≤ 64 → is_formed_expr e ≡ true
    → (b + 1) + expr_height e ≤ 64 → Speaks (b + 1) (all_lexemes [] (nodes_pieces body)) (BodyIs body)
    → Speaks b (all_lexemes [] (arms_pieces false arms)) (MoreArms arms)
    → Speaks b (all_lexemes [] (arms_pieces false (arm e body arms))) (MoreArms (arm e body arms))
arms_speak b e body arms le f fits inner more =
    same_part b
    ((braced ((kind.Word, codes "elseif") ∷ expr_lexemes e) ++ all_lexemes [] (nodes_pieces body))
    ++ all_lexemes [] (arms_pieces false arms))
    (all_lexemes [] (arms_pieces false (arm e body arms))) (MoreArms (arm e body arms))
    (row_pieces [] (braced ((kind.Word, codes "elseif") ∷ expr_lexemes e)) (nodes_pieces body) (arms_pieces false arms)
    (arms_open arms))
    (two_parts b (braced ((kind.Word, codes "elseif") ∷ expr_lexemes e) ++ all_lexemes [] (nodes_pieces body))
    (all_lexemes [] (arms_pieces false arms)) (Within (Headed (ElseIf e) (BodyIs body))) (MoreArms arms)
    (MoreArms (arm e body arms))
    (inner_part b (braced ((kind.Word, codes "elseif") ∷ expr_lexemes e) ++ all_lexemes [] (nodes_pieces body))
    (Headed (ElseIf e) (BodyIs body))
    (headed_part (b + 1) (braced ((kind.Word, codes "elseif") ∷ expr_lexemes e)) (all_lexemes [] (nodes_pieces body))
    (ElseIf e) (BodyIs body)
    (λ ts same. expr_command (b + 1) ts (codes "elseif") (λ x. says.GoesOn (middle.ElseIf x)) e le f fits elseif_head
    same) inner)) more over)
  where
    over : (cs ds : List Command) (ks ns : List ℕ) → Within (Headed (ElseIf e) (BodyIs body)) cs ks
        → MoreArms arms ds ns → MoreArms (arm e body arms) (cs ++ ds) (ks ++ ns)
    over _ ds _ ns (Within.within_ _ _ (Headed.headed_ c cs ks s p)) r = record {
      own = arm_of s.expr p.own ∷ r.own;
      rows = Rows.row_ (c ∷ cs) ds (inside_blocks 1 (0 ∷ ks)) ns (arm_of s.expr p.own) r.own
          (OneArm.arm_ c cs ks s.expr p.own s.is p.spells) r.rows;
      alike = same_arm s.expr p.own e body r.own arms s.alike p.alike r.alike;
    }

-- all arms
pub record ArmsAre (arms : Arms) (cs : List Command) (ks : List ℕ) : Type 0 where
  pub own : List Arm
  pub start : Span
  pub spells : SpellsArms cs ks own start
  pub alike : arms_without_spans (view_arms own) ≡ arms_without_spans arms

abbrev Begins : Expr → CommandForm → Type 0
Begins e f = SaysExpr (λ x. says.Opens (opening.If x)) e f

one_more : (start : Span) (cs ds : List Command) (ks ns : List ℕ) (done : List Arm) (a : Arm)
    → SpellsArms cs ks done start → OneArm ds ns a → SpellsArms (cs ++ ds) (ks ++ ns) (done ++ (a ∷ [])) start
one_more start cs _ ks _ done _ s (OneArm.arm_ c ds ns e body h r) =
    SpellsArms.next_arm_ cs ds ks ns done start c e body s h r

first_and_more : (e : Expr) (body : Nodes) (arms : Arms) (cs ds : List Command) (ks ns : List ℕ)
    → Headed (Begins e) (Within (BodyIs body)) cs ks → MoreArms arms ds ns
    → ArmsAre (arm e body arms) (cs ++ ds) (ks ++ ns)
first_and_more e body arms _ ds _ ns (Headed.headed_ c _ _ s (Within.within_ cs ks p)) r = record {
  own = arm_of s.expr p.own ∷ r.own;
  start = c.span;
  spells = gathered Arm OneArm (λ cs ks done. SpellsArms cs ks done c.span) (one_more c.span) (c ∷ cs) ds
      (0 ∷ inside_blocks 1 ks) ns (arm_of s.expr p.own ∷ []) r.own
      (SpellsArms.first_arm_ c cs ks s.expr p.own s.is p.spells) r.rows;
  alike = same_arm s.expr p.own e body r.own arms s.alike p.alike r.alike;
}

same_if : (x y : Arms) (p q : Otherwise) → x ≡ y → p ≡ q → If x p no_span ≡ If y q no_span
same_if x y p q e f = cc (e, f)

abbrev IfEnd : Otherwise → List Command → List ℕ → Type 0
IfEnd other cs ks = EndIs (says.GoesOn middle.Else) (says.Closes block_name.If) other cs ks

if_node : (arms : Arms) (other : Otherwise) (span : Span) (cs ds : List Command) (ks ns : List ℕ) → ArmsAre arms cs ks
    → Within (IfEnd other) ds ns → NodeIs (If arms other span) (cs ++ ds) (ks ++ ns)
if_node arms _ span cs _ ks _ a (Within.within_ _ _ (EndIs.ends_ z h)) = record {
  own = node_of (form.If a.own None) (joined a.start z.span);
  spells = SpellsNode.if_ z cs ks a.own a.start a.spells h;
  alike = ap node_without_spans (view-If a.own (joined a.start z.span))
      ∙ ap (λ x. If x tree.no_otherwise no_span) a.alike;
}
if_node arms _ span cs _ ks _ a (Within.within_ _ _ (EndIs.goes_on_ d z body ds ns e p h)) = record {
  own = node_of (form.If a.own (Some p.own)) (joined a.start z.span);
  spells = SpellsNode.if_else_ d z cs ds ks ns a.own p.own a.start a.spells e p.spells h;
  alike = ap node_without_spans (view-IfElse a.own p.own (joined a.start z.span))
      ∙ same_if (arms_without_spans (view_arms a.own)) (arms_without_spans arms)
      (tree.otherwise (nodes_without_spans (view_nodes p.own))) (tree.otherwise (nodes_without_spans body)) a.alike
      (ap tree.otherwise p.alike);
}

-- **The arms, by what their bodies say.**
pub first_arm_speaks : (b : ℕ) (e : Expr) (body : Nodes) (arms : Arms) → b + 1 ≤ 64 → is_formed_expr e ≡ true
    → b + expr_height e ≤ 64 → Speaks (b + 1) (all_lexemes [] (nodes_pieces body)) (BodyIs body)
    → Speaks b (all_lexemes [] (arms_pieces false arms)) (MoreArms arms)
    → Speaks b (all_lexemes [] (arms_pieces true (arm e body arms))) (ArmsAre (arm e body arms))
first_arm_speaks b e body arms le f fits inner more =
    same_part b
    ((braced ((kind.Word, codes "if") ∷ expr_lexemes e) ++ all_lexemes [] (nodes_pieces body))
    ++ all_lexemes [] (arms_pieces false arms))
    (all_lexemes [] (arms_pieces true (arm e body arms))) (ArmsAre (arm e body arms))
    (row_pieces [] (braced ((kind.Word, codes "if") ∷ expr_lexemes e)) (nodes_pieces body) (arms_pieces false arms)
    (arms_open arms))
    (two_parts b (braced ((kind.Word, codes "if") ∷ expr_lexemes e) ++ all_lexemes [] (nodes_pieces body))
    (all_lexemes [] (arms_pieces false arms)) (Headed (Begins e) (Within (BodyIs body))) (MoreArms arms)
    (ArmsAre (arm e body arms))
    (headed_part b (braced ((kind.Word, codes "if") ∷ expr_lexemes e)) (all_lexemes [] (nodes_pieces body)) (Begins e)
    (Within (BodyIs body))
    (λ ts same. expr_command b ts (codes "if") (λ x. says.Opens (opening.If x)) e (omega (arith, le)) f fits if_head
    same)
    (inner_part b (all_lexemes [] (nodes_pieces body)) (BodyIs body) inner)) more (first_and_more e body arms))

-- **And the if.**
pub if_speaks : (b : ℕ) (arms : Arms) (other : Otherwise) (span : Span) → b + 1 ≤ 64
    → Speaks b (all_lexemes [] (arms_pieces true arms)) (ArmsAre arms) → OtherwiseSpeaks (b + 1) other
    → Speaks b (all_lexemes [] (node_pieces (If arms other span))) (NodeIs (If arms other span))
if_speaks b arms other span le inner last =
    let end : List Piece = otherwise_pieces else_piece other ++ (close_piece (codes "{/if}") (codes "if") ∷ []) in
    same_part b (all_lexemes [] (arms_pieces true arms) ++ all_lexemes [] end)
    (all_lexemes [] (arms_pieces true arms ++ end)) (NodeIs (If arms other span))
    (before_open [] (arms_pieces true arms) end (MayOpen.open_ end (end_opened (codes "{else}")
    (braced ((kind.Word, codes "else") ∷ [])) (codes "{/if}") (braced ((kind.BeginClose, codes "if") ∷ [])) other)))
    (two_parts b (all_lexemes [] (arms_pieces true arms)) (all_lexemes [] end) (ArmsAre arms) (Within (IfEnd other))
    (NodeIs (If arms other span)) inner
    (inner_part b (all_lexemes [] end) (IfEnd other)
    (end_speaks (b + 1) (says.GoesOn middle.Else) (says.Closes block_name.If) (codes "{else}")
    (braced ((kind.Word, codes "else") ∷ [])) (codes "{/if}") (braced ((kind.BeginClose, codes "if") ∷ []))
    (bare (b + 1) (kind.Word, codes "else") (says.GoesOn middle.Else) le else_says)
    (bare (b + 1) (kind.BeginClose, codes "if") (says.Closes block_name.If) le if_closes) other last))
    (if_node arms other span))
