-- What prints, lets and loops say, as they are written.
use Rattle.std.proofs.Common.{◌≡◌, ℕ, ◌+◌, ◌≤◌, Bool, true, false, [], ◌∷◌, ◌++◌, Option, None, ap}
use Rattle.std.proofs.Common.{◌∙◌, arith, append-nil}
use Rattle.std.specs.Prelude.{codes}
use Rattle.soy_base.specs.declared.fault.Span.{Span}
use Rattle.soy_base.specs.declared.kind.Kind.{Kind}
use Rattle.soy_lexer.specs.declared.token.TokenKind.TheVariants as kind
use Rattle.soy_tree.specs.Expressions.{Expr}
use Rattle.soy_tree.specs.Formed.{is_formed_expr}
use Rattle.soy_tree.specs.Nodes.{Nodes, Print, For, Let, LetBlock, Call, no_argument}
use Rattle.soy_tree.specs.Types.{Name}
use Rattle.soy_tree.specs.ViewNodes.{view_nodes}
use Rattle.soy_tree.specs.declared.node.Form.TheVariants as form
use Rattle.expr_parser.specs.Operands.{joined}
use Rattle.soy_parser.specs.declared.command.CommandForm.TheVariants as says
use Rattle.soy_parser.specs.declared.command.Opening.TheVariants as opening
use Rattle.soy_parser.specs.declared.command.Single.TheVariants as single
use Rattle.soy_parser.specs.declared.terminal.BlockName.TheVariants as block_name
use Rattle.soy_parser.specs.Nodes.{node_of, up_to}
use Rattle.soy_parser.specs.SpellsTree.{SpellsNode}
use Rattle.soy_parser.proofs.NodeViews.{view_print}
use Rattle.soy_parser.proofs.ViewForms.{view-Call, view-For, view-Let, view-LetBlock}
use Rattle.soy_format.specs.FormattedExpression.{begins_with_variable}
use Rattle.soy_format.specs.WithoutSpans.{expr_without_spans, no_span, node_without_spans, nodes_without_spans}
use Rattle.formatted_source.specs.CommandPieces.{braced, print_word}
use Rattle.formatted_source.specs.ExprLexemes.{expr_lexemes}
use Rattle.formatted_source.specs.NodePieces.{node_pieces, nodes_pieces}
use Rattle.formatted_source.proofs.Commands.AttributeCommands.{let_block_command}
use Rattle.formatted_source.proofs.Commands.BareCommands.{for_closes, let_closes}
use Rattle.formatted_source.proofs.Commands.ExprCommands.{SaysExpr, dollar_command, expr_command, print_head}
use Rattle.formatted_source.proofs.Commands.NameCommands.{call_alone}
use Rattle.formatted_source.proofs.NodeAlike.{BodyIs, NodeIs}
use Rattle.formatted_source.proofs.NodeLexemes.{all_lexemes}
use Rattle.formatted_source.proofs.PieceParts.{bare, piece_block, piece_command}
use Rattle.formatted_source.proofs.Speaking.{IsCommandOf, Speaks}
use Rattle.formatted_source.proofs.Commands.ValueCommands.{for_command, let_command}
use Rattle.formatted_source.proofs.Fitting.WrittenHeight.{expr_height}

print_command : (b : ℕ) (dollar : Bool) (e : Expr) → is_formed_expr e ≡ true → b + expr_height e ≤ 64
    → IsCommandOf b (braced (print_word dollar ++ (expr_lexemes e ++ [])))
    (SaysExpr (λ x. says.Single (single.Print x)) e)
print_command b true e f fits ts same =
    dollar_command b ts e (omega (arith, fits)) f fits (same ∙ ap braced (append-nil (expr_lexemes e)))
print_command b false e f fits ts same =
    expr_command b ts (codes "print") (λ x. says.Single (single.Print x)) e (omega (arith, fits)) f fits print_head
    (same ∙ ap (λ l. braced ((kind.Word, codes "print") ∷ l)) (append-nil (expr_lexemes e)))

pub print_speaks : (b : ℕ) (e : Expr) (span : Span) → is_formed_expr e ≡ true → b + expr_height e ≤ 64
    → Speaks b (all_lexemes [] (node_pieces (Print e None span))) (NodeIs (Print e None span))
print_speaks b e span f fits =
    piece_command b [] _ (SaysExpr (λ x. says.Single (single.Print x)) e) (NodeIs (Print e None span))
    (print_command b (begins_with_variable e) e f fits)
    (λ c s. record {
      own = node_of (form.Print s.expr None) c.span;
      spells = SpellsNode.print_ c s.expr s.is;
      alike = ap node_without_spans (view_print s.expr None c.span) ∙ ap (λ x. Print x None no_span) s.alike;
    })

pub let_speaks : (b : ℕ) (name : Name) (e : Expr) (span : Span) → is_formed_expr e ≡ true → b + expr_height e ≤ 64
    → Speaks b (all_lexemes [] (node_pieces (Let name e span))) (NodeIs (Let name e span))
let_speaks b name e span f fits =
    piece_command b [] _ (SaysExpr (λ x. says.Single (single.Let name x)) e) (NodeIs (Let name e span))
    (λ ts same. let_command b ts name e (omega (arith, fits)) f fits same)
    (λ c s. record {
      own = node_of (form.Let name s.expr) c.span;
      spells = SpellsNode.let_ c name s.expr s.is;
      alike = ap node_without_spans (view-Let name s.expr c.span) ∙ ap (λ x. Let name x no_span) s.alike;
    })

pub call_alone_speaks : (b : ℕ) (name : Name) (all : Bool) (span : Span) → b ≤ 64
    → Speaks b (all_lexemes [] (node_pieces (Call name all no_argument span)))
    (NodeIs (Call name all no_argument span))
call_alone_speaks b name all span le =
    piece_command b [] _ (λ f. f ≡ says.Single (single.Call name all)) (NodeIs (Call name all no_argument span))
    (λ ts same. call_alone b ts name all le same)
    (λ c s. record {
      own = node_of (form.Call name all []) c.span;
      spells = SpellsNode.call_alone_ c name all s;
      alike = ap node_without_spans (view-Call name all [] c.span);
    })

same_for : (name : Name) (index : Option Name) (x y : Expr) (p q : Nodes) → x ≡ y → p ≡ q
    → For name index x p no_span ≡ For name index y q no_span
same_for name index x y p q e f = cc (e, f)

pub for_speaks : (b : ℕ) (name : Name) (index : Option Name) (e : Expr) (body : Nodes) (span : Span) → b + 1 ≤ 64
    → is_formed_expr e ≡ true → b + expr_height e ≤ 64
    → Speaks (b + 1) (all_lexemes [] (nodes_pieces body)) (BodyIs body)
    → Speaks b (all_lexemes [] (node_pieces (For name index e body span))) (NodeIs (For name index e body span))
for_speaks b name index e body span le f fits inner =
    piece_block b [] _ (nodes_pieces body) (codes "{/for}") _ (SaysExpr (λ x. says.Opens (opening.For name index x)) e) (BodyIs body)
    (λ g. g ≡ says.Closes block_name.For) (NodeIs (For name index e body span))
    (λ ts same. for_command b ts name index e (omega (arith, le)) f fits same) inner
    (bare (b + 1) (kind.BeginClose, codes "for") (says.Closes block_name.For) le for_closes)
    (λ c z cs ks s p g. record {
      own = node_of (form.For name index s.expr p.own) (joined c.span z.span);
      spells = SpellsNode.for_ c z cs ks name index s.expr p.own s.is p.spells g;
      alike = ap node_without_spans (view-For name index s.expr p.own (joined c.span z.span))
          ∙ same_for name index _ (expr_without_spans e) (nodes_without_spans (view_nodes p.own))
          (nodes_without_spans body) s.alike p.alike;
    })

pub let_block_speaks : (b : ℕ) (name : Name) (k : Kind) (body : Nodes) (span : Span) → b + 1 ≤ 64
    → Speaks (b + 1) (all_lexemes [] (nodes_pieces body)) (BodyIs body)
    → Speaks b (all_lexemes [] (node_pieces (LetBlock name k body span))) (NodeIs (LetBlock name k body span))
let_block_speaks b name k body span le inner =
    piece_block b [] _ (nodes_pieces body) (codes "{/let}") _ (λ f. f ≡ says.Opens (opening.Let name k)) (BodyIs body)
    (λ g. g ≡ says.Closes block_name.Let) (NodeIs (LetBlock name k body span))
    (λ ts same. let_block_command b ts name k (omega (arith, le)) same) inner
    (bare (b + 1) (kind.BeginClose, codes "let") (says.Closes block_name.Let) le let_closes)
    (λ c z cs ks s p g. record {
      own = node_of (form.LetBlock name k p.own) (up_to c.span z.span);
      spells = SpellsNode.let_block_ c z cs ks name k p.own s p.spells g;
      alike = ap node_without_spans (view-LetBlock name k p.own (up_to c.span z.span))
          ∙ ap (λ l. LetBlock name k l no_span) p.alike;
    })
