-- What a row of the grammar of expressions makes of its parts: an operand, which is the expression, the span of all
-- its tokens, and the nodes on its longest branch. Parentheses count as a node and lengthen the span, but are none of
-- the tree.
-- Example: `(1) + 2` has the span from its `(` on, and three nodes on its longest branch.
use Rattle.std.specs.Prelude.{ℕ, Bool, max}
use Rattle.soy_base.specs.declared.fault.Span.{Span}
use Rattle.soy_lexer.specs.declared.token.Token.{Token}
use Rattle.soy_tree.specs.declared.expr.BinaryOp.{BinaryOp}
use Rattle.soy_tree.specs.declared.expr.BinaryOp.TheVariants as binary
use Rattle.soy_tree.specs.declared.expr.Expr.{Expr}
use Rattle.soy_tree.specs.declared.expr.ExprNode.{ExprNode}
use Rattle.soy_tree.specs.declared.expr.ExprNode.TheVariants as node
use Rattle.expr_parser.specs.declared.operand.Operand.{Operand}
use Rattle.expr_parser.specs.Depths.{deeper}

abbrev pub joined : Span → Span → Span
joined a b = record { start = a.start; end = b.end }

abbrev pub expr_of : ExprNode → Span → Expr
expr_of node span = record { node = node; span = span }

abbrev pub made : ExprNode → Span → ℕ → Operand
made node span height = record { span = span; height = height; expr = expr_of node span }

abbrev pub atom : ExprNode → Token → Operand
atom node token = made node token.span (deeper 0 0)

abbrev pub negated : Span → Operand → Operand
negated span x = made (node.Neg x.expr) (joined span x.span) (deeper 0 x.height)

abbrev pub inverted : Span → Operand → Operand
inverted span x = made (node.Not x.expr) (joined span x.span) (deeper 0 x.height)

abbrev pub combined : BinaryOp → Operand → Operand → Operand
combined op a b = made (node.Binary op a.expr b.expr) (joined a.span b.span) (deeper a.height b.height)

abbrev pub coalesced : Operand → Operand → Operand
coalesced a b = made (node.Coalesce a.expr b.expr) (joined a.span b.span) (deeper a.height b.height)

abbrev pub conditional : Operand → Operand → Operand → Operand
conditional c a b = made (node.Cond c.expr a.expr b.expr) (joined c.span b.span)
    (deeper (max c.height a.height) b.height)

abbrev pub member : Operand → Bool → Token → Operand
member x takes_null name = made (node.Member x.expr name.text takes_null) (joined x.span name.span) (deeper x.height 0)

abbrev pub indexed : Operand → Bool → Operand → Span → Operand
indexed x takes_null i close = made (node.Index x.expr i.expr takes_null) (joined x.span close)
    (deeper x.height i.height)

abbrev pub in_parens : Span → Operand → Span → Operand
in_parens opening x close = record { span = joined opening close; height = deeper 0 x.height; expr = x.expr }

abbrev pub level_of : BinaryOp → ℕ
level_of binary.Mul = 3
level_of binary.Rem = 3
level_of binary.Add = 4
level_of binary.Sub = 4
level_of binary.Lt = 5
level_of binary.Gt = 5
level_of binary.Le = 5
level_of binary.Ge = 5
level_of binary.Eq = 6
level_of binary.Ne = 6
level_of binary.And = 7
level_of binary.Or = 8
