-- The expression that an `Expr` of the code stands for.
use Rattle.std.specs.Prelude.{List, map}
use Rattle.soy_base.specs.declared.fault.Span.{Span}
use Rattle.soy_tree.specs.declared.expr.Expr as code
use Rattle.soy_tree.specs.declared.expr.ExprNode as code_node
use Rattle.soy_tree.specs.declared.expr.ExprNode.TheOpen.{ExprNode-F, Expr-F}
use Rattle.soy_tree.specs.Expressions.{Expr, NullLiteral, BoolLiteral, IntLiteral, StringLiteral, Variable, Member}
use Rattle.soy_tree.specs.Expressions.{Index, Minus, Not, Binary, Coalesce, Conditional}

abbrev pub expr_node_layer : ExprNode-F (Span → Expr) Expr → Span → Expr
expr_node_layer ExprNode-F.Null span = NullLiteral span
expr_node_layer (ExprNode-F.Bool b) span = BoolLiteral b span
expr_node_layer (ExprNode-F.Int n) span = IntLiteral n span
expr_node_layer (ExprNode-F.Str text) span = StringLiteral text span
expr_node_layer (ExprNode-F.Var name) span = Variable name span
expr_node_layer (ExprNode-F.Member e name takes_null) span = Member e name takes_null span
expr_node_layer (ExprNode-F.Index e i takes_null) span = Index e i takes_null span
expr_node_layer (ExprNode-F.Neg e) span = Minus e span
expr_node_layer (ExprNode-F.Not e) span = Not e span
expr_node_layer (ExprNode-F.Binary op a b) span = Binary op a b span
expr_node_layer (ExprNode-F.Coalesce a b) span = Coalesce a b span
expr_node_layer (ExprNode-F.Cond c a b) span = Conditional c a b span

abbrev pub expr_layer : Expr-F (Span → Expr) Expr → Expr
expr_layer e = e.node e.span

abbrev pub view_expr : code.Expr → Expr
view_expr = code.fold-Expr (Span → Expr) Expr expr_node_layer expr_layer

abbrev pub view_expr_node : code_node.ExprNode → Span → Expr
view_expr_node = code_node.fold-ExprNode (Span → Expr) Expr expr_node_layer expr_layer

abbrev pub view_exprs : List code.Expr → List Expr
view_exprs = map view_expr
