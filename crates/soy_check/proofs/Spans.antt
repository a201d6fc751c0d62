-- The span of an expression is that of the expression that it stands for.
use Rattle.std.specs.Prelude.{◌≡◌}
use mathlib.Core.Path.{refl, ap, ◌∙◌}
use Rattle.soy_base.specs.declared.fault.Span.{Span}
use Rattle.soy_tree.specs.declared.expr.Expr as code
use Rattle.soy_tree.specs.declared.expr.ExprNode as code_node
use Rattle.soy_tree.specs.declared.expr.ExprNode.TheOpen.{ExprNode-F}
use Rattle.soy_tree.specs.Expressions.{Expr, span_of}
use Rattle.soy_tree.specs.ViewExpressions.{expr_layer, expr_node_layer, view_expr}

span_of-layer : (n : ExprNode-F (Span → Expr) Expr) (span : Span) → span_of (expr_node_layer n span) ≡ span
span_of-layer ExprNode-F.Null span = refl
span_of-layer (ExprNode-F.Bool b) span = refl
span_of-layer (ExprNode-F.Int n) span = refl
span_of-layer (ExprNode-F.Str text) span = refl
span_of-layer (ExprNode-F.Var name) span = refl
span_of-layer (ExprNode-F.Member e name takes_null) span = refl
span_of-layer (ExprNode-F.Index e i takes_null) span = refl
span_of-layer (ExprNode-F.Neg e) span = refl
span_of-layer (ExprNode-F.Not e) span = refl
span_of-layer (ExprNode-F.Binary op a b) span = refl
span_of-layer (ExprNode-F.Coalesce a b) span = refl
span_of-layer (ExprNode-F.Cond c a b) span = refl

pub span_of_view : (e : code.Expr) → span_of (view_expr e) ≡ e.span
span_of_view e =
    ap span_of (code.fold_out-Expr (Span → Expr) Expr expr_node_layer expr_layer e)
    ∙ (ap (λ (f : Span → Expr). span_of (f e.span))
    (code_node.fold_out-ExprNode (Span → Expr) Expr expr_node_layer expr_layer e.node) ∙ span_of-layer _ e.span)
