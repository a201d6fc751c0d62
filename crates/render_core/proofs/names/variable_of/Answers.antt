use Rattle.std.proofs.Common.{◌≡◌, ℕ, List, ap, sym, ◌∙◌}
use Rattle.soy_base.specs.declared.fault.Span.{Span}
use Rattle.soy_tree.specs.declared.expr.Expr as code
use Rattle.soy_tree.specs.declared.expr.ExprNode as code_node
use Rattle.soy_tree.specs.declared.expr.ExprNode.{ExprNode}
use Rattle.soy_tree.specs.declared.expr.ExprNode.TheVariants as node
use Rattle.soy_tree.specs.Expressions.{Expr, Variable}
use Rattle.soy_tree.specs.ViewExpressions.{expr_layer, expr_node_layer, view_expr, view_expr_node}
use Rattle.render_core.proofs.names.variable_of.Goals as goal

-- an expression whose node is a variable stands for it
variable_seen : (e : code.Expr) (name : List ℕ) → e.node ≡ node.Var name → view_expr e ≡ Variable name e.span
variable_seen e name is =
    code.fold_out-Expr (Span → Expr) Expr expr_node_layer expr_layer e
    ∙ (ap (λ (n : ExprNode). view_expr_node n e.span) is
    ∙ (ap (λ (f : Span → Expr). f e.span)
    (code_node.fold_out-ExprNode (Span → Expr) Expr expr_node_layer expr_layer (node.Var name))
    ∙ ap (λ p. expr_node_layer (code_node.map-ExprNode ExprNode code.Expr (Span → Expr) Expr view_expr_node view_expr
    p) e.span) (node.outs-Var name)))

pub returns-in-Var : goal.returns-in-Var
returns-in-Var c = (c.args.expr.now.span, variable_seen c.args.expr.now c.in-Var.name (sym c.get.ensures ∙ c.in-Var.is))
