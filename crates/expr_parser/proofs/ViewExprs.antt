-- What the trees of the code stand for, node by node.
use Rattle.std.proofs.Common.{◌≡◌, ℕ, ℤ, Bool, List, refl, ap, ◌∙◌}
use Rattle.soy_base.specs.declared.fault.Span.{Span}
use Rattle.soy_tree.specs.declared.expr.BinaryOp.{BinaryOp}
use Rattle.soy_tree.specs.declared.expr.Expr as code
use Rattle.soy_tree.specs.declared.expr.ExprNode as code_node
use Rattle.soy_tree.specs.declared.expr.ExprNode.{ExprNode}
use Rattle.soy_tree.specs.declared.expr.ExprNode.TheOpen.{ExprNode-F}
use Rattle.soy_tree.specs.declared.expr.ExprNode.TheVariants as node
use Rattle.soy_tree.specs.Expressions.{Expr, NullLiteral, BoolLiteral, IntLiteral, StringLiteral, Variable, Member}
use Rattle.soy_tree.specs.Expressions.{Index, Minus, Not, Binary, Coalesce, Conditional, span_of}
use Rattle.soy_tree.specs.ViewExpressions.{view_expr, view_expr_node, expr_node_layer, expr_layer}
use Rattle.expr_parser.specs.Operands.{expr_of}

-- an expression stands for what its node stands for over its span
view : (n : ExprNode) (s : Span) → view_expr (expr_of n s) ≡ view_expr_node n s
view n s = code.fold_out-Expr (Span → Expr) Expr expr_node_layer expr_layer (expr_of n s)

-- and so it stands for the layer that the node is made of
view_layer : (n : ExprNode) (o : ExprNode-F ExprNode code.Expr) → code_node.out-ExprNode n ≡ o → (s : Span) →
    view_expr (expr_of n s) ≡ expr_node_layer (code_node.map-ExprNode ExprNode code.Expr (Span → Expr) Expr
    view_expr_node view_expr o) s
view_layer n o e s =
    view n s
    ∙ (ap (λ (f : Span → Expr). f s) (code_node.fold_out-ExprNode (Span → Expr) Expr expr_node_layer expr_layer n)
    ∙ ap (λ p. expr_node_layer (code_node.map-ExprNode ExprNode code.Expr (Span → Expr) Expr view_expr_node view_expr
    p) s) e)

pub view-Null : (s : Span) → view_expr (expr_of node.Null s) ≡ NullLiteral s
view-Null s = view_layer node.Null ExprNode-F.Null node.outs-Null s

pub view-Bool : (b : Bool) (s : Span) → view_expr (expr_of (node.Bool b) s) ≡ BoolLiteral b s
view-Bool b s = view_layer (node.Bool b) (ExprNode-F.Bool b) (node.outs-Bool b) s

pub view-Int : (n : ℤ) (s : Span) → view_expr (expr_of (node.Int n) s) ≡ IntLiteral n s
view-Int n s = view_layer (node.Int n) (ExprNode-F.Int n) (node.outs-Int n) s

pub view-Str : (text : List ℕ) (s : Span) → view_expr (expr_of (node.Str text) s) ≡ StringLiteral text s
view-Str text s = view_layer (node.Str text) (ExprNode-F.Str text) (node.outs-Str text) s

pub view-Var : (name : List ℕ) (s : Span) → view_expr (expr_of (node.Var name) s) ≡ Variable name s
view-Var name s = view_layer (node.Var name) (ExprNode-F.Var name) (node.outs-Var name) s

pub view-Member : (e : code.Expr) (name : List ℕ) (takes_null : Bool) (s : Span) →
    view_expr (expr_of (node.Member e name takes_null) s) ≡ Member (view_expr e) name takes_null s
view-Member e name takes_null s = view_layer (node.Member e name takes_null) (ExprNode-F.Member e name takes_null)
    (node.outs-Member e name takes_null) s

pub view-Index : (e : code.Expr) (i : code.Expr) (takes_null : Bool) (s : Span) →
    view_expr (expr_of (node.Index e i takes_null) s) ≡ Index (view_expr e) (view_expr i) takes_null s
view-Index e i takes_null s = view_layer (node.Index e i takes_null) (ExprNode-F.Index e i takes_null)
    (node.outs-Index e i takes_null) s

pub view-Neg : (e : code.Expr) (s : Span) → view_expr (expr_of (node.Neg e) s) ≡ Minus (view_expr e) s
view-Neg e s = view_layer (node.Neg e) (ExprNode-F.Neg e) (node.outs-Neg e) s

pub view-Not : (e : code.Expr) (s : Span) → view_expr (expr_of (node.Not e) s) ≡ Not (view_expr e) s
view-Not e s = view_layer (node.Not e) (ExprNode-F.Not e) (node.outs-Not e) s

pub view-Binary : (op : BinaryOp) (a : code.Expr) (b : code.Expr) (s : Span) →
    view_expr (expr_of (node.Binary op a b) s) ≡ Binary op (view_expr a) (view_expr b) s
view-Binary op a b s = view_layer (node.Binary op a b) (ExprNode-F.Binary op a b) (node.outs-Binary op a b) s

pub view-Coalesce : (a : code.Expr) (b : code.Expr) (s : Span) →
    view_expr (expr_of (node.Coalesce a b) s) ≡ Coalesce (view_expr a) (view_expr b) s
view-Coalesce a b s = view_layer (node.Coalesce a b) (ExprNode-F.Coalesce a b) (node.outs-Coalesce a b) s

pub view-Cond : (c : code.Expr) (a : code.Expr) (b : code.Expr) (s : Span) →
    view_expr (expr_of (node.Cond c a b) s) ≡ Conditional (view_expr c) (view_expr a) (view_expr b) s
view-Cond c a b s = view_layer (node.Cond c a b) (ExprNode-F.Cond c a b) (node.outs-Cond c a b) s

-- a layer stands over its span
layer_span : (o : ExprNode-F (Span → Expr) Expr) (s : Span) → span_of (expr_node_layer o s) ≡ s
layer_span ExprNode-F.Null s = refl
layer_span (ExprNode-F.Bool b) s = refl
layer_span (ExprNode-F.Int n) s = refl
layer_span (ExprNode-F.Str text) s = refl
layer_span (ExprNode-F.Var name) s = refl
layer_span (ExprNode-F.Member e name takes_null) s = refl
layer_span (ExprNode-F.Index e i takes_null) s = refl
layer_span (ExprNode-F.Neg e) s = refl
layer_span (ExprNode-F.Not e) s = refl
layer_span (ExprNode-F.Binary op a b) s = refl
layer_span (ExprNode-F.Coalesce a b) s = refl
layer_span (ExprNode-F.Cond c a b) s = refl

-- the span is that of the expression
pub span_of-made : (n : ExprNode) (s : Span) → span_of (view_expr (expr_of n s)) ≡ s
span_of-made n s =
    ap span_of (view n s ∙ ap (λ (f : Span → Expr). f s) (code_node.fold_out-ExprNode (Span → Expr) Expr
    expr_node_layer expr_layer n))
    ∙ layer_span _ s
