-- Whether two expressions are the same tree, spans aside.
-- Example: the two prints of `{$a.b}{$a .b}` have the same expression.
use Rattle.std.specs.Prelude.{ℕ, Bool, true, false, ◌&&◌, ◌==◌, bytes_eq}
use Rattle.soy_tree.specs.declared.expr.BinaryOp.{BinaryOp}
use Rattle.soy_tree.specs.declared.expr.BinaryOp.TheVariants as op
use Rattle.soy_tree.specs.Expressions.{Expr, NullLiteral, BoolLiteral, IntLiteral, StringLiteral, Variable, Member}
use Rattle.soy_tree.specs.Expressions.{Index, Minus, Not, Binary, Coalesce, Conditional}
use Rattle.soy_rules.specs.Val.{is_same_bool, is_same_int}

abbrev pub op_number : BinaryOp → ℕ
op_number op.Mul = 0
op_number op.Rem = 1
op_number op.Add = 2
op_number op.Sub = 3
op_number op.Lt = 4
op_number op.Gt = 5
op_number op.Le = 6
op_number op.Ge = 7
op_number op.Eq = 8
op_number op.Ne = 9
op_number op.And = 10
op_number op.Or = 11

abbrev pub is_same_op : BinaryOp → BinaryOp → Bool
is_same_op a b = op_number a == op_number b

abbrev pub is_same_expr : Expr → Expr → Bool
is_same_expr (NullLiteral s) (NullLiteral t) = true
is_same_expr (BoolLiteral a s) (BoolLiteral b t) = is_same_bool a b
is_same_expr (IntLiteral m s) (IntLiteral n t) = is_same_int m n
is_same_expr (StringLiteral a s) (StringLiteral b t) = bytes_eq a b
is_same_expr (Variable x s) (Variable y t) = bytes_eq x y
is_same_expr (Member a x p s) (Member b y q t) = is_same_expr a b && bytes_eq x y && is_same_bool p q
is_same_expr (Index a i p s) (Index b j q t) = is_same_expr a b && is_same_expr i j && is_same_bool p q
is_same_expr (Minus a s) (Minus b t) = is_same_expr a b
is_same_expr (Not a s) (Not b t) = is_same_expr a b
is_same_expr (Binary f a c s) (Binary g b d t) = is_same_op f g && is_same_expr a b && is_same_expr c d
is_same_expr (Coalesce a c s) (Coalesce b d t) = is_same_expr a b && is_same_expr c d
is_same_expr (Conditional a c e s) (Conditional b d f t) = is_same_expr a b && is_same_expr c d && is_same_expr e f
is_same_expr _ _ = false
