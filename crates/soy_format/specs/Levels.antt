-- The level of an expression: that of its operator or access in the table of operators, and 0 for an atom.
-- The levels are, tightest first: 1 the accesses `.x` and `[e]`; 2 `-` and `not` before an operand; 3 `*` and `%`; 4
-- `+` and `-`; 5 `<`, `>`, `<=` and `>=`; 6 `==` and `!=`; 7 `and`; 8 `or`; 9 `?:` and `c ? a : b`.
-- Example: `$a.b` is of level 1, and `$a.b + 1` of level 4.
use Rattle.std.specs.Prelude.{ℕ}
use Rattle.soy_tree.specs.declared.expr.BinaryOp.{BinaryOp}
use Rattle.soy_tree.specs.declared.expr.BinaryOp.TheVariants as op
use Rattle.soy_tree.specs.Expressions.{Expr, Member, Index, Minus, Not, Binary, Coalesce, Conditional}

abbrev pub level_of_op : BinaryOp → ℕ
level_of_op op.Mul = 3
level_of_op op.Rem = 3
level_of_op op.Add = 4
level_of_op op.Sub = 4
level_of_op op.Lt = 5
level_of_op op.Gt = 5
level_of_op op.Le = 5
level_of_op op.Ge = 5
level_of_op op.Eq = 6
level_of_op op.Ne = 6
level_of_op op.And = 7
level_of_op op.Or = 8

abbrev pub level_of : Expr → ℕ
level_of (Member e name takes_null span) = 1
level_of (Index e i takes_null span) = 1
level_of (Minus e span) = 2
level_of (Not e span) = 2
level_of (Binary o a b span) = level_of_op o
level_of (Coalesce a b span) = 9
level_of (Conditional c a b span) = 9
level_of _ = 0
