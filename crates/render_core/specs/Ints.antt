-- Ints that are found where they stand, and comparisons with them.
use Rattle.std.specs.Prelude.{◌≡◌, ℕ, ℤ, ◌+◌, Bool, true, false, Option, Some, None}
use Rattle.soy_rules.specs.Cost.{cost, right_cost}
use Rattle.soy_rules.specs.Val.{binary_value, is_truthy, operand, truth, val}
use Rattle.soy_tree.specs.Expressions.{Expr, IntLiteral}
use Rattle.soy_tree.specs.Values.{IntValue}
use Rattle.soy_tree.specs.declared.expr.BinaryOp.{BinaryOp}
use Rattle.soy_tree.specs.declared.expr.BinaryOp.TheVariants as op
use Rattle.soy_pieces.specs.Giving.{RunEnv}

-- an int that an expression is, at this cost
abbrev pub HasInt : Expr → RunEnv → ℕ → ℕ → Option ℤ → Type 0
HasInt e env before after None = after ≡ before
HasInt e env before after (Some n) = (operand (val e env) ≡ IntValue n) × (after ≡ before + cost e env)

-- the int that a literal is
abbrev pub literal_int : Expr → Option ℤ
literal_int (IntLiteral n span) = Some n
literal_int _ = None

abbrev pub is_comparison : BinaryOp → Bool
is_comparison op.Lt = true
is_comparison op.Gt = true
is_comparison op.Le = true
is_comparison op.Ge = true
is_comparison op.Eq = true
is_comparison op.Ne = true
is_comparison _ = false

-- whether an operator of two operands is truthy, at the cost of it
abbrev pub Compares : BinaryOp → Expr → Expr → RunEnv → ℕ → ℕ → Option Bool → Type 0
Compares op a b env before after None = after ≡ before
Compares op a b env before after (Some t) =
    (t ≡ truth (binary_value op (operand (val a env)) (operand (val b env))))
    × (after ≡ before + (1 + (cost a env + right_cost op (is_truthy (val a env)) (cost b env))))
