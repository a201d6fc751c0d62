-- The number of nodes that are valued for the value of an expression.
-- `and`, `or`, `?:` and `c ? a : b` value a later operand only where its value is needed.
-- Example: `$a and $b` costs 2 where `$a` is falsy, and else 3.
use Rattle.std.specs.Prelude.{ℕ, ◌+◌, Bool, if◌then◌else◌}
use Rattle.soy_tree.specs.declared.expr.BinaryOp.{BinaryOp}
use Rattle.soy_tree.specs.declared.expr.BinaryOp.TheVariants as op
use Rattle.soy_tree.specs.Expressions.{Expr, NullLiteral, BoolLiteral, IntLiteral, StringLiteral, Variable, Member}
use Rattle.soy_tree.specs.Expressions.{Index, Minus, Not, Binary, Coalesce, Conditional}
use Rattle.soy_rules.specs.Val.{Env, val, is_truthy, is_null}

-- what the right operand costs, by the truth of the left one
abbrev pub right_cost : BinaryOp → Bool → ℕ → ℕ
right_cost op.And left n = if left then n else 0
right_cost op.Or left n = if left then 0 else n
right_cost _ left n = n

abbrev pub cost : {A : Type 0} → Expr → Env A → ℕ
cost (NullLiteral span) env = 1
cost (BoolLiteral b span) env = 1
cost (IntLiteral n span) env = 1
cost (StringLiteral text span) env = 1
cost (Variable name span) env = 1
cost (Member e name takes_null span) env = 1 + cost e env
cost (Index e i takes_null span) env = 1 + (cost e env + cost i env)
cost (Minus e span) env = 1 + cost e env
cost (Not e span) env = 1 + cost e env
cost (Binary op a b span) env = 1 + (cost a env + right_cost op (is_truthy (val a env)) (cost b env))
cost (Coalesce a b span) env = 1 + (cost a env + (if is_null (val a env) then cost b env else 0))
cost (Conditional c a b span) env = 1 + (cost c env + (if is_truthy (val c env) then cost a env else cost b env))

-- the number of all nodes of an expression
abbrev pub node_count : Expr → ℕ
node_count (Member e name takes_null span) = 1 + node_count e
node_count (Index e i takes_null span) = 1 + (node_count e + node_count i)
node_count (Minus e span) = 1 + node_count e
node_count (Not e span) = 1 + node_count e
node_count (Binary op a b span) = 1 + (node_count a + node_count b)
node_count (Coalesce a b span) = 1 + (node_count a + node_count b)
node_count (Conditional c a b span) = 1 + (node_count c + (node_count a + node_count b))
node_count _ = 1
