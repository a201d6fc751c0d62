-- The cost of an expression is at least one, and at most the number of its nodes.
use Rattle.std.proofs.Common.{ℕ, ◌+◌, ◌<◌, ◌≤◌, Bool, true, false, arith}
use Rattle.std.specs.Prelude.{if◌then◌else◌}
use Rattle.soy_tree.specs.declared.expr.BinaryOp.{BinaryOp}
use Rattle.soy_tree.specs.declared.expr.BinaryOp.TheVariants as op
use Rattle.soy_tree.specs.Expressions.{Expr, NullLiteral, BoolLiteral, IntLiteral, StringLiteral, Variable, Member}
use Rattle.soy_tree.specs.Expressions.{Index, Minus, Not, Binary, Coalesce, Conditional}
use Rattle.soy_rules.specs.Val.{Env, val, is_truthy, is_null}
use Rattle.soy_rules.specs.Cost.{cost, right_cost, node_count}

pub if_within : (b : Bool) (m n k : ℕ) → m ≤ k → n ≤ k → (if b then m else n) ≤ k
if_within true m n k p q = p
if_within false m n k p q = q

pub right_cost-within : (op : BinaryOp) (left : Bool) (m n : ℕ) → m ≤ n → right_cost op left m ≤ n
right_cost-within op.And left m n p = if_within left m 0 n p (omega arith)
right_cost-within op.Or left m n p = if_within left 0 m n (omega arith) p
right_cost-within op.Mul left m n p = p
right_cost-within op.Rem left m n p = p
right_cost-within op.Add left m n p = p
right_cost-within op.Sub left m n p = p
right_cost-within op.Lt left m n p = p
right_cost-within op.Gt left m n p = p
right_cost-within op.Le left m n p = p
right_cost-within op.Ge left m n p = p
right_cost-within op.Eq left m n p = p
right_cost-within op.Ne left m n p = p

pub cost-within : {A : Type 0} (e : Expr) (env : Env A) → cost e env ≤ node_count e
cost-within (NullLiteral span) env = omega arith
cost-within (BoolLiteral b span) env = omega arith
cost-within (IntLiteral n span) env = omega arith
cost-within (StringLiteral text span) env = omega arith
cost-within (Variable name span) env = omega arith
cost-within (Member e name takes_null span) env = omega (arith, cost-within e env)
cost-within (Index e i takes_null span) env = omega (arith, cost-within e env, cost-within i env)
cost-within (Minus e span) env = omega (arith, cost-within e env)
cost-within (Not e span) env = omega (arith, cost-within e env)
cost-within (Binary op a b span) env =
    omega (
      arith,
      cost-within a env,
      right_cost-within op (is_truthy (val a env)) (cost b env) (node_count b)
          (cost-within b env),
    )
cost-within (Coalesce a b span) env =
    omega (
      arith,
      cost-within a env,
      if_within (is_null (val a env)) (cost b env) 0 (node_count b) (cost-within b env)
          (omega arith),
    )
cost-within (Conditional c a b span) env =
    let p : cost a env ≤ node_count a + node_count b = omega (arith, cost-within a env) in
    let q : cost b env ≤ node_count a + node_count b = omega (arith, cost-within b env) in
    omega (
      arith,
      cost-within c env,
      if_within (is_truthy (val c env)) (cost a env) (cost b env)
          (node_count a + node_count b) p q,
    )

pub cost-positive : {A : Type 0} (e : Expr) (env : Env A) → 0 < cost e env
cost-positive (NullLiteral span) env = omega arith
cost-positive (BoolLiteral b span) env = omega arith
cost-positive (IntLiteral n span) env = omega arith
cost-positive (StringLiteral text span) env = omega arith
cost-positive (Variable name span) env = omega arith
cost-positive (Member e name takes_null span) env = omega arith
cost-positive (Index e i takes_null span) env = omega arith
cost-positive (Minus e span) env = omega arith
cost-positive (Not e span) env = omega arith
cost-positive (Binary op a b span) env = omega arith
cost-positive (Coalesce a b span) env = omega arith
cost-positive (Conditional c a b span) env = omega arith
