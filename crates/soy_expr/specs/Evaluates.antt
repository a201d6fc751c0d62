-- What an evaluation answers, and how many steps it takes.
-- Where it answers Ok, the answer is the value of the expression, and the steps are its cost; where memory runs out,
-- the steps are at most that.
use Rattle.std.specs.Prelude.{◌≡◌, ℕ, ◌+◌, ◌≤◌, Bool, false, not, Result, Ok, Err}
use Rattle.soy_base.specs.declared.memory.OutOfMemory.{OutOfMemory}
use Rattle.soy_tree.specs.declared.expr.BinaryOp.{BinaryOp}
use Rattle.soy_tree.specs.declared.expr.BinaryOp.TheVariants as op
use Rattle.soy_tree.specs.Values.{Value}
use Rattle.soy_tree.specs.Expressions.{Expr}
use Rattle.soy_rules.specs.Val.{Binding, Known, Env, val, operand, binary_value, is_truthy}
use Rattle.soy_rules.specs.Cost.{cost, right_cost}
use Rattle.soy_expr.specs.declared.evaluated.Evaluated.{Evaluated}
use Rattle.soy_expr.specs.ViewEvaluated.{IsBinding}

-- where memory runs out, the steps are at most the cost
abbrev pub IsWithin : ℕ → ℕ → ℕ → Type 0
IsWithin n before after = (before ≤ after) × (after ≤ before + n)

-- this answer, with this cost
abbrev pub AnswersAtCost : {P : Type 0} → (P → Value → Type 0) → Binding (Unit {0}) → ℕ → ℕ → ℕ
    → Result (Evaluated P) OutOfMemory → Type 0
AnswersAtCost Names b n before after (Ok v) = IsBinding Names b v × (after ≡ before + n)
AnswersAtCost Names b n before after (Err e) = IsWithin n before after

abbrev pub Evaluates : {P : Type 0} → (P → Value → Type 0) → Env (Unit {0}) → Expr → ℕ → ℕ
    → Result (Evaluated P) OutOfMemory → Type 0
Evaluates Names env e before after result = AnswersAtCost Names (val e env) (cost e env) before after result

-- the same of an operator, once its left operand is valued
abbrev pub EvaluatesRight : {P : Type 0} → (P → Value → Type 0) → Env (Unit {0}) → BinaryOp → Binding (Unit {0}) → Expr
    → ℕ → ℕ → Result (Evaluated P) OutOfMemory → Type 0
EvaluatesRight Names env op left right before after result =
    AnswersAtCost Names (Known (binary_value op (operand left) (operand (val right env))))
    (right_cost op (is_truthy left) (cost right env)) before after result

-- whether the truth of the left operand settles that of the operator
abbrev pub is_settled : BinaryOp → Bool → Bool
is_settled op.And left = not left
is_settled op.Or left = left
is_settled _ left = false
