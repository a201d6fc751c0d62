-- The value and the cost of an expression read none of its spans, and of what blocks are bound to no more than that
-- they are blocks; nor does a condition's scope.
use Rattle.std.proofs.Common.{◌≡◌, Bool, true, false, [], ◌∷◌, bytes_eq, refl, ap, ◌∙◌}
use Rattle.std.specs.Prelude.{if◌then◌else◌}
use Rattle.soy_tree.specs.declared.expr.BinaryOp.TheVariants as op
use Rattle.soy_tree.specs.Types.{Name}
use Rattle.soy_rules.specs.Cost.{cost}
use Rattle.soy_tree.specs.Expressions.{Expr, NullLiteral, BoolLiteral, IntLiteral, StringLiteral, Variable, Member}
use Rattle.soy_tree.specs.Expressions.{Index, Minus, Not, Binary, Coalesce, Conditional}
use Rattle.soy_rules.specs.Narrowing.{narrowed, variable_narrowed}
use Rattle.soy_rules.specs.TypeOf.{Scope}
use Rattle.soy_rules.specs.Val.{Binding, BlockOf, Env, Known, binding, is_null, is_truthy, operand, val}
use Rattle.soy_format.specs.WithoutSpans.{expr_without_spans}
use Rattle.alike_files.proofs.ExpressionTypes.{null_literal_same}

-- ---- bindings whose blocks are changed by a function

abbrev pub binding_by : {A B : Type 0} → (A → B) → Binding A → Binding B
binding_by f (Known v) = Known v
binding_by f (BlockOf a) = BlockOf (f a)

abbrev pub env_by : {A B : Type 0} → (A → B) → Env A → Env B
env_by f [] = []
env_by f (v ∷ env) = (v.0, binding_by f v.1) ∷ env_by f env

-- a function of the one or the other is the one or the other of what it gives
pub through_if : {A B : Type 0} (g : A → B) (b : Bool) (x y : A)
    → (if b then g x else g y) ≡ g (if b then x else y)
through_if g true x y = refl
through_if g false x y = refl

module _ {A B : Type 0} (f : A → B) where
  pub operand_same : (b : Binding A) → operand (binding_by f b) ≡ operand b
  operand_same (Known v) = refl
  operand_same (BlockOf a) = refl

  pub truthy_same : (b : Binding A) → is_truthy (binding_by f b) ≡ is_truthy b
  truthy_same (Known v) = refl
  truthy_same (BlockOf a) = refl

  null_same : (b : Binding A) → is_null (binding_by f b) ≡ is_null b
  null_same (Known v) = refl
  null_same (BlockOf a) = refl

  pub binding_same : (name : Name) (env : Env A) → binding name (env_by f env) ≡ binding_by f (binding name env)
  binding_same name [] = refl
  binding_same name (v ∷ env) =
      rw (binding_same name env) (through_if (binding_by f) (bytes_eq v.0 name) v.1 (binding name env))

  -- **the value**
  pub value_same : (e : Expr) (env : Env A) → val (expr_without_spans e) (env_by f env) ≡ binding_by f (val e env)
  value_same (NullLiteral span) env = refl
  value_same (BoolLiteral b span) env = refl
  value_same (IntLiteral n span) env = refl
  value_same (StringLiteral text span) env = refl
  value_same (Variable name span) env = binding_same name env
  value_same (Member e name takes_null span) env = rw (value_same e env, operand_same (val e env)) refl
  value_same (Index e i takes_null span) env =
      rw (value_same e env, operand_same (val e env), value_same i env, operand_same (val i env)) refl
  value_same (Minus e span) env = rw (value_same e env, operand_same (val e env)) refl
  value_same (Not e span) env = rw (value_same e env, truthy_same (val e env)) refl
  value_same (Binary o a b span) env =
      rw (value_same a env, operand_same (val a env), value_same b env, operand_same (val b env)) refl
  value_same (Coalesce a b span) env =
      rw (value_same a env, value_same b env, null_same (val a env))
      (through_if (binding_by f) (is_null (val a env)) (val b env) (val a env))
  value_same (Conditional c a b span) env =
      rw (value_same c env, value_same a env, value_same b env, truthy_same (val c env))
      (through_if (binding_by f) (is_truthy (val c env)) (val a env) (val b env))

  -- **the number of nodes that are valued for it**
  pub cost_same : (e : Expr) (env : Env A) → cost (expr_without_spans e) (env_by f env) ≡ cost e env
  cost_same (NullLiteral span) env = refl
  cost_same (BoolLiteral b span) env = refl
  cost_same (IntLiteral n span) env = refl
  cost_same (StringLiteral text span) env = refl
  cost_same (Variable name span) env = refl
  cost_same (Member e name takes_null span) env = rw (cost_same e env) refl
  cost_same (Index e i takes_null span) env = rw (cost_same e env, cost_same i env) refl
  cost_same (Minus e span) env = rw (cost_same e env) refl
  cost_same (Not e span) env = rw (cost_same e env) refl
  cost_same (Binary o a b span) env =
      rw (cost_same a env, cost_same b env, value_same a env, truthy_same (val a env)) refl
  cost_same (Coalesce a b span) env =
      rw (cost_same a env, cost_same b env, value_same a env, null_same (val a env)) refl
  cost_same (Conditional c a b span) env =
      rw (cost_same c env, cost_same a env, cost_same b env, value_same c env, truthy_same (val c env)) refl

-- ---- conditions

variable_narrowed_same : (e : Expr) (scope : Scope)
    → variable_narrowed (expr_without_spans e) scope ≡ variable_narrowed e scope
variable_narrowed_same (NullLiteral span) scope = refl
variable_narrowed_same (BoolLiteral b span) scope = refl
variable_narrowed_same (IntLiteral n span) scope = refl
variable_narrowed_same (StringLiteral text span) scope = refl
variable_narrowed_same (Variable name span) scope = refl
variable_narrowed_same (Member e name takes_null span) scope = refl
variable_narrowed_same (Index e i takes_null span) scope = refl
variable_narrowed_same (Minus e span) scope = refl
variable_narrowed_same (Not e span) scope = refl
variable_narrowed_same (Binary o a b span) scope = refl
variable_narrowed_same (Coalesce a b span) scope = refl
variable_narrowed_same (Conditional c a b span) scope = refl

-- **the scope of the branch of a condition**
pub narrowed_same : (e : Expr) (scope : Scope) → narrowed (expr_without_spans e) scope ≡ narrowed e scope
narrowed_same (NullLiteral span) scope = refl
narrowed_same (BoolLiteral b span) scope = refl
narrowed_same (IntLiteral n span) scope = refl
narrowed_same (StringLiteral text span) scope = refl
narrowed_same (Variable name span) scope = refl
narrowed_same (Member e name takes_null span) scope = refl
narrowed_same (Index e i takes_null span) scope = refl
narrowed_same (Minus e span) scope = refl
narrowed_same (Not e span) scope = refl
narrowed_same (Binary op.Ne a b span) scope = rw (null_literal_same b, variable_narrowed_same a scope) refl
narrowed_same (Binary op.And a b span) scope =
    ap (narrowed (expr_without_spans b)) (narrowed_same a scope) ∙ narrowed_same b (narrowed a scope)
narrowed_same (Binary _ a b span) scope = refl
narrowed_same (Coalesce a b span) scope = refl
narrowed_same (Conditional c a b span) scope = refl
