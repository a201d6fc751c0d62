-- Values and costs where blocks are forgotten.
use Rattle.std.proofs.Common.{◌≡◌, ℕ, ◌+◌, Bool, true, false, not, [], ◌∷◌}
use Rattle.std.specs.Prelude.{if◌then◌else◌, bytes_eq}
use mathlib.Core.Path.{refl, ap, ◌∙◌}
use Rattle.soy_tree.specs.Types.{Name}
use Rattle.soy_tree.specs.Values.{Value, BoolValue}
use Rattle.soy_tree.specs.Expressions.{Expr, NullLiteral, BoolLiteral, IntLiteral, StringLiteral, Variable, Member}
use Rattle.soy_tree.specs.Expressions.{Index, Minus, Not, Binary, Coalesce, Conditional}
use Rattle.soy_rules.specs.Val.{Binding, Known, BlockOf, Env, binding, val, operand, is_truthy, is_null, member_value}
use Rattle.soy_rules.specs.Val.{index_value, negated, binary_value}
use Rattle.soy_rules.specs.Cost.{cost, right_cost}
use Rattle.soy_expr.specs.ForgottenBlocks.{forgotten, forgotten_env}

forgotten_operand : {A : Type 0} (b : Binding A) → operand (forgotten b) ≡ operand b
forgotten_operand (Known v) = refl
forgotten_operand (BlockOf a) = refl

forgotten_truth : {A : Type 0} (b : Binding A) → is_truthy (forgotten b) ≡ is_truthy b
forgotten_truth (Known v) = refl
forgotten_truth (BlockOf a) = refl

forgotten_null : {A : Type 0} (b : Binding A) → is_null (forgotten b) ≡ is_null b
forgotten_null (Known v) = refl
forgotten_null (BlockOf a) = refl

forgotten_if : {A : Type 0} (t : Bool) (x y : Binding A)
    → (if t then forgotten x else forgotten y) ≡ forgotten (if t then x else y)
forgotten_if true x y = refl
forgotten_if false x y = refl

forgotten_binding : {A : Type 0} (name : Name) (env : Env A)
    → binding name (forgotten_env env) ≡ forgotten (binding name env)
forgotten_binding name [] = refl
forgotten_binding name (v ∷ env) =
    ap (λ (b : Binding (Unit {0})). if bytes_eq v.0 name then forgotten v.1 else b)
    (forgotten_binding name env) ∙ forgotten_if (bytes_eq v.0 name) v.1 (binding name env)

of_operand : {A : Type 0} (e : Expr) (env : Env A) → val e (forgotten_env env) ≡ forgotten (val e env)
    → operand (val e (forgotten_env env)) ≡ operand (val e env)
of_operand e env h = ap operand h ∙ forgotten_operand (val e env)

of_truth : {A : Type 0} (e : Expr) (env : Env A) → val e (forgotten_env env) ≡ forgotten (val e env)
    → is_truthy (val e (forgotten_env env)) ≡ is_truthy (val e env)
of_truth e env h = ap is_truthy h ∙ forgotten_truth (val e env)

of_null : {A : Type 0} (e : Expr) (env : Env A) → val e (forgotten_env env) ≡ forgotten (val e env)
    → is_null (val e (forgotten_env env)) ≡ is_null (val e env)
of_null e env h = ap is_null h ∙ forgotten_null (val e env)

chosen : {A : Type 0} (t u : Bool) (x y : Binding (Unit {0})) (v w : Binding A) → t ≡ u → x ≡ forgotten v
    → y ≡ forgotten w → (if t then x else y) ≡ forgotten (if u then v else w)
chosen t true x y v w e f g = rw e f
chosen t false x y v w e f g = rw e g

pub forgotten_val : {A : Type 0} (e : Expr) (env : Env A) → val e (forgotten_env env) ≡ forgotten (val e env)
forgotten_val (NullLiteral span) env = refl
forgotten_val (BoolLiteral b span) env = refl
forgotten_val (IntLiteral n span) env = refl
forgotten_val (StringLiteral text span) env = refl
forgotten_val (Variable name span) env = forgotten_binding name env
forgotten_val (Member e name takes_null span) env =
    ap (λ (v : Value). Known (member_value name v)) (of_operand e env (forgotten_val e env))
forgotten_val (Index e i takes_null span) env =
    ap (λ (v : Value). Known (index_value v (operand (val i (forgotten_env env)))))
    (of_operand e env (forgotten_val e env))
    ∙ ap (λ (v : Value). Known (index_value (operand (val e env)) v)) (of_operand i env (forgotten_val i env))
forgotten_val (Minus e span) env = ap (λ (v : Value). Known (negated v)) (of_operand e env (forgotten_val e env))
forgotten_val (Not e span) env = ap (λ (b : Bool). Known (BoolValue (not b))) (of_truth e env (forgotten_val e env))
forgotten_val (Binary o a b span) env =
    ap (λ (v : Value). Known (binary_value o v (operand (val b (forgotten_env env)))))
    (of_operand a env (forgotten_val a env))
    ∙ ap (λ (v : Value). Known (binary_value o (operand (val a env)) v)) (of_operand b env (forgotten_val b env))
forgotten_val (Coalesce a b span) env =
    chosen (is_null (val a (forgotten_env env))) (is_null (val a env)) _ _ (val b env) (val a env)
    (of_null a env (forgotten_val a env)) (forgotten_val b env) (forgotten_val a env)
forgotten_val (Conditional c a b span) env =
    chosen (is_truthy (val c (forgotten_env env))) (is_truthy (val c env)) _ _ (val a env) (val b env)
    (of_truth c env (forgotten_val c env)) (forgotten_val a env) (forgotten_val b env)

cost_if : (t u : Bool) (m n k l : ℕ) → t ≡ u → m ≡ k → n ≡ l → (if t then m else n) ≡ (if u then k else l)
cost_if t u m n k l e f g = rw (e, f, g) refl

pub forgotten_cost : {A : Type 0} (e : Expr) (env : Env A) → cost e (forgotten_env env) ≡ cost e env
forgotten_cost (NullLiteral span) env = refl
forgotten_cost (BoolLiteral b span) env = refl
forgotten_cost (IntLiteral n span) env = refl
forgotten_cost (StringLiteral text span) env = refl
forgotten_cost (Variable name span) env = refl
forgotten_cost (Member e name takes_null span) env = ap (λ (n : ℕ). 1 + n) (forgotten_cost e env)
forgotten_cost (Index e i takes_null span) env =
    ap (λ (n : ℕ). 1 + (n + cost i (forgotten_env env))) (forgotten_cost e env) ∙ ap (λ (n : ℕ). 1 + (cost e env + n))
    (forgotten_cost i env)
forgotten_cost (Minus e span) env = ap (λ (n : ℕ). 1 + n) (forgotten_cost e env)
forgotten_cost (Not e span) env = ap (λ (n : ℕ). 1 + n) (forgotten_cost e env)
forgotten_cost (Binary o a b span) env =
    ap (λ (n : ℕ). 1 + (n + right_cost o (is_truthy (val a (forgotten_env env))) (cost b (forgotten_env env))))
    (forgotten_cost a env)
    ∙ ap (λ (t : Bool). 1 + (cost a env + right_cost o t (cost b (forgotten_env env))))
    (of_truth a env (forgotten_val a env))
    ∙ ap (λ (n : ℕ). 1 + (cost a env + right_cost o (is_truthy (val a env)) n)) (forgotten_cost b env)
forgotten_cost (Coalesce a b span) env =
    ap (λ (n : ℕ). 1 + (n + (if is_null (val a (forgotten_env env)) then cost b (forgotten_env env) else 0)))
    (forgotten_cost a env)
    ∙ ap (λ (n : ℕ). 1 + (cost a env + n))
    (cost_if _ _ _ 0 _ 0 (of_null a env (forgotten_val a env)) (forgotten_cost b env) refl)
forgotten_cost (Conditional c a b span) env =
    ap (λ (n : ℕ). 1 + (n + (if is_truthy (val c (forgotten_env env)) then cost a (forgotten_env env)
    else cost b (forgotten_env env)))) (forgotten_cost c env)
    ∙ ap (λ (n : ℕ). 1 + (cost c env + n))
    (cost_if _ _ _ _ _ _ (of_truth c env (forgotten_val c env)) (forgotten_cost a env) (forgotten_cost b env))
