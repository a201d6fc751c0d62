-- Comparisons with literal ints.
use Rattle.std.proofs.Common.{◌≡◌, ℕ, ℤ, ◌+◌, Bool, true, Some, refl, sym, ap, ◌∙◌, arith}
use Rattle.soy_rules.specs.Cost.{cost, right_cost}
use Rattle.soy_rules.specs.Val.{binary_value, is_truthy, operand, truth, val}
use Rattle.soy_tree.specs.Expressions.{Expr, Binary, BoolLiteral, Coalesce, Conditional, Index, IntLiteral, Member}
use Rattle.soy_tree.specs.Expressions.{Minus, Not, NullLiteral, StringLiteral, Variable}
use Rattle.soy_tree.specs.Values.{Value, IntValue}
use Rattle.soy_tree.specs.declared.expr.BinaryOp.{BinaryOp}
use Rattle.soy_tree.specs.declared.expr.BinaryOp.TheVariants as op
use Rattle.soy_pieces.specs.Giving.{RunEnv}
use Rattle.render_core.specs.Ints.{Compares, HasInt, is_comparison, literal_int}

-- a comparison values its right operand
both_valued : (o : BinaryOp) (t : Bool) (n : ℕ) → is_comparison o ≡ true → right_cost o t n ≡ n
both_valued op.Mul t n e = refl
both_valued op.Rem t n e = refl
both_valued op.Add t n e = refl
both_valued op.Sub t n e = refl
both_valued op.Lt t n e = refl
both_valued op.Gt t n e = refl
both_valued op.Le t n e = refl
both_valued op.Ge t n e = refl
both_valued op.Eq t n e = refl
both_valued op.Ne t n e = refl
both_valued op.And t n e = cc
both_valued op.Or t n e = cc

-- a literal int is valued to what it is
literal_known : (b : Expr) (env : RunEnv) (n : ℤ) → literal_int b ≡ Some n
    → (operand (val b env) ≡ IntValue n) × (cost b env ≡ 1)
literal_known (IntLiteral m span) env n e = let h : m ≡ n = cc in (ap IntValue h, refl)
literal_known (NullLiteral span) env n e = cc
literal_known (BoolLiteral b span) env n e = cc
literal_known (StringLiteral text span) env n e = cc
literal_known (Variable name span) env n e = cc
literal_known (Member a name takes_null span) env n e = cc
literal_known (Index a i takes_null span) env n e = cc
literal_known (Minus a span) env n e = cc
literal_known (Not a span) env n e = cc
literal_known (Binary o a b span) env n e = cc
literal_known (Coalesce a b span) env n e = cc
literal_known (Conditional c a b span) env n e = cc

-- a comparison of an int with a literal
pub compares : (o : BinaryOp) (a b : Expr) (env : RunEnv) (m n : ℤ) (holds : Bool) (before after : ℕ)
    → is_comparison o ≡ true → HasInt a env before after (Some m) → literal_int b ≡ Some n
    → holds ≡ truth (binary_value o (IntValue m) (IntValue n))
    → Compares o a b env before (after + 1 + 1) (Some holds)
compares o a b env m n holds before after comparing int literal is =
    let known = literal_known b env n literal in
    let right : operand (val b env) ≡ IntValue n = known.0 in
    let one : cost b env ≡ 1 = known.1 in
    let valued : right_cost o (is_truthy (val a env)) (cost b env) ≡ cost b env =
    both_valued o (is_truthy (val a env)) (cost b env) comparing in
    let spent : after ≡ before + cost a env = int.1 in (
      is ∙ (ap (λ (v : Value). truth (binary_value o v (IntValue n))) (sym int.0)
          ∙ ap (λ (v : Value). truth (binary_value o (operand (val a env)) v)) (sym right)),
      omega (arith, spent, valued, one),
    )
