-- An int literal meets the condition of `eval`.
use Rattle.std.proofs.Common.{◌≡◌, true, [], subst, sym}
use Rattle.std.specs.Prelude.{pos, Ok}
use mathlib.Core.Path.{refl}
use Rattle.soy_base.specs.declared.fault.Span.{Span}
use Rattle.soy_tree.specs.Types.{IntType}
use Rattle.soy_tree.specs.Expressions.{Expr, IntLiteral}
use Rattle.soy_tree.specs.Formed.{is_formed_expr}
use Rattle.soy_rules.specs.TypeOf.{type_of}
use Rattle.soy_rules.specs.Val.{Env}
use Rattle.soy_rules.specs.Fits.{Fits}
use Rattle.soy_expr.specs.HasValueType.{HasValueType}

pub seven_formed : (e : Expr) (span : Span) → e ≡ IntLiteral (pos 7) span → is_formed_expr e ≡ true
seven_formed e span is = subst (λ (x : Expr). is_formed_expr x ≡ true) (sym is) refl

pub seven_typed : (e : Expr) (env : Env (Unit {0})) (span : Span) → e ≡ IntLiteral (pos 7) span → env ≡ []
    → HasValueType e env
seven_typed e env span is none = record {
  scope = [];
  t = IntType;
  fits = subst (λ (v : Env (Unit {0})). Fits {A = Unit {0}} [] v) (sym none) (tt {0});
  typed = subst (λ (x : Expr). type_of x [] ≡ Ok IntType) (sym is) refl;
  no_block = refl;
}
