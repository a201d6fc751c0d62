-- When an expression has a type without an html or attributes member in some scope that fits the environment.
-- Example: `$a + 1` does where `$a` is bound to 2.
use Rattle.std.specs.Prelude.{◌≡◌, false, Ok}
use Rattle.soy_tree.specs.Types.{SoyType}
use Rattle.soy_rules.specs.Members.{has_block}
use Rattle.soy_tree.specs.Expressions.{Expr}
use Rattle.soy_rules.specs.TypeOf.{Scope, type_of}
use Rattle.soy_rules.specs.Val.{Env}
use Rattle.soy_rules.specs.Fits.{Fits}

pub record HasValueType (e : Expr) (env : Env (Unit {0})) : Type 0 where
  pub scope : Scope
  pub t : SoyType
  pub fits : Fits scope env
  pub typed : type_of e scope ≡ Ok t
  pub no_block : has_block t ≡ false
