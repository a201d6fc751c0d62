-- An expression whose type has no html or attributes member has a value.
use Rattle.std.proofs.Common.{◌≡◌, true}
use Rattle.std.specs.Prelude.{Ok}
use mathlib.Core.Path.{sym, subst}
use Rattle.soy_tree.specs.Types.{SoyType}
use Rattle.soy_rules.specs.Members.{has_block}
use Rattle.soy_tree.specs.Values.{Value}
use Rattle.soy_rules.specs.Has.{Has}
use Rattle.soy_tree.specs.Expressions.{Expr}
use Rattle.soy_tree.specs.Formed.{is_formed_expr}
use Rattle.soy_rules.specs.Fits.{Fits, IsOf}
use Rattle.soy_rules.specs.TypeOf.{Scope, type_of}
use Rattle.soy_rules.specs.Val.{Env, Binding, Known, BlockOf, val}
use Rattle.soy_rules.proofs.ValueTypes.{value_type}
use Rattle.soy_expr.specs.HasValueType.{HasValueType}

pub not_a_block : (e : Expr) (env : Env (Unit {0})) → is_formed_expr e ≡ true → HasValueType e env
    → BlockOf (tt {0}) ≡ val e env → ⊥
not_a_block e env formed typed is =
    let h : IsOf {A = Unit {0}} (BlockOf (tt {0})) typed.t = subst (λ (b : Binding (Unit {0})). IsOf b typed.t)
    (sym is) (value_type e typed.scope env typed.t formed typed.fits typed.typed) in
    let k : has_block typed.t ≡ true = h in
    let no = typed.no_block in cc

pub value_has : (e : Expr) (env : Env (Unit {0})) (v : Value) (scope : Scope) (t : SoyType) → is_formed_expr e ≡ true
    → Known v ≡ val e env → Fits scope env → type_of e scope ≡ Ok t → Has v t
value_has e env v scope t formed is fits typed =
    let h : IsOf {A = Unit {0}} (Known v) t = subst (λ (b : Binding (Unit {0})). IsOf b t) (sym is)
    (value_type e scope env t formed fits typed) in h
