use Rattle.std.proofs.Common.{◌≡◌, ◌∷◌, ◌∙◌, ◌+◌, ◌-◌, ◌<◌, ◌≤◌, ℕ, List, ap}
use Rattle.std.proofs.Common.{arith, drop, length, sym}
use Rattle.soy_tree.specs.declared.tree.Param as code
use Rattle.soy_rules.specs.Templates.{param_scope, param_type}
use Rattle.soy_rules.specs.TypeOf.{Scope}
use Rattle.soy_tree.specs.Types.{Name, SoyType}
use Rattle.soy_tree.specs.ViewTrees.{view_param, view_params}
use Rattle.soy_rules.proofs.Views.{view_field-is}
use Rattle.soy_expr.specs.ViewScope.{view_vars}
use Rattle.soy_expr.specs.Visible.{variable}
use Rattle.soy_tree.proofs.Drops.{drop_next}
use Rattle.soy_check.proofs.variables.param_variables.Goals as goal

pub loop-left-preserved : goal.loop-left-preserved
loop-left-preserved c =
    let params = c.args.params.now in
    let left = c.loop-left.left in
    let vars = c.loop-left.vars in
    let of = c.in_ok-of.of in
    let within : left ≤ length params = c.loop-left.invariant.within in
    let some : 0 < left = c.loop-left-test.true in
    let below : left - 1 < length params = omega (arith, within, some) in
    let next : (left - 1) + 1 ≡ left = omega (arith, some) in
    let param = c.index-params-left.result in
    let dropped : drop (left - 1) params ≡ param ∷ drop left params =
    drop_next params (left - 1) param below c.index-params-left.is
    ∙ ap (λ (n : ℕ). param ∷ drop n params) next in
    record {
      within = omega (arith, within, some);
      scope =
          ap view_vars c.in_ok-add.ensures
          ∙ ap (λ (v : Name × SoyType). v ∷ view_vars vars) (view_field-is (variable param.name of))
          ∙ ap (λ (t : SoyType). (param.name, t) ∷ view_vars vars) c.in_ok-of.ensures
          ∙ ap (λ (s : Scope). (param.name, param_type (view_param param)) ∷ s) c.loop-left.invariant.scope
          ∙ sym (ap (λ (ps : List code.Param). param_scope (view_params ps)) dropped);
    }
