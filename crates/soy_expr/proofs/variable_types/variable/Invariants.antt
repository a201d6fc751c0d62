use Rattle.std.proofs.Common.{◌≡◌, drop}
use Rattle.soy_rules.specs.TypeOf.{variable_type}
use Rattle.soy_expr.specs.ViewScope.{view_vars}
use Rattle.soy_expr.proofs.variable_types.variable.Given as goal

abbrev pub invariant-loop-variable : goal.invariant-loop-variable
invariant-loop-variable l =
    variable_type l.name (view_vars l.vars) ≡ variable_type l.name (view_vars (drop l.variable-index l.vars))
