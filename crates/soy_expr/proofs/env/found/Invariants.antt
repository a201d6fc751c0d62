use Rattle.std.proofs.Common.{◌≡◌, drop}
use Rattle.soy_rules.specs.Val.{binding}
use Rattle.soy_expr.specs.ViewEnv.{view_bounds}
use Rattle.soy_expr.proofs.env.found.Given as goal

abbrev pub invariant-loop-variable : goal.invariant-loop-variable
invariant-loop-variable l =
    binding l.name (view_bounds l.vars) ≡ binding l.name (view_bounds (drop l.variable-index l.vars))
