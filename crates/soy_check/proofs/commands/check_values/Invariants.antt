use Rattle.std.proofs.Common.{◌≡◌, drop}
use Rattle.soy_rules.specs.Bodies.{each_passing}
use Rattle.soy_tree.specs.ViewExpressions.{view_exprs}
use Rattle.soy_expr.specs.ViewScope.{view_vars}
use Rattle.soy_check.proofs.commands.check_values.Given as goal

abbrev pub invariant-loop-value : goal.invariant-loop-value
invariant-loop-value l =
    each_passing (view_exprs l.values) (view_vars l.vars)
    ≡ each_passing (view_exprs (drop l.value-index l.values)) (view_vars l.vars)
