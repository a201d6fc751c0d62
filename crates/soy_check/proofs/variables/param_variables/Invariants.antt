use Rattle.std.proofs.Common.{◌≡◌, ◌≤◌, drop, length}
use Rattle.soy_rules.specs.Templates.{param_scope}
use Rattle.soy_tree.specs.ViewTrees.{view_params}
use Rattle.soy_expr.specs.ViewScope.{view_vars}
use Rattle.soy_check.proofs.variables.param_variables.Given as goal

abbrev pub invariant-loop-left : goal.invariant-loop-left
invariant-loop-left l = record {
  within : l.left ≤ length l.params;
  scope : view_vars l.vars ≡ param_scope (view_params (drop l.left l.params));
}

abbrev pub decreases-loop-left : goal.decreases-loop-left
decreases-loop-left l = l.left
