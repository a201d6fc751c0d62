use Rattle.std.proofs.Common.{◌≡◌, drop, true}
use Rattle.soy_rules.specs.Bodies.{names_given, param_demands}
use Rattle.soy_tree.specs.ViewNodes.{view_arguments}
use Rattle.soy_tree.specs.ViewTrees.{view_params}
use Rattle.soy_expr.specs.ViewScope.{view_vars}
use Rattle.soy_check.specs.ViewAround.{view_around}
use Rattle.soy_check.proofs.calls.check_each.Given as goal

abbrev pub invariant-loop-param : goal.invariant-loop-param
invariant-loop-param l =
    let names = names_given (view_arguments l.names.given.now) in
    param_demands (view_around l.around) true names l.span (view_params l.params) (view_vars l.vars)
    ≡ param_demands (view_around l.around) true names l.span (view_params (drop l.param-index l.params)) (view_vars
    l.vars)
