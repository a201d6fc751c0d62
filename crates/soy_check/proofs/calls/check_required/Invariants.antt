use Rattle.std.proofs.Common.{◌≡◌, drop, false}
use Rattle.soy_rules.specs.Bodies.{names_given, param_demands}
use Rattle.soy_tree.specs.ViewNodes.{view_arguments}
use Rattle.soy_tree.specs.ViewTrees.{view_params}
use Rattle.soy_expr.specs.ViewScope.{view_vars}
use Rattle.soy_check.specs.Named.{in_row}
use Rattle.soy_check.specs.ViewAround.{view_around}
use Rattle.soy_check.proofs.calls.check_required.Given as goal

abbrev pub invariant-loop-param : goal.invariant-loop-param
invariant-loop-param l =
    let around = view_around l.around in
    let names = names_given (view_arguments l.names.given.now) in
    let left = drop l.param-index l.callee.required.items in
    param_demands around false names l.span (view_params (in_row l.callee.required.items)) (view_vars l.vars)
    ≡ param_demands around false names l.span (view_params (in_row left)) (view_vars l.vars)
