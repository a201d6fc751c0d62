use Rattle.soy_rules.specs.Bodies.{accepted, plain_argument}
use Rattle.soy_tree.specs.ViewExpressions.{view_expr}
use Rattle.soy_tree.specs.ViewTrees.{view_param}
use Rattle.soy_tree.specs.ViewTypes.{view_type}
use Rattle.soy_expr.specs.ViewScope.{view_vars}
use Rattle.soy_check.proofs.Passing.{plain_is, same_passes}
use Rattle.soy_check.proofs.Spans.{span_of_view}
use Rattle.soy_check.proofs.commands.check_plain.Goals as goal

pub returns : goal.returns
returns c =
    let e = view_expr c.args.expr.now in
    let p = view_param c.args.param.now in
    let scope = view_vars c.args.vars.now in
    let t = view_type c.in_ok-of.of in
    let to = view_type c.in_ok-param_type.field-0 in
    same_passes (plain_argument e p scope) (accepted to c.args.expr.now.span t scope) scope c.check_accepted.result
    (plain_is e p scope t to c.args.expr.now.span c.in_ok-of.ensures c.in_ok-param_type.ensures
    (span_of_view c.args.expr.now)) (c.check_accepted.ensures scope)
