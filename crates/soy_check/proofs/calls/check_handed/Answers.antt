use Rattle.std.proofs.Common.{◌∙◌, ap, option_map, sym}
use Rattle.soy_rules.specs.Bodies.{accepted, handed}
use Rattle.soy_rules.specs.Templates.{param_type}
use Rattle.soy_rules.specs.TypeOf.{variable_type}
use Rattle.soy_tree.specs.ViewTrees.{view_param}
use Rattle.soy_tree.specs.ViewTypes.{view_type}
use Rattle.soy_expr.specs.ViewScope.{view_vars}
use Rattle.soy_check.proofs.Passing.{handed_is, same_passes}
use Rattle.soy_check.proofs.calls.check_handed.Goals as goal

pub returns-in-Some : goal.returns-in-Some
returns-in-Some c =
    let p = view_param c.args.param.now in
    let scope = view_vars c.args.vars.now in
    let t = view_type c.in-Some.given.now in
    let to = view_type c.in_ok-to.to in
    same_passes (handed (param_type p) c.args.span (variable_type p.name scope) scope)
    (accepted to c.args.span t scope) scope c.check_accepted.result
    (handed_is p c.args.span scope (variable_type p.name scope) t to
    (sym c.find.ensures.typed ∙ ap (option_map (λ t. view_type t.now)) c.in-Some.is) c.in_ok-to.ensures)
    (c.check_accepted.ensures scope)
