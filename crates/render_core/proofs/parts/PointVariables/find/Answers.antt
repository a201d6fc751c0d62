use Rattle.std.proofs.Common.{◌≡◌, sym, ap, ◌∙◌, subst}
use Rattle.std.specs.Prelude.{IfOk}
use Rattle.soy_rules.specs.Val.{Binding}
use Rattle.soy_expr.specs.ForgottenBlocks.{forgotten}
use Rattle.soy_expr.specs.ViewEvaluated.{IsBinding}
use Rattle.render_core.specs.Seen.{cells_seen, env_seen}
use Rattle.render_core.specs.Variables.{path_value}
use Rattle.render_core.proofs.Finds.{forgotten_binding}
use Rattle.render_core.proofs.parts.PointVariables.find.Goals as goal

pub returns-in-Some : goal.returns-in-Some
returns-in-Some c =
    let at = c.args.self.now in
    let e = ap forgotten c.in-Some.ensures ∙ sym (forgotten_binding c.args.name.now (env_seen at)) in
    subst (λ (b : Binding (Unit {0})). IfOk c.evaluated.result
    (IsBinding (λ path v. path_value (cells_seen at) path ≡ v) b)) e
    c.evaluated.ensures

pub returns-in-None : goal.returns-in-None
returns-in-None c =
    let at = c.args.self.now in
    (ap forgotten c.in-None.ensures ∙ sym (forgotten_binding c.args.name.now (env_seen at)), tt)
