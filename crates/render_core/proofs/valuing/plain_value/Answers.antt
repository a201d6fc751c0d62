use Rattle.std.proofs.Common.{◌+◌, ap, ◌∙◌}
use Rattle.soy_rules.specs.Val.{Known}
use Rattle.soy_tree.specs.ViewExpressions.{view_expr}
use Rattle.soy_expr.specs.ViewEvaluated.{view_made}
use Rattle.render_core.specs.Seen.{env_seen}
use Rattle.render_core.proofs.Finds.{plain_value, same_cost}
use Rattle.render_core.proofs.valuing.plain_value.Goals as goal

pub returns-in-Ok-Made : goal.returns-in-Ok-Made
returns-in-Ok-Made g c =
    let e = view_expr c.args.expr.now in
    let env = env_seen c.args.point in
    let known = rw c.in-Ok-Made.field-0-is at c.in-Ok-Made.ensures in (
      plain_value e env (view_made c.in-Ok-Made.made) known.0.0,
      tt,
      known.1 ∙ ap (λ n. c.args.steps.now + n) (same_cost e env),
    )

pub returns-in-Ok-Part : goal.returns-in-Ok-Part
returns-in-Ok-Part g c =
    let e = view_expr c.args.expr.now in
    let env = env_seen c.args.point in
    let known = rw c.in-Ok-Part.field-0-is at c.in-Ok-Part.ensures in (
      ap Known known.0.1 ∙ plain_value e env _ known.0.0,
      tt,
      known.1 ∙ ap (λ n. c.args.steps.now + n) (same_cost e env),
    )
