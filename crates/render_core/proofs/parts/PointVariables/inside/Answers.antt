use Rattle.std.proofs.Common.{ap, sym, ◌∙◌}
use Rattle.soy_expr.specs.Parts.{child}
use Rattle.render_core.specs.Seen.{cells_seen}
use Rattle.render_core.specs.Variables.{cell_at, led, path_value}
use Rattle.render_core.specs.declared.held.Path.{Path}
use Rattle.render_core.proofs.Values.{led_end}
use Rattle.render_core.proofs.parts.PointVariables.inside.Goals as goal

pub returns-in_ok-push-in-Deep : goal.returns-in_ok-push-in-Deep
returns-in_ok-push-in-Deep c v is =
    let cells = cells_seen c.args.self.now in
    let whole = (cell_at cells c.in-Deep.of).part in
    ap (λ ns. led ns whole) c.in_ok-push-in-Deep.ensures.items
    ∙ (led_end c.in-Deep.steps.items c.args.number whole
    ∙ ap (child c.args.number) (sym (ap (λ (p : Path). path_value cells p) c.in-Deep.is) ∙ is))
