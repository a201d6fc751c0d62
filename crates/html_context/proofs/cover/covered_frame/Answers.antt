use Rattle.std.proofs.Common.{◌≡◌, List, [], sym, ap, subst, ◌∙◌}
use Rattle.soy_base.specs.declared.place.Place.{Place}
use Rattle.soy_meaning.specs.Paths.Plan.{Frame, Plan}
use Rattle.html_context.specs.Covers.{PassedBy}
use Rattle.html_context.specs.RowPlans.{plan_below, plans_before, row_plan}
use Rattle.html_context.specs.Walks.{view_site}
use Rattle.html_context.proofs.RowPlans.{below_row}
use Rattle.html_context.proofs.cover.covered_frame.Goals as goal

pub returns-in-Ok : goal.returns-in-Ok
returns-in-Ok c =
    let rows = c.args.rows.now in
    let found = c.in-Some-Frame.ensures.lookup in
    let frame = Frame c.in-Some-Frame.kind (view_site c.in-Some-Frame.at)
    (plan_below rows c.args.number c.in-Some-Frame.body) in
    let e : plan_below rows c.args.limit c.args.number ≡ frame =
    below_row rows c.args.limit c.args.number c.in-Some-Frame.field-0.now c.if-limit-number.false found.3.0 found.1
    ∙ ap (row_plan (plans_before rows c.args.number)) c.in-Some-Frame.field-0-is in
    subst (λ (q : Plan). PassedBy q [] c.frame.new.places.items) (sym e)
    (subst (λ (l : List Place). PassedBy frame l c.frame.new.places.items) c.new-places.ensures.items
    c.in-Ok.ensures.passed)
