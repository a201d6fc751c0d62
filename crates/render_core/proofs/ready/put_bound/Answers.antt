use Rattle.soy_expr.specs.ViewEvaluated.{view_made}
use Rattle.render_core.specs.Finds.{binding_at}
use Rattle.render_core.specs.Seen.{cells_seen, input_seen, program_seen}
use Rattle.render_core.specs.Variables.{cell_at}
use Rattle.render_core.proofs.Finds.{bound_item, bound_path}
use Rattle.render_core.proofs.ReadyOps.{bound_made, given_binding}
use Rattle.render_core.proofs.ready.put_bound.Goals as goal

pub returns-in-Made-clause-gives : goal.returns-in-Made-clause-gives
returns-in-Made-clause-gives c =
    let at = c.args.point in
    given_binding (program_seen at).dir (binding_at (program_seen at) (input_seen at) at.bound.now c.args.at)
    c.args.place (view_made c.in-Made.made) c.args.room.now c.put_made.new.room c.put_made.result
    (bound_made (program_seen at) (input_seen at) at.bound.now c.args.at c.in-Some.variable.now c.in-Made.made
    c.in-Some.ensures c.in-Made.is) c.put_made.ensures.gave

pub returns-in-Item-clause-gives : goal.returns-in-Item-clause-gives
returns-in-Item-clause-gives c =
    let at = c.args.point in
    given_binding (program_seen at).dir (binding_at (program_seen at) (input_seen at) at.bound.now c.args.at)
    c.args.place (cell_at (cells_seen at) c.args.at).part c.args.room.now c.put_part.new.room c.put_part.result
    (bound_item (program_seen at) (input_seen at) at.bound.now c.args.at c.in-Some.variable.now _ _ c.in-Some.ensures
    c.in-Item.is) c.put_part.ensures.gave

pub returns-in-Part-clause-gives : goal.returns-in-Part-clause-gives
returns-in-Part-clause-gives c =
    let at = c.args.point in
    given_binding (program_seen at).dir (binding_at (program_seen at) (input_seen at) at.bound.now c.args.at)
    c.args.place (cell_at (cells_seen at) c.args.at).part c.args.room.now c.put_part-in-Part.new.room
    c.put_part-in-Part.result
    (bound_path (program_seen at) (input_seen at) at.bound.now c.args.at c.in-Some.variable.now _ c.in-Some.ensures
    c.in-Part.is) c.put_part-in-Part.ensures.gave
