use Rattle.html_context.proofs.Covering.{within_grown, within_itself}
use Rattle.html_context.proofs.heads.with_last.Goals as goal

pub returns : goal.returns
returns c =
    within_grown c.args.states.items c.args.states.items c.deref.result.now c.join.new.states.items (within_itself c.args.states.items)
    c.in_ok-join.ensures
