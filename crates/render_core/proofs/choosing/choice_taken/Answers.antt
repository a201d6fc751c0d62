use Rattle.std.proofs.Common.{arith}
use Rattle.soy_expr.specs.ViewShallow.{view_shallow}
use Rattle.render_core.specs.Seen.{env_seen}
use Rattle.render_core.proofs.Choices.{choice_least}
use Rattle.render_core.proofs.choosing.choice_taken.Goals as goal

pub returns-in-Err : goal.returns-in-Err
returns-in-Err g c =
    let least =
    choice_least (view_shallow c.args.subject) c.args.other (env_seen c.args.point) c.args.choices.now
    c.loop-choice.choice-index c.choice-item.result c.loop-choice-test.true c.choice-item.is in
    let spent = c.loop-choice.invariant.cost in
    let low = c.loop-choice.invariant.low in
    let within = rw c.items.ensures at c.in-Err.ensures in
    (omega (arith, spent, low, within.0, within.1, least), omega (arith, spent, low, within.0, within.1, least))
