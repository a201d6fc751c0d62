use Rattle.std.proofs.Common.{arith}
use Rattle.soy_expr.specs.ViewShallow.{view_shallow}
use Rattle.render_core.specs.Seen.{env_seen}
use Rattle.render_core.proofs.Choices.{one_least}
use Rattle.render_core.proofs.choosing.is_one.Goals as goal

pub returns-in-Err : goal.returns-in-Err
returns-in-Err g c =
    let least =
    one_least (view_shallow c.args.subject) (env_seen c.args.point) c.args.values.now c.loop-value.value-index
    c.value-item.result c.loop-value-test.true c.value-item.is in
    let spent = c.loop-value.invariant.cost in
    let low = c.loop-value.invariant.low in
    let within = c.in-Err.ensures in
    (omega (arith, spent, low, within.0, within.1, least), omega (arith, spent, low, within.0, within.1, least))
