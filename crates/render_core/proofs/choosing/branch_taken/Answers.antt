use Rattle.std.proofs.Common.{arith}
use Rattle.render_core.specs.Seen.{env_seen}
use Rattle.render_core.proofs.Choices.{branch_least}
use Rattle.render_core.proofs.choosing.branch_taken.Goals as goal

pub returns-in-Err : goal.returns-in-Err
returns-in-Err g c =
    let env = env_seen c.args.point in
    let least =
    branch_least c.args.other env c.args.branches.now c.loop-branch.branch-index c.branch-item.result
    c.loop-branch-test.true c.branch-item.is in
    let spent = c.loop-branch.invariant.cost in
    let low = c.loop-branch.invariant.low in
    let within = c.in-Err.ensures in
    (omega (arith, spent, low, within.0, within.1, least), omega (arith, spent, low, within.0, within.1, least))
