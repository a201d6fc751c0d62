use Rattle.std.proofs.Common.{◌≤◌, arith}
use Rattle.render_core.proofs.Keys.{count_ends, count_next, count_whole}
use Rattle.render_core.proofs.links.agreed.Goals as goal

pub returns-then-left-right : goal.returns-then-left-right
returns-then-left-right c =
    count_ends c.loop-count.count c.loop-count.left c.loop-count.right _ c.loop-count.invariant.rest
    c.if-left-right.true

pub loop-count-preserved : goal.loop-count-preserved
loop-count-preserved c =
    let low = c.loop-count-test.true in
    record {
      low = omega (arith, low);
      rest =
          count_next c.loop-count.count c.loop-count.left c.loop-count.right _ low c.loop-count.invariant.rest
          c.if-left-right.false;
    }

pub returns : goal.returns
returns c =
    let over = c.loop-count-test.false in
    let high : 32 ≤ c.loop-count.count = omega (arith, over) in
    count_whole c.loop-count.count c.loop-count.left c.loop-count.right _ c.loop-count.invariant.low high
    c.loop-count.invariant.rest
