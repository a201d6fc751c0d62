use Rattle.std.proofs.Common.{length, refl}
use Rattle.value_cursor.proofs.Totals.{counted_bound, counted_len}
use Rattle.value_cursor.proofs.plan.Plan.len_by_bytes.Goals as goal

pub returns-in-Some-clause-count : goal.returns-in-Some-clause-count
returns-in-Some-clause-count c =
    counted_len c.args.self.now.how c.in-Some.shares.now c.in-Some.ensures c.args.self.now refl
    c.in-Nothing.is c.args.source.now c.utf8.source c.total_share.result
    (rw c.as_bytes.ensures.value at c.total_share.ensures.total)
    (rw c.as_bytes.ensures.value at c.total_share.ensures.known)

pub returns-in-Some-clause-bound : goal.returns-in-Some-clause-bound
returns-in-Some-clause-bound c =
    counted_bound c.total_share.result (length c.args.source.now)
    (rw c.as_bytes.ensures.value at c.total_share.ensures.bound)
