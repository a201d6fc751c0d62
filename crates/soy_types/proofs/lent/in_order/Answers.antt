use Rattle.std.proofs.Common.{refl}
use Rattle.soy_types.proofs.LentFacts.{one_in_order}
use Rattle.soy_types.proofs.lent.in_order.Goals as goal

pub loop-member-preserved : goal.loop-member-preserved
loop-member-preserved c =
    one_in_order c.deref-member-items.result.now c.loop-member.member-index c.member-item.result
    c.loop-member.found.entries c.insert.new.self.entries _ _ _ c.loop-member-test.true c.member-item.is refl refl
    c.in_ok-insert.ensures.entries c.loop-member.invariant
