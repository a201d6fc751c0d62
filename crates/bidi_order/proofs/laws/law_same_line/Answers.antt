use Rattle.bidi_order.proofs.SameLine.{within_both, compared_order, compared_order_back, compared_block}
use Rattle.bidi_order.proofs.laws.law_same_line.Goals as goal

pub returns-clause-within : goal.returns-clause-within
returns-clause-within c = within_both

pub returns-clause-order : goal.returns-clause-order
returns-clause-order c = compared_order

pub returns-clause-order_back : goal.returns-clause-order_back
returns-clause-order_back c = compared_order_back

pub returns-clause-block : goal.returns-clause-block
returns-clause-block c = compared_block
