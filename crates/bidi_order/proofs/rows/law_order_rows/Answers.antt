use Rattle.bidi_order.proofs.WorkedOrder.{before_value, after_value, before_word}
use Rattle.bidi_order.proofs.rows.law_order_rows.Goals as goal

pub returns-clause-before_value : goal.returns-clause-before_value
returns-clause-before_value c = before_value

pub returns-clause-after_value : goal.returns-clause-after_value
returns-clause-after_value c = after_value

pub returns-clause-before_word : goal.returns-clause-before_word
returns-clause-before_word c = before_word
