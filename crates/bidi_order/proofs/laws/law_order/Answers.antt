use Rattle.bidi_order.proofs.LeastLevel.{is_left_of-contrary, is_left_of-least, is_left_of-removed}
use Rattle.bidi_order.proofs.LeastAcross.{least-separator, least-value_characters}
use Rattle.bidi_order.proofs.laws.law_order.Goals as goal

pub returns-clause-by_least : goal.returns-clause-by_least
returns-clause-by_least c = is_left_of-least

pub returns-clause-contrary : goal.returns-clause-contrary
returns-clause-contrary c = is_left_of-contrary

pub returns-clause-at_value : goal.returns-clause-at_value
returns-clause-at_value c = least-value_characters

pub returns-clause-at_separator : goal.returns-clause-at_separator
returns-clause-at_separator c = least-separator

pub returns-clause-removed : goal.returns-clause-removed
returns-clause-removed c = is_left_of-removed
