use Rattle.bidi_order.proofs.NestedLines.{nested-within, nested-last, nested-past}
use Rattle.bidi_order.proofs.rows.law_limit_rows.Goals as goal

pub returns-clause-within : goal.returns-clause-within
returns-clause-within c = nested-within

pub returns-clause-last_within : goal.returns-clause-last_within
returns-clause-last_within c = nested-last

pub returns-clause-past : goal.returns-clause-past
returns-clause-past c = nested-past
