use Rattle.soy_rules.proofs.MembersHave.{joined_back, joined_left, joined_right}
use Rattle.soy_rules.proofs.laws.law_joined.Goals as goal

pub returns-clause-left : goal.returns-clause-left
returns-clause-left c = joined_left

pub returns-clause-right : goal.returns-clause-right
returns-clause-right c = joined_right

pub returns-clause-no_other : goal.returns-clause-no_other
returns-clause-no_other c = joined_back
