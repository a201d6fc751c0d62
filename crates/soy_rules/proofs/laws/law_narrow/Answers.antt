use Rattle.soy_rules.proofs.MembersHave.{null_or_narrowed, null_not_narrowed, narrowed_has}
use Rattle.soy_rules.proofs.laws.law_narrow.Goals as goal

pub returns-clause-null_or_narrowed : goal.returns-clause-null_or_narrowed
returns-clause-null_or_narrowed c = null_or_narrowed

pub returns-clause-nothing_else : goal.returns-clause-nothing_else
returns-clause-nothing_else c = narrowed_has

pub returns-clause-null_gone : goal.returns-clause-null_gone
returns-clause-null_gone c = null_not_narrowed
