use Rattle.soy_front.proofs.SourceLaws.{deserved, only}
use Rattle.soy_front.proofs.laws.law_source_answer.Goals as goal

pub returns-clause-deserved : goal.returns-clause-deserved
returns-clause-deserved c = deserved

pub returns-clause-only : goal.returns-clause-only
returns-clause-only c = only
