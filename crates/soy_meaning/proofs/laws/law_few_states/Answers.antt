use Rattle.soy_meaning.proofs.Walks.Exact.{few_ends, few_states}
use Rattle.soy_meaning.proofs.laws.law_few_states.Goals as goal

pub returns-clause-points : goal.returns-clause-points
returns-clause-points c = few_states

pub returns-clause-ends : goal.returns-clause-ends
returns-clause-ends c = few_ends
