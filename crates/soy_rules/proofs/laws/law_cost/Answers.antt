use Rattle.soy_rules.proofs.Costs.{cost-positive, cost-within}
use Rattle.soy_rules.proofs.laws.law_cost.Goals as goal

pub returns-clause-some : goal.returns-clause-some
returns-clause-some row c e env = cost-positive e env

pub returns-clause-at_most : goal.returns-clause-at_most
returns-clause-at_most row c e env = cost-within e env
