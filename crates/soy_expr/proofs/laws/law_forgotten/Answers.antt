use Rattle.soy_expr.proofs.Forgetting.{forgotten_val, forgotten_cost}
use Rattle.soy_expr.proofs.laws.law_forgotten.Goals as goal

pub returns-clause-value : goal.returns-clause-value
returns-clause-value row c e env = forgotten_val e env

pub returns-clause-cost : goal.returns-clause-cost
returns-clause-cost row c e env = forgotten_cost e env
