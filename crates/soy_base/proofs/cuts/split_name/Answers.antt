use Rattle.std.proofs.Common.{rules}
use Rattle.soy_base.specs.Names.{continues_name}
use Rattle.soy_base.proofs.cuts.split_name.Goals as goal

pub returns-clause-prefix : goal.returns-clause-prefix
returns-clause-prefix c = c.split_while.ensures.prefix continues_name (λ x b given. search rules)

pub returns-clause-rest : goal.returns-clause-rest
returns-clause-rest c = c.split_while.ensures.rest continues_name (λ x b given. search rules)
