use Rattle.std.proofs.Common.{not, rules}
use Rattle.soy_base.specs.WhiteSpace.{is_line_break}
use Rattle.soy_base.proofs.cuts.split_line.Goals as goal

pub returns-clause-prefix : goal.returns-clause-prefix
returns-clause-prefix c = c.split_while.ensures.prefix (λ c. not (is_line_break c)) (λ x b given. search rules)

pub returns-clause-rest : goal.returns-clause-rest
returns-clause-rest c = c.split_while.ensures.rest (λ c. not (is_line_break c)) (λ x b given. search rules)
