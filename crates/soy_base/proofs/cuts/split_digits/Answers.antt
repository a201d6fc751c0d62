use Rattle.std.proofs.Common.{rules}
use Rattle.std.specs.Char.{is_ascii_digit}
use Rattle.soy_base.proofs.cuts.split_digits.Goals as goal

pub returns-clause-prefix : goal.returns-clause-prefix
returns-clause-prefix c = c.split_while.ensures.prefix is_ascii_digit (λ x b given. search rules)

pub returns-clause-rest : goal.returns-clause-rest
returns-clause-rest c = c.split_while.ensures.rest is_ascii_digit (λ x b given. search rules)
