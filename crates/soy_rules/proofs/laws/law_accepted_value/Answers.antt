use Rattle.soy_rules.proofs.AcceptsHas.{accepts_has}
use Rattle.soy_rules.proofs.laws.law_accepted_value.Goals as goal

pub returns : goal.returns
returns c v to from e h = accepts_has to from v e h
