use Rattle.soy_rules.proofs.ValueTypes.{value_type}
use Rattle.soy_rules.proofs.laws.law_value_type.Goals as goal

pub returns : goal.returns
returns row c e scope env t formed fits is = value_type e scope env t formed fits is
