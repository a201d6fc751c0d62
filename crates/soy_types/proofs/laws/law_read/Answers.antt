use Rattle.soy_types.proofs.ReadStands.{value_stands}
use Rattle.soy_types.proofs.ReadHas.{value_has}
use Rattle.soy_types.proofs.ReadComplete.{never_refused}
use Rattle.soy_types.proofs.laws.law_read.Goals as goal

pub returns-clause-stands : goal.returns-clause-stands
returns-clause-stands c = value_stands

pub returns-clause-of_type : goal.returns-clause-of_type
returns-clause-of_type c = value_has

pub returns-clause-complete : goal.returns-clause-complete
returns-clause-complete c = never_refused
