use Rattle.soy_front.proofs.FirstFaults.{first_apart}
use Rattle.soy_front.proofs.FrontAnswers.{one_first}
use Rattle.soy_front.proofs.laws.law_first_fault.Goals as goal

pub returns-clause-apart : goal.returns-clause-apart
returns-clause-apart c = first_apart

pub returns-clause-one : goal.returns-clause-one
returns-clause-one c = one_first
