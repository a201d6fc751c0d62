use Rattle.soy_front.proofs.FrontAnswers.{accepted_answered, answered_accepted, answered_deserved, answered_fault}
use Rattle.soy_front.proofs.FrontAnswers.{fault_answered}
use Rattle.soy_front.proofs.laws.law_front_answer.Goals as goal

pub returns-clause-accepted : goal.returns-clause-accepted
returns-clause-accepted c = answered_accepted

pub returns-clause-deserved : goal.returns-clause-deserved
returns-clause-deserved c = answered_deserved

pub returns-clause-refused : goal.returns-clause-refused
returns-clause-refused c = answered_fault

pub returns-clause-only_accepted : goal.returns-clause-only_accepted
returns-clause-only_accepted c = accepted_answered

pub returns-clause-only_fault : goal.returns-clause-only_fault
returns-clause-only_fault c = fault_answered
