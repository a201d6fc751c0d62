use Rattle.msg_bundle.proofs.EitherAnswer.{bundle_or_fault}
use Rattle.msg_bundle.proofs.OneAnswer.{bundle_apart}
use Rattle.msg_bundle.proofs.OneFault as one
use Rattle.msg_bundle.proofs.laws.law_bundle.Goals as goal

pub returns-clause-apart : goal.returns-clause-apart
returns-clause-apart c = bundle_apart

pub returns-clause-either : goal.returns-clause-either
returns-clause-either c = bundle_or_fault

pub returns-clause-one_fault : goal.returns-clause-one_fault
returns-clause-one_fault c = one.one_fault

pub returns-clause-one_bundle : goal.returns-clause-one_bundle
returns-clause-one_bundle c = one.one_bundle
