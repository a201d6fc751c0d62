use Rattle.soy_rules.proofs.Accepting.{accepts-members}
use Rattle.soy_rules.proofs.laws.law_accepts_by_members.Goals as goal

pub returns : goal.returns
returns c = accepts-members
