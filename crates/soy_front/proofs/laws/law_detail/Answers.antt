use Rattle.soy_front.proofs.DetailLaws.{detail_rule}
use Rattle.soy_front.proofs.laws.law_detail.Goals as goal

pub returns : goal.returns
returns c = detail_rule
