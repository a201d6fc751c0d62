use Rattle.soy_desk.proofs.Meanings.{opening_meaning}
use Rattle.soy_desk.proofs.laws.law_opening_is_meaning.Goals as goal

pub returns : goal.returns
returns c = opening_meaning
