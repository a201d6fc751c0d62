use Rattle.bidi_class.proofs.PairParts.{one_closing}
use Rattle.bidi_class.proofs.laws.law_pairs.Goals as goal

pub returns : goal.returns
returns c = one_closing
