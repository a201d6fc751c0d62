use Rattle.bidi_order.proofs.AroundValues.{turned}
use Rattle.bidi_order.proofs.laws.law_turn_initiator.Goals as goal

pub returns : goal.returns
returns c = turned
