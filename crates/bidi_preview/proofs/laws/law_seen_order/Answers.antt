use Rattle.bidi_preview.proofs.ShownCharacters.{left_in_order}
use Rattle.bidi_preview.proofs.laws.law_seen_order.Goals as goal

pub returns : goal.returns
returns c = left_in_order
