use Rattle.bidi_order.proofs.AroundValues.{deleted}
use Rattle.bidi_order.proofs.laws.law_delete_content.Goals as goal

pub returns : goal.returns
returns c = deleted
