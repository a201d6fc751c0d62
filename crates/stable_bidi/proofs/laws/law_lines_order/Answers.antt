use Rattle.stable_bidi.proofs.VisualOrders.{same_visual_order}
use Rattle.stable_bidi.proofs.laws.law_lines_order.Goals as goal

pub returns : goal.returns
returns c = same_visual_order
