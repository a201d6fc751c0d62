use Rattle.soy_top.proofs.Contents.LastContents.{view_but_last}
use Rattle.soy_top.proofs.inputs.but_last.Goals as goal

pub returns : goal.returns
returns c = view_but_last c.args.count c.saturating_sub.result c.args.contents.now c.saturating_sub.ensures
