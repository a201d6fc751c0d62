use Rattle.std.proofs.Common.{ap, ◌∙◌}
use Rattle.std.proofs.lemmas.List.{take_rest}
use Rattle.soy_front.specs.ViewSources.{view_contents}
use Rattle.soy_top.proofs.Contents.LastContents.{view_last}
use Rattle.soy_top.proofs.inputs.last.Goals as goal

pub returns : goal.returns
returns c =
    ap view_contents (take_rest c.args.contents.now c.saturating_sub.result)
    ∙ view_last c.args.count c.saturating_sub.result c.args.contents.now c.saturating_sub.ensures
