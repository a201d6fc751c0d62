use Rattle.std.proofs.Common.{◌∙◌, map}
use Rattle.soy_tree.specs.ViewNodes.{view_message}
use Rattle.msg_extract.specs.SelectorRows.{view_selector}
use Rattle.ir_build.proofs.Placing.{selector_is}
use Rattle.ir_build.proofs.placeholders.selector_of.Goals as goal

pub returns : goal.returns
returns c =
    let s = c.args.source.now in
    c.selector_in.ensures
    ∙ selector_is (view_message s.message.now) c.args.of_plural c.args.name.now (map view_selector s.selectors.now)
    c.requires.selected
