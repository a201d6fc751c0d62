use Rattle.std.proofs.Common.{map}
use Rattle.std.proofs.lemmas.Result.{on_ok_weaker}
use Rattle.soy_tree.specs.ViewNodes.{view_nodes}
use Rattle.msg_extract.specs.Views.ViewPlaceholders.{view_placeholder}
use Rattle.template_ir.specs.ViewOps.{view_ops}
use Rattle.ir_build.specs.Laid.{view_output}
use Rattle.ir_build.proofs.Placing.{placeholder_pushed}
use Rattle.ir_build.proofs.placeholders.push_placeholder.Goals as goal

pub returns : goal.returns
returns c =
    let s = c.args.source.now in
    on_ok_weaker c.push_all_placed.result
    (placeholder_pushed s c.args.name.now (view_nodes c.nodes.result.now)
    (map view_placeholder s.placeholders.now)
    (view_output c.args.out.now) _ (view_ops c.args.own.now.items) _ c.nodes.ensures c.requires.named)
    c.push_all_placed.ensures
