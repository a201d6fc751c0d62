use Rattle.std.proofs.Common.{◌≡◌, drop}
use Rattle.soy_tree.specs.ViewNodes.{view_nodes}
use Rattle.soy_tree.specs.TagScan.{after_nodes}
use Rattle.soy_tree.specs.declared.message_text.TagScan.TheVariants as scan
use Rattle.soy_tree.proofs.message_text.scan_nodes.Given as goal

abbrev pub invariant-loop-node : goal.invariant-loop-node
invariant-loop-node l =
    after_nodes scan.Outside (view_nodes l.nodes) ≡ after_nodes l.scan (view_nodes (drop l.node-index l.nodes))
