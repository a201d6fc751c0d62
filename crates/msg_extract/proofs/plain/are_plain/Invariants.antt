use Rattle.std.proofs.Common.{◌≡◌, drop}
use Rattle.soy_tree.specs.ViewNodes.{view_nodes}
use Rattle.msg_extract.specs.PlainPieces.{are_plain}
use Rattle.msg_extract.proofs.plain.are_plain.Given as goal

abbrev pub invariant-loop-node : goal.invariant-loop-node
invariant-loop-node l =
    are_plain l.in_plural (view_nodes (drop l.node-index l.nodes)) ≡ are_plain l.in_plural (view_nodes l.nodes)
