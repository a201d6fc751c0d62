use Rattle.std.proofs.Common.{◌≡◌, Some, drop, map}
use Rattle.soy_tree.specs.MessageText.{joined_items, message_items}
use Rattle.soy_tree.specs.ViewNodes.{view_nodes}
use Rattle.msg_extract.specs.Views.ViewItems.{view_item}
use Rattle.msg_extract.proofs.item.items_of.Given as goal

abbrev pub invariant-loop-node : goal.invariant-loop-node
invariant-loop-node l =
    joined_items (Some (map view_item l.items)) (message_items (view_nodes (drop l.node-index l.nodes)))
    ≡ message_items (view_nodes l.nodes)
