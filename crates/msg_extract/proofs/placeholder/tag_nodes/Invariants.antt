use Rattle.std.proofs.Common.{◌≡◌, ◌++◌, None, drop, map}
use Rattle.soy_tree.specs.ViewNodes.{view_node}
use Rattle.msg_extract.specs.PlaceholderNodes.{nodes_behind}
use Rattle.msg_extract.specs.Views.ViewItems.{view_item}
use Rattle.msg_extract.specs.Views.ViewPlaceholders.{view_begun}
use Rattle.msg_extract.proofs.placeholder.tag_nodes.Given as goal

abbrev pub invariant-loop-item : goal.invariant-loop-item
invariant-loop-item l =
    map view_node l.nodes ++ nodes_behind (view_begun l.begun) (map view_item (drop l.item-index l.tag))
    ≡ nodes_behind None (map view_item l.tag)
