-- The messages that those which were found stand for.
use Rattle.std.specs.Borrow.{Bor}
use Rattle.soy_tree.specs.declared.node.Message as code
use Rattle.soy_tree.specs.Nodes.{Message}
use Rattle.soy_tree.specs.ViewNodes.{view_message}

abbrev pub view_found : Bor code.Message → Message
view_found m = view_message m.now
