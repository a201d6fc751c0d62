use Rattle.std.proofs.Common.{◌≡◌, ◌++◌, drop, map}
use Rattle.soy_tree.specs.ViewTrees.{view_template, view_tree}
use Rattle.msg_extract.specs.MessagesIn.{template_messages, tree_messages}
use Rattle.msg_extract.specs.Views.ViewMessages.{view_found}
use Rattle.msg_extract.proofs.messages.messages_of.Given as goal

abbrev pub invariant-loop-template : goal.invariant-loop-template
invariant-loop-template l =
    map view_found l.found ++ template_messages (map view_template (drop l.template-index l.tree.templates))
    ≡ tree_messages (view_tree l.tree)
