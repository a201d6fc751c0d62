-- The messages of nodes, of templates and of a file, in the order of the source, a fallback after its message.
-- Example: of `{if $a}{msg ..}x{/msg}{/if}{msg ..}y{fallbackmsg ..}z{/msg}` they are x, y and z.
use Rattle.std.specs.Prelude.{List, [], ◌∷◌, ◌++◌}
use Rattle.soy_tree.specs.Nodes.{Node, Nodes, Otherwise, Arms, Cases, Arguments, Given, Message, Fallback, TextNode}
use Rattle.soy_tree.specs.Nodes.{Print, If, Switch, For, Let, LetBlock, Call, MessageNode, no_node, node, no_otherwise}
use Rattle.soy_tree.specs.Nodes.{otherwise, no_arm, arm, no_case, case, no_argument, argument, Plain, Block}
use Rattle.soy_tree.specs.Nodes.{no_fallback, fallback}
use Rattle.soy_tree.specs.Trees.{Template, Tree}

abbrev pub fallback_messages : Fallback → List Message
fallback_messages no_fallback = []
fallback_messages (fallback m) = m ∷ []

abbrev mutual
  pub node_messages : Node → List Message
  node_messages (TextNode text span) = []
  node_messages (Print e phname span) = []
  node_messages (If arms other span) = arm_messages arms ++ otherwise_messages other
  node_messages (Switch e cases other span) = case_messages cases ++ otherwise_messages other
  node_messages (For name index e body span) = messages_in body
  node_messages (Let name e span) = []
  node_messages (LetBlock name kind body span) = messages_in body
  node_messages (Call name all given span) = argument_messages given
  node_messages (MessageNode m other span) = m ∷ fallback_messages other

  pub messages_in : Nodes → List Message
  messages_in no_node = []
  messages_in (node n ns) = node_messages n ++ messages_in ns

  pub otherwise_messages : Otherwise → List Message
  otherwise_messages no_otherwise = []
  otherwise_messages (otherwise body) = messages_in body

  pub arm_messages : Arms → List Message
  arm_messages no_arm = []
  arm_messages (arm e body arms) = messages_in body ++ arm_messages arms

  pub case_messages : Cases → List Message
  case_messages no_case = []
  case_messages (case values body cases) = messages_in body ++ case_messages cases

  pub argument_messages : Arguments → List Message
  argument_messages no_argument = []
  argument_messages (argument name given span rest) = given_messages given ++ argument_messages rest

  pub given_messages : Given → List Message
  given_messages (Plain e) = []
  given_messages (Block kind body) = messages_in body

abbrev pub template_messages : List Template → List Message
template_messages [] = []
template_messages (t ∷ ts) = messages_in t.body ++ template_messages ts

abbrev pub tree_messages : Tree → List Message
tree_messages tree = template_messages tree.templates
