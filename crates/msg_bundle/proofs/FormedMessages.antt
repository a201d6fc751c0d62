-- The messages of formed trees are formed.
use Rattle.std.proofs.Common.{◌≡◌, ◌&&◌, not, Bool, true, List, [], ◌∷◌, ◌++◌}
use Rattle.std.specs.List.{list_all}
use Rattle.soy_base.specs.Names.{is_name, is_dotted_name}
use Rattle.soy_tree.specs.Nodes.{Node, Nodes, Otherwise, Arms, Cases, Arguments, Given, Message, Fallback, TextNode}
use Rattle.soy_tree.specs.Nodes.{Print, If, Switch, For, Let, LetBlock, Call, MessageNode, no_node, node, no_otherwise}
use Rattle.soy_tree.specs.Nodes.{otherwise, no_arm, arm, no_case, case, no_argument, argument, Plain, Block}
use Rattle.soy_tree.specs.Nodes.{no_fallback, fallback}
use Rattle.soy_tree.specs.Trees.{Template, Tree}
use Rattle.soy_tree.specs.Formed.{is_formed_expr, is_text, begins_with_text, if_there, is_formed_node, are_formed_nodes}
use Rattle.soy_tree.specs.Formed.{is_formed_otherwise, are_formed_arms, are_formed_cases, are_formed_arguments}
use Rattle.soy_tree.specs.Formed.{is_formed_given, is_formed_message, is_formed_fallback, is_formed_param}
use Rattle.soy_tree.specs.Formed.{is_formed_template, is_formed_tree}
use Rattle.msg_extract.specs.MessagesIn.{fallback_messages, node_messages, messages_in, otherwise_messages}
use Rattle.msg_extract.specs.MessagesIn.{arm_messages, case_messages, argument_messages, given_messages}
use Rattle.msg_extract.specs.MessagesIn.{template_messages, tree_messages}
use Rattle.msg_extract.proofs.JoinedTests.{and_left, and_right}

abbrev pub AllFormed : List Message → Type 0
AllFormed [] = Unit {0}
AllFormed (m ∷ ms) = (is_formed_message m ≡ true) × AllFormed ms

joined : (ms ns : List Message) → AllFormed ms → AllFormed ns → AllFormed (ms ++ ns)
joined [] ns h k = k
joined (m ∷ ms) ns h k = (h.0, joined ms ns h.1 k)

-- the last of several tests, and the one before it
last : (a b : Bool) → (a && b) ≡ true → b ≡ true
last a b h = and_right a b h

middle : (a b c : Bool) → (a && b && c) ≡ true → b ≡ true
middle a b c h = and_right a b (and_left (a && b) c h)

first : (a b c : Bool) → (a && b && c) ≡ true → a ≡ true
first a b c h = and_left a b (and_left (a && b) c h)

fallback_formed : (f : Fallback) → is_formed_fallback f ≡ true → AllFormed (fallback_messages f)
fallback_formed no_fallback h = tt
fallback_formed (fallback m) h = (h, tt)

mutual
  node_formed : (n : Node) → is_formed_node n ≡ true → AllFormed (node_messages n)
  node_formed (TextNode text span) h = tt
  node_formed (Print e phname span) h = tt
  node_formed (If arms other span) h =
      joined (arm_messages arms) (otherwise_messages other)
      (arms_formed arms (and_left (are_formed_arms arms) (is_formed_otherwise other) h))
      (otherwise_formed other (last (are_formed_arms arms) (is_formed_otherwise other) h))
  node_formed (Switch e cases other span) h =
      joined (case_messages cases) (otherwise_messages other)
      (cases_formed cases (middle (is_formed_expr e) (are_formed_cases cases) (is_formed_otherwise other) h))
      (otherwise_formed other (last (is_formed_expr e && are_formed_cases cases) (is_formed_otherwise other) h))
  node_formed (For name index e body span) h =
      nodes_formed body (last (is_name name && if_there is_name index && is_formed_expr e) (are_formed_nodes body) h)
  node_formed (Let name e span) h = tt
  node_formed (LetBlock name kind body span) h = nodes_formed body (last (is_name name) (are_formed_nodes body) h)
  node_formed (Call name all given span) h =
      arguments_formed given (last (is_dotted_name name) (are_formed_arguments given) h)
  node_formed (MessageNode m other span) h = (
    and_left (is_formed_message m) (is_formed_fallback other) h,
    fallback_formed other (last (is_formed_message m) (is_formed_fallback other) h),
  )

  nodes_formed : (ns : Nodes) → are_formed_nodes ns ≡ true → AllFormed (messages_in ns)
  nodes_formed no_node h = tt
  nodes_formed (node n ns) h =
      joined (node_messages n) (messages_in ns)
      (node_formed n (first (is_formed_node n) (not (is_text n && begins_with_text ns)) (are_formed_nodes ns) h))
      (nodes_formed ns (last (is_formed_node n && not (is_text n && begins_with_text ns)) (are_formed_nodes ns) h))

  otherwise_formed : (o : Otherwise) → is_formed_otherwise o ≡ true → AllFormed (otherwise_messages o)
  otherwise_formed no_otherwise h = tt
  otherwise_formed (otherwise body) h = nodes_formed body h

  arms_formed : (arms : Arms) → are_formed_arms arms ≡ true → AllFormed (arm_messages arms)
  arms_formed no_arm h = tt
  arms_formed (arm e body arms) h =
      joined (messages_in body) (arm_messages arms)
      (nodes_formed body (middle (is_formed_expr e) (are_formed_nodes body) (are_formed_arms arms) h))
      (arms_formed arms (last (is_formed_expr e && are_formed_nodes body) (are_formed_arms arms) h))

  cases_formed : (cases : Cases) → are_formed_cases cases ≡ true → AllFormed (case_messages cases)
  cases_formed no_case h = tt
  cases_formed (case values body cases) h =
      joined (messages_in body) (case_messages cases)
      (nodes_formed body (middle (list_all is_formed_expr values) (are_formed_nodes body) (are_formed_cases cases) h))
      (cases_formed cases (last (list_all is_formed_expr values && are_formed_nodes body) (are_formed_cases cases) h))

  arguments_formed : (given : Arguments) → are_formed_arguments given ≡ true → AllFormed (argument_messages given)
  arguments_formed no_argument h = tt
  arguments_formed (argument name given span rest) h =
      joined (given_messages given) (argument_messages rest)
      (given_formed given (middle (is_name name) (is_formed_given given) (are_formed_arguments rest) h))
      (arguments_formed rest (last (is_name name && is_formed_given given) (are_formed_arguments rest) h))

  given_formed : (given : Given) → is_formed_given given ≡ true → AllFormed (given_messages given)
  given_formed (Plain e) h = tt
  given_formed (Block kind body) h = nodes_formed body h

templates_formed : (ts : List Template) → list_all is_formed_template ts ≡ true → AllFormed (template_messages ts)
templates_formed [] h = tt
templates_formed (t ∷ ts) h =
    joined (messages_in t.body) (template_messages ts)
    (nodes_formed t.body
    (last (is_name t.name && list_all is_formed_param t.params) (are_formed_nodes t.body)
    (and_left (is_formed_template t) (list_all is_formed_template ts) h)))
    (templates_formed ts (last (is_formed_template t) (list_all is_formed_template ts) h))

pub tree_formed : (tree : Tree) → is_formed_tree tree ≡ true → AllFormed (tree_messages tree)
tree_formed tree h =
    templates_formed tree.templates
    (last (is_dotted_name tree.namespace) (list_all is_formed_template tree.templates) h)
