-- What every tree of a text is, beyond that it is formed: no text has a U+0000, no value in double quotes has one or a
-- double quote, prints outside of messages have no `phname`, an if has an arm, and each case of a switch a value.
-- Example: an if without arms is no node of a text.
use Rattle.std.specs.Prelude.{ℕ, Bool, true, false, not, ◌&&◌, ◌||◌, List, [], ◌∷◌, is_some}
use Rattle.std.specs.List.{list_all}
use Rattle.soy_base.specs.Among.{lacks}
use Rattle.soy_base.specs.Characters.{double_quote, null}
use Rattle.soy_tree.specs.Expressions.{Expr}
use Rattle.soy_tree.specs.Nodes.{Node, Nodes, Otherwise, Arms, Cases, Arguments, Given, Message, Fallback, MessageBody}
use Rattle.soy_tree.specs.Nodes.{PluralCases, SelectCases, TextNode, Print, If, Switch, For, Let, LetBlock, Call}
use Rattle.soy_tree.specs.Nodes.{MessageNode, no_node, node, no_otherwise, otherwise, no_arm, arm, no_case, case}
use Rattle.soy_tree.specs.Nodes.{no_argument, argument, Plain, Block, message, no_fallback, fallback, Parts, Plural}
use Rattle.soy_tree.specs.Nodes.{Select, no_plural_case, plural_case, no_select_case, select_case}
use Rattle.soy_tree.specs.Trees.{Tree}

abbrev pub is_source_text : List ℕ → Bool
is_source_text text = lacks (null ∷ []) text

abbrev pub is_source_value : List ℕ → Bool
is_source_value value = lacks (double_quote ∷ []) value && lacks (null ∷ []) value

abbrev pub has_arm : Arms → Bool
has_arm no_arm = false
has_arm (arm e body arms) = true

abbrev pub has_value : List Expr → Bool
has_value [] = false
has_value (e ∷ es) = true

abbrev mutual
  -- a node, in a message or not
  pub is_sourced_node : Bool → Node → Bool
  is_sourced_node in_message (TextNode text span) = is_source_text text
  is_sourced_node in_message (Print e phname span) = in_message || not (is_some phname)
  is_sourced_node in_message (If arms other span) = has_arm arms && are_sourced_arms arms && is_sourced_otherwise other
  is_sourced_node in_message (Switch e cases other span) = are_sourced_cases cases && is_sourced_otherwise other
  is_sourced_node in_message (For name index e body span) = are_sourced_nodes false body
  is_sourced_node in_message (Let name e span) = true
  is_sourced_node in_message (LetBlock name kind body span) = are_sourced_nodes false body
  is_sourced_node in_message (Call name all given span) = are_sourced_arguments given
  is_sourced_node in_message (MessageNode m other span) = is_sourced_message m && is_sourced_fallback other

  pub are_sourced_nodes : Bool → Nodes → Bool
  are_sourced_nodes in_message no_node = true
  are_sourced_nodes in_message (node n ns) = is_sourced_node in_message n && are_sourced_nodes in_message ns

  pub is_sourced_otherwise : Otherwise → Bool
  is_sourced_otherwise no_otherwise = true
  is_sourced_otherwise (otherwise body) = are_sourced_nodes false body

  pub are_sourced_arms : Arms → Bool
  are_sourced_arms no_arm = true
  are_sourced_arms (arm e body arms) = are_sourced_nodes false body && are_sourced_arms arms

  pub are_sourced_cases : Cases → Bool
  are_sourced_cases no_case = true
  are_sourced_cases (case values body cases) =
      has_value values && are_sourced_nodes false body && are_sourced_cases cases

  pub are_sourced_arguments : Arguments → Bool
  are_sourced_arguments no_argument = true
  are_sourced_arguments (argument name given span rest) = is_sourced_given given && are_sourced_arguments rest

  pub is_sourced_given : Given → Bool
  is_sourced_given (Plain e) = true
  is_sourced_given (Block kind body) = are_sourced_nodes false body

  pub is_sourced_message : Message → Bool
  is_sourced_message (message desc meaning body span) =
      is_source_value desc && is_source_value meaning && is_sourced_body body

  pub is_sourced_fallback : Fallback → Bool
  is_sourced_fallback no_fallback = true
  is_sourced_fallback (fallback m) = is_sourced_message m

  pub is_sourced_body : MessageBody → Bool
  is_sourced_body (Parts ns) = are_sourced_nodes true ns
  is_sourced_body (Plural e offset cases other) = are_sourced_plural_cases cases && is_sourced_body other
  is_sourced_body (Select e cases other) = are_sourced_select_cases cases && is_sourced_body other

  pub are_sourced_plural_cases : PluralCases → Bool
  are_sourced_plural_cases no_plural_case = true
  are_sourced_plural_cases (plural_case n body cases) = is_sourced_body body && are_sourced_plural_cases cases

  pub are_sourced_select_cases : SelectCases → Bool
  are_sourced_select_cases no_select_case = true
  are_sourced_select_cases (select_case word body cases) = is_sourced_body body && are_sourced_select_cases cases

-- and so in each template of a tree
abbrev pub is_sourced_tree : Tree → Bool
is_sourced_tree t = list_all (λ t. are_sourced_nodes false t.body) t.templates
