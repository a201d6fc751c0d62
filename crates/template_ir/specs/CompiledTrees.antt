-- What the translations of the messages of templates are, beside that they fit them.
--
-- Each is the parts of a pattern of ICU text. So `#` stands directly in an arm of a plural alone.
-- Example: `{N, plural, other {#}}` has such parts, and `#` by itself doesn't.
use Rattle.std.specs.Prelude.{ℕ, List, [], ◌∷◌, Option, Some, None}
use Rattle.soy_rules.specs.IcuText.{IsPattern}
use Rattle.soy_tree.specs.MessageParts.{MsgParts}
use Rattle.soy_tree.specs.Nodes.{Node, Nodes, Otherwise, Arms, Cases, Arguments, Given, Message, Fallback, If, Switch}
use Rattle.soy_tree.specs.Nodes.{For}
use Rattle.soy_tree.specs.Nodes.{LetBlock, Call, MessageNode, no_node, node, no_otherwise, otherwise, no_arm, arm}
use Rattle.soy_tree.specs.Nodes.{no_case, case, no_argument, argument, Plain, Block, no_fallback, fallback}
use Rattle.soy_rules.specs.Templates.{Declared}

abbrev pub IsPatternThere : Option MsgParts → Type 0
IsPatternThere None = Unit {0}
IsPatternThere (Some parts) = (text : List ℕ) × IsPattern text parts

module _ (translation : Message → Option MsgParts) where
  abbrev pub FallbackPattern : Fallback → Type 0
  FallbackPattern no_fallback = Unit {0}
  FallbackPattern (fallback m) = IsPatternThere (translation m)

  abbrev mutual
    pub NodePatterns : Node → Type 0
    NodePatterns (If arms other span) = ArmPatterns arms × OtherPatterns other
    NodePatterns (Switch e cases other span) = CasePatterns cases × OtherPatterns other
    NodePatterns (For name index e body span) = NodesPatterns body
    NodePatterns (LetBlock name kind body span) = NodesPatterns body
    NodePatterns (Call name all given span) = ArgumentPatterns given
    NodePatterns (MessageNode m other span) = IsPatternThere (translation m) × FallbackPattern other
    NodePatterns _ = Unit {0}

    pub NodesPatterns : Nodes → Type 0
    NodesPatterns no_node = Unit {0}
    NodesPatterns (node n ns) = NodePatterns n × NodesPatterns ns

    pub OtherPatterns : Otherwise → Type 0
    OtherPatterns no_otherwise = Unit {0}
    OtherPatterns (otherwise body) = NodesPatterns body

    pub ArmPatterns : Arms → Type 0
    ArmPatterns no_arm = Unit {0}
    ArmPatterns (arm e body arms) = NodesPatterns body × ArmPatterns arms

    pub CasePatterns : Cases → Type 0
    CasePatterns no_case = Unit {0}
    CasePatterns (case values body cases) = NodesPatterns body × CasePatterns cases

    pub ArgumentPatterns : Arguments → Type 0
    ArgumentPatterns no_argument = Unit {0}
    ArgumentPatterns (argument name given span rest) = GivenPatterns given × ArgumentPatterns rest

    pub GivenPatterns : Given → Type 0
    GivenPatterns (Plain e) = Unit {0}
    GivenPatterns (Block kind body) = NodesPatterns body

  -- each message of these templates has a translation that is a pattern, or none
  abbrev pub ArePatterns : List Declared → Type 0
  ArePatterns [] = Unit {0}
  ArePatterns (d ∷ ds) = NodesPatterns d.template.body × ArePatterns ds
