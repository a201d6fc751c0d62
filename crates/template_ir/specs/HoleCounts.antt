-- How many holes stand in a tree, in the order in which the walk first meets them.
--
-- A print is a hole, and so is a call, which is met before the blocks of its params; in a translation each `#` is one,
-- and each print of each use of a placeholder. A message has the holes of its source, then those of its translation,
-- then those of its fallback's translation, whichever of the three is chosen. Arms come in their order and the else or
-- default last.
-- Example: `{if $x}{$y}{/if}{call m}{param p kind="html"}{$z}{/param}{/call}` has three holes: `{$y}`, the call,
-- `{$z}`.
use Rattle.std.specs.Prelude.{ℕ, ◌+◌, List, [], ◌∷◌, Option, Some, None}
use Rattle.soy_tree.specs.MessageParts.{MsgPart, MsgParts, ExactArms, NamedArms, SelectArms, TextPart, Placeholder}
use Rattle.soy_tree.specs.MessageParts.{NumberPart, PluralPart, SelectPart, no_part, part, no_exact_arm, exact_arm}
use Rattle.soy_tree.specs.MessageParts.{no_named_arm, named_arm, no_select_arm, select_arm}
use Rattle.soy_tree.specs.MessageText.{MessageItem, Character, Printed, Cut, PrintCut, TagCut}
use Rattle.soy_tree.specs.Nodes.{Node, Nodes, Otherwise, Arms, Cases, Arguments, Given, Message, Fallback, MessageBody}
use Rattle.soy_tree.specs.Nodes.{PluralCases, SelectCases, Print, If, Switch, For, LetBlock, Call, MessageNode, no_node}
use Rattle.soy_tree.specs.Nodes.{node, no_otherwise, otherwise, no_arm, arm, no_case, case, no_argument, argument}
use Rattle.soy_tree.specs.Nodes.{Plain, Block, message, no_fallback, fallback, Parts, Plural, Select, no_plural_case}
use Rattle.soy_tree.specs.Nodes.{plural_case, no_select_case, select_case}
use Rattle.soy_rules.specs.Placeholders.{Use}
use Rattle.soy_rules.specs.Placeholders.{uses_of}
use Rattle.soy_rules.specs.Placeholders.{placeholder_cut}

-- ---- translations

abbrev pub tag_holes : List MessageItem → ℕ
tag_holes [] = 0
tag_holes (Character c span ∷ rest) = tag_holes rest
tag_holes (Printed e phname span ∷ rest) = 1 + tag_holes rest

abbrev pub cut_holes : Option Cut → ℕ
cut_holes (Some (PrintCut e phname span)) = 1
cut_holes (Some (TagCut tag)) = tag_holes tag
cut_holes _ = 0

module _ (uses : List Use) where
  abbrev mutual
    pub part_holes : MsgPart → ℕ
    part_holes (TextPart text) = 0
    part_holes (Placeholder name) = cut_holes (placeholder_cut name uses uses)
    part_holes NumberPart = 1
    part_holes (PluralPart ordinal name offset exact named) = exact_holes exact + named_holes named
    part_holes (SelectPart name arms) = word_holes arms

    pub parts_holes : MsgParts → ℕ
    parts_holes no_part = 0
    parts_holes (part p ps) = part_holes p + parts_holes ps

    pub exact_holes : ExactArms → ℕ
    exact_holes no_exact_arm = 0
    exact_holes (exact_arm n ps arms) = parts_holes ps + exact_holes arms

    pub named_holes : NamedArms → ℕ
    named_holes no_named_arm = 0
    named_holes (named_arm category ps arms) = parts_holes ps + named_holes arms

    pub word_holes : SelectArms → ℕ
    word_holes no_select_arm = 0
    word_holes (select_arm word ps arms) = parts_holes ps + word_holes arms

abbrev pub translated_holes : List Use → Option MsgParts → ℕ
translated_holes uses None = 0
translated_holes uses (Some parts) = parts_holes uses parts

-- ---- nodes

module _ (translation : Message → Option MsgParts) where
  abbrev pub translation_holes : Message → ℕ
  translation_holes m = translated_holes (uses_of m) (translation m)

  abbrev pub fallback_holes : Fallback → ℕ
  fallback_holes no_fallback = 0
  fallback_holes (fallback m) = translation_holes m

  abbrev mutual
    pub node_holes : Node → ℕ
    node_holes (Print e phname span) = 1
    node_holes (If arms other span) = arm_holes arms + other_holes other
    node_holes (Switch e cases other span) = case_holes cases + other_holes other
    node_holes (For name index e body span) = nodes_holes body
    node_holes (LetBlock name kind body span) = nodes_holes body
    node_holes (Call name all given span) = 1 + argument_holes given
    node_holes (MessageNode m other span) = source_holes m + (translation_holes m + fallback_holes other)
    node_holes _ = 0

    pub nodes_holes : Nodes → ℕ
    nodes_holes no_node = 0
    nodes_holes (node n ns) = node_holes n + nodes_holes ns

    pub other_holes : Otherwise → ℕ
    other_holes no_otherwise = 0
    other_holes (otherwise body) = nodes_holes body

    pub arm_holes : Arms → ℕ
    arm_holes no_arm = 0
    arm_holes (arm e body arms) = nodes_holes body + arm_holes arms

    pub case_holes : Cases → ℕ
    case_holes no_case = 0
    case_holes (case values body cases) = nodes_holes body + case_holes cases

    pub argument_holes : Arguments → ℕ
    argument_holes no_argument = 0
    argument_holes (argument name given span rest) = given_holes given + argument_holes rest

    pub given_holes : Given → ℕ
    given_holes (Plain e) = 0
    given_holes (Block kind body) = nodes_holes body

    pub source_holes : Message → ℕ
    source_holes (message desc meaning body span) = body_holes body

    pub body_holes : MessageBody → ℕ
    body_holes (Parts ns) = nodes_holes ns
    body_holes (Plural e offset cases other) = plural_holes cases + body_holes other
    body_holes (Select e cases other) = select_holes cases + body_holes other

    pub plural_holes : PluralCases → ℕ
    plural_holes no_plural_case = 0
    plural_holes (plural_case n body cases) = body_holes body + plural_holes cases

    pub select_holes : SelectCases → ℕ
    select_holes no_select_case = 0
    select_holes (select_case word body cases) = body_holes body + select_holes cases
