-- When a translation fits a message.
--
-- Each plural and each select in it has an arm `other`, and names a selector of its kind among those of the message.
-- Example: `{N, plural, other {#}}` fits `{plural $n}{case 1}a{default}b{/plural}`, and `{M, plural, other {#}}`
-- doesn't.
use Rattle.std.specs.Prelude.{Bool, true, false, ◌&&◌, ◌||◌, List, [], ◌∷◌, Option, Some, None, IsTrue, bytes_eq, codes}
use Rattle.std.specs.Prelude.{is_some}
use Rattle.plural_rules.specs.Category.{is_same}
use Rattle.plural_rules.specs.declared.category.Category.TheVariants as category
use Rattle.soy_tree.specs.MessageParts.{MsgPart, MsgParts, ExactArms, NamedArms, SelectArms, PluralPart, SelectPart}
use Rattle.soy_tree.specs.MessageParts.{no_part, part, no_exact_arm, exact_arm, no_named_arm, named_arm}
use Rattle.soy_tree.specs.MessageParts.{no_select_arm, select_arm}
use Rattle.soy_tree.specs.Nodes.{Node, Nodes, Otherwise, Arms, Cases, Arguments, Given, Message, Fallback, MessageBody}
use Rattle.soy_tree.specs.Nodes.{PluralCases, SelectCases, If, Switch, For, LetBlock, Call, MessageNode, no_node, node}
use Rattle.soy_tree.specs.Nodes.{no_otherwise, otherwise, no_arm, arm, no_case, case, no_argument, argument, Plain}
use Rattle.soy_tree.specs.Nodes.{Block, message, no_fallback, fallback, Parts, Plural, Select, no_plural_case}
use Rattle.soy_tree.specs.Nodes.{plural_case, no_select_case, select_case}
use Rattle.soy_rules.specs.Placeholders.{Use}
use Rattle.soy_rules.specs.Templates.{Declared}
use Rattle.soy_pieces.specs.Branch.{selector}
use Rattle.soy_rules.specs.Placeholders.{uses_of}

abbrev pub has_other : NamedArms → Bool
has_other no_named_arm = false
has_other (named_arm of ps arms) = is_same of category.Other || has_other arms

abbrev pub has_other_word : SelectArms → Bool
has_other_word no_select_arm = false
has_other_word (select_arm word ps arms) = bytes_eq word (codes "other") || has_other_word arms

module _ (uses : List Use) where
  abbrev mutual
    pub part_fits : MsgPart → Bool
    part_fits (PluralPart ordinal name offset exact named) =
        (is_some (selector true name uses uses) && has_other named) && (exact_fit exact && named_fit named)
    part_fits (SelectPart name arms) =
        (is_some (selector false name uses uses) && has_other_word arms) && select_fit arms
    part_fits _ = true

    pub parts_fit : MsgParts → Bool
    parts_fit no_part = true
    parts_fit (part p ps) = part_fits p && parts_fit ps

    pub exact_fit : ExactArms → Bool
    exact_fit no_exact_arm = true
    exact_fit (exact_arm n ps arms) = parts_fit ps && exact_fit arms

    pub named_fit : NamedArms → Bool
    named_fit no_named_arm = true
    named_fit (named_arm of ps arms) = parts_fit ps && named_fit arms

    pub select_fit : SelectArms → Bool
    select_fit no_select_arm = true
    select_fit (select_arm word ps arms) = parts_fit ps && select_fit arms

abbrev pub FitsMessage : List Use → Option MsgParts → Type 0
FitsMessage uses None = Unit {0}
FitsMessage uses (Some parts) = IsTrue (parts_fit uses parts)

-- ---- the translations of the messages of a tree

module _ (translation : Message → Option MsgParts) where
  abbrev pub MessageFits : Message → Type 0
  MessageFits m = FitsMessage (uses_of m) (translation m)

  abbrev pub FallbackFits : Fallback → Type 0
  FallbackFits no_fallback = Unit {0}
  FallbackFits (fallback m) = MessageFits m

  abbrev mutual
    pub NodeFits : Node → Type 0
    NodeFits (If arms other span) = ArmsFit arms × OtherFits other
    NodeFits (Switch e cases other span) = CasesFit cases × OtherFits other
    NodeFits (For name index e body span) = NodesFit body
    NodeFits (LetBlock name kind body span) = NodesFit body
    NodeFits (Call name all given span) = ArgumentsFit given
    NodeFits (MessageNode (message desc meaning body within) other span) =
        MessageFits (message desc meaning body within) × BodyFits body × FallbackFits other
    NodeFits _ = Unit {0}

    pub NodesFit : Nodes → Type 0
    NodesFit no_node = Unit {0}
    NodesFit (node n ns) = NodeFits n × NodesFit ns

    pub OtherFits : Otherwise → Type 0
    OtherFits no_otherwise = Unit {0}
    OtherFits (otherwise body) = NodesFit body

    pub ArmsFit : Arms → Type 0
    ArmsFit no_arm = Unit {0}
    ArmsFit (arm e body arms) = NodesFit body × ArmsFit arms

    pub CasesFit : Cases → Type 0
    CasesFit no_case = Unit {0}
    CasesFit (case values body cases) = NodesFit body × CasesFit cases

    pub ArgumentsFit : Arguments → Type 0
    ArgumentsFit no_argument = Unit {0}
    ArgumentsFit (argument name given span rest) = GivenFits given × ArgumentsFit rest

    pub GivenFits : Given → Type 0
    GivenFits (Plain e) = Unit {0}
    GivenFits (Block kind body) = NodesFit body

    pub BodyFits : MessageBody → Type 0
    BodyFits (Parts ns) = NodesFit ns
    BodyFits (Plural e offset cases other) = PluralFits cases × BodyFits other
    BodyFits (Select e cases other) = SelectFits cases × BodyFits other

    pub PluralFits : PluralCases → Type 0
    PluralFits no_plural_case = Unit {0}
    PluralFits (plural_case n body cases) = BodyFits body × PluralFits cases

    pub SelectFits : SelectCases → Type 0
    SelectFits no_select_case = Unit {0}
    SelectFits (select_case word body cases) = BodyFits body × SelectFits cases

  -- each message of these templates has a translation that fits it, or none
  abbrev pub TranslationsFit : List Declared → Type 0
  TranslationsFit [] = Unit {0}
  TranslationsFit (d ∷ ds) = NodesFit d.template.body × TranslationsFit ds
