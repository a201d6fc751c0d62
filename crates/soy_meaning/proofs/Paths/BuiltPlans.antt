-- In the plans of trees arms stand side by side under a meet alone.
use Rattle.std.specs.Prelude.{ℕ, List, [], ◌∷◌, ◌++◌, map, Option, Some, None}
use Rattle.soy_rules.specs.TypeOf.{Scope, type_of}
use Rattle.soy_rules.specs.Narrowing.{narrowed}
use Rattle.soy_tree.specs.MessageText.{MessageItem, Character, Printed, Cut, TextCut, PrintCut, TagCut}
use Rattle.soy_tree.specs.MessageParts.{MsgPart, MsgParts, ExactArms, NamedArms, SelectArms, TextPart, Placeholder}
use Rattle.soy_tree.specs.MessageParts.{NumberPart, PluralPart, SelectPart, no_part, part, no_exact_arm, exact_arm}
use Rattle.soy_tree.specs.MessageParts.{no_named_arm, named_arm, no_select_arm, select_arm}
use Rattle.soy_tree.specs.Nodes.{Node, Nodes, Otherwise, Arms, Cases, Arguments, Given, Message, Fallback, MessageBody}
use Rattle.soy_tree.specs.Nodes.{PluralCases, SelectCases, TextNode, Print, If, Switch, For, Let, LetBlock, Call}
use Rattle.soy_tree.specs.Nodes.{MessageNode, no_node, node, no_otherwise, otherwise, no_arm, arm, no_case, case}
use Rattle.soy_tree.specs.Nodes.{no_argument, argument, Plain, Block, message, no_fallback, fallback, Parts, Plural}
use Rattle.soy_tree.specs.Nodes.{Select, no_plural_case, plural_case, no_select_case, select_case}
use Rattle.soy_rules.specs.Placeholders.{Use}
use Rattle.soy_rules.specs.Templates.{Declared, param_scope}
use Rattle.soy_base.specs.declared.fault.Span.{Span}
use Rattle.soy_meaning.specs.Paths.Plan.{Plan, Nowhere, Either, any_of, arms_meet, in_turn}
use Rattle.soy_pieces.specs.Site.{Site}
use Rattle.soy_meaning.specs.Paths.PlanOfParts as parts_
use Rattle.soy_meaning.specs.Paths.PlanOfParts.{cut_plan, tag_plan, text_plan, parts_plan, part_plan}
use Rattle.soy_rules.specs.Placeholders.{placeholder_cut}
use Rattle.soy_meaning.specs.Paths.PlanOfParts.{exact_plans, named_plans}
use Rattle.soy_meaning.specs.Paths.PlanOfNodes.{PlanContext, arm_plans, argument_frames, body_plan, body_scope}
use Rattle.soy_meaning.specs.Paths.PlanOfNodes.{case_plans}
use Rattle.soy_meaning.specs.Paths.PlanOfNodes.{declared_plan, fallback_plans, given_frame, node_plan, nodes_plan}
use Rattle.soy_meaning.specs.Paths.PlanOfNodes.{other_plan}
use Rattle.soy_meaning.specs.Paths.PlanOfNodes.{plural_plans, scope_past, select_plans, source_plan}
use Rattle.soy_pieces.specs.Site.{starts_at}
use Rattle.soy_meaning.specs.Paths.PlanOfNodes.{translated_plan, translation_plans}
use Rattle.soy_rules.specs.Placeholders.{uses_of}
use Rattle.soy_meaning.proofs.Walks.FewStates.{AreArms, IsBuilt}

abbrev AllBuilt : List Plan → Type 0
AllBuilt [] = Unit {0}
AllBuilt (p ∷ ps) = IsBuilt p × AllBuilt ps

all_joined : (ps qs : List Plan) → AllBuilt ps → AllBuilt qs → AllBuilt (ps ++ qs)
all_joined [] qs a b = b
all_joined (p ∷ ps) qs a b = (a.0, all_joined ps qs a.1 b)

any_built : (p : Plan) (qs : List Plan) → AreArms p → AllBuilt qs → AreArms (any_of p qs)
any_built p [] a b = a
any_built p (q ∷ qs) a b = any_built (Either p q) qs (a, b.0) b.1

arms_built : (at : Site) (ps : List Plan) → AllBuilt ps → IsBuilt (arms_meet at ps)
arms_built at ps all = any_built Nowhere ps tt all

text_built : (at : Site) (text : List ℕ) → IsBuilt (text_plan at text)
text_built at [] = tt
text_built at (c ∷ text) = tt

tag_built : (scope : Scope) (at : Site) (text : List ℕ) (tag : List MessageItem) → IsBuilt (tag_plan scope at text tag)
tag_built scope at text [] = text_built at text
tag_built scope at text (Character c span ∷ rest) = tag_built scope at (text ++ (c ∷ [])) rest
tag_built scope at text (Printed e phname span ∷ rest) = (text_built at text, (tt, tag_built scope at [] rest))

cut_built : (scope : Scope) (at : Site) (cut : Option Cut) → IsBuilt (cut_plan scope at cut)
cut_built scope at None = tt
cut_built scope at (Some (TextCut text)) = tt
cut_built scope at (Some (PrintCut e phname span)) = tt
cut_built scope at (Some (TagCut tag)) = tag_built scope at [] tag

module _ (uses : List Use) (scope : Scope) (at : Site) where
  mutual
    part_built : (p : MsgPart) → IsBuilt (part_plan uses scope at p)
    part_built (TextPart text) = text_built at text
    part_built (Placeholder name) = cut_built scope at (placeholder_cut name uses uses)
    part_built NumberPart = tt
    part_built (PluralPart ordinal name offset exact named) =
        arms_built at (exact_plans uses scope at exact ++ named_plans uses scope at named)
        (all_joined (exact_plans uses scope at exact) (named_plans uses scope at named) (exact_built exact)
        (named_built named))
    part_built (SelectPart name arms) = arms_built at (parts_.select_arm_plans uses scope at arms)
        (select_arms_built arms)

    pub parts_built : (ps : MsgParts) → IsBuilt (parts_plan uses scope at ps)
    parts_built no_part = tt
    parts_built (part p ps) = (part_built p, parts_built ps)

    exact_built : (arms : ExactArms) → AllBuilt (exact_plans uses scope at arms)
    exact_built no_exact_arm = tt
    exact_built (exact_arm n ps arms) = (parts_built ps, exact_built arms)

    named_built : (arms : NamedArms) → AllBuilt (named_plans uses scope at arms)
    named_built no_named_arm = tt
    named_built (named_arm category ps arms) = (parts_built ps, named_built arms)

    select_arms_built : (arms : SelectArms) → AllBuilt (parts_.select_arm_plans uses scope at arms)
    select_arms_built no_select_arm = tt
    select_arms_built (select_arm word ps arms) = (parts_built ps, select_arms_built arms)

translated_built : (uses : List Use) (scope : Scope) (at : Site) (found : Option MsgParts)
    → AllBuilt (translated_plan uses scope at found)
translated_built uses scope at None = tt
translated_built uses scope at (Some ps) = (parts_built uses scope at ps, tt)

module _ (c : PlanContext) where
  fallback_built : (other : Fallback) (scope : Scope) (at : Site) → AllBuilt (fallback_plans c other scope at)
  fallback_built no_fallback scope at = tt
  fallback_built (fallback m) scope at = translated_built (uses_of m) scope at (c.translation m)

  mutual
    node_built : (n : Node) (scope : Scope) → IsBuilt (node_plan c n scope)
    node_built (TextNode text span) scope = text_built (starts_at c.file span) text
    node_built (Print e phname span) scope = tt
    node_built (If arms other span) scope =
        arms_built (starts_at c.file span) (arm_plans c arms scope ++ (other_plan c other scope ∷ []))
        (all_joined (arm_plans c arms scope) (other_plan c other scope ∷ []) (arm_plans_built arms scope)
        (other_built other scope, tt))
    node_built (Switch e cases other span) scope =
        arms_built (starts_at c.file span) (case_plans c cases scope ++ (other_plan c other scope ∷ []))
        (all_joined (case_plans c cases scope) (other_plan c other scope ∷ []) (cases_built cases scope)
        (other_built other scope, tt))
    node_built (For name index e body span) scope = nodes_built body (body_scope name index (type_of e scope) scope)
    node_built (Let name e span) scope = tt
    node_built (LetBlock name kind body span) scope = nodes_built body scope
    node_built (Call name all given span) scope = (tt, arguments_built given scope)
    node_built (MessageNode m other span) scope =
        let at : Site = starts_at c.file span in
        arms_built at (source_plan c m scope at ∷ (translation_plans c m scope at ++ fallback_plans c other scope at)) (
          source_built m scope at,
          all_joined (translation_plans c m scope at) (fallback_plans c other scope at)
              (translated_built (uses_of m) scope at (c.translation m)) (fallback_built other scope at),
        )

    pub nodes_built : (ns : Nodes) (scope : Scope) → IsBuilt (nodes_plan c ns scope)
    nodes_built no_node scope = tt
    nodes_built (node n ns) scope = (node_built n scope, nodes_built ns (scope_past n scope))

    other_built : (other : Otherwise) (scope : Scope) → IsBuilt (other_plan c other scope)
    other_built no_otherwise scope = tt
    other_built (otherwise body) scope = nodes_built body scope

    arm_plans_built : (arms : Arms) (scope : Scope) → AllBuilt (arm_plans c arms scope)
    arm_plans_built no_arm scope = tt
    arm_plans_built (arm e body arms) scope = (nodes_built body (narrowed e scope), arm_plans_built arms scope)

    cases_built : (cases : Cases) (scope : Scope) → AllBuilt (case_plans c cases scope)
    cases_built no_case scope = tt
    cases_built (case values body cases) scope = (nodes_built body scope, cases_built cases scope)

    arguments_built : (given : Arguments) (scope : Scope) → IsBuilt (argument_frames c given scope)
    arguments_built no_argument scope = tt
    arguments_built (argument name given span rest) scope = (given_built given span scope, arguments_built rest scope)

    given_built : (given : Given) (span : Span) (scope : Scope) → IsBuilt (given_frame c given span scope)
    given_built (Plain e) span scope = tt
    given_built (Block kind body) span scope = nodes_built body scope

    source_built : (m : Message) (scope : Scope) (at : Site) → IsBuilt (source_plan c m scope at)
    source_built (message desc meaning body span) scope at = body_built body scope at

    body_built : (body : MessageBody) (scope : Scope) (at : Site) → IsBuilt (body_plan c body scope at)
    body_built (Parts ns) scope at = nodes_built ns scope
    body_built (Plural e offset cases other) scope at =
        arms_built at (plural_plans c cases scope at ++ (body_plan c other scope at ∷ []))
        (all_joined (plural_plans c cases scope at) (body_plan c other scope at ∷ []) (plurals_built cases scope at)
        (body_built other scope at, tt))
    body_built (Select e cases other) scope at =
        arms_built at (select_plans c cases scope at ++ (body_plan c other scope at ∷ []))
        (all_joined (select_plans c cases scope at) (body_plan c other scope at ∷ []) (selects_built cases scope at)
        (body_built other scope at, tt))

    plurals_built : (cases : PluralCases) (scope : Scope) (at : Site) → AllBuilt (plural_plans c cases scope at)
    plurals_built no_plural_case scope at = tt
    plurals_built (plural_case n body cases) scope at = (body_built body scope at, plurals_built cases scope at)

    selects_built : (cases : SelectCases) (scope : Scope) (at : Site) → AllBuilt (select_plans c cases scope at)
    selects_built no_select_case scope at = tt
    selects_built (select_case word body cases) scope at = (body_built body scope at, selects_built cases scope at)

pub trees_built : (translation : Message → Option MsgParts) (all ds : List Declared)
    → IsBuilt (in_turn (map (declared_plan translation all) ds))
trees_built translation all [] = tt
trees_built translation all (d ∷ ds) = (
  nodes_built (record { file = d.file; namespace = d.namespace; declared = all; translation = translation })
      d.template.body (param_scope d.template.params),
  trees_built translation all ds,
)
