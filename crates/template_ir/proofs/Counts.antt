-- The holes that are counted in a tree are those of its plan.
use Rattle.std.proofs.Common.{◌≡◌, ℕ, ◌+◌, List, [], ◌∷◌, ◌++◌, Option, Some, None, refl, ◌∙◌, arith}
use Rattle.soy_tree.specs.MessageParts.{MsgPart, MsgParts, ExactArms, NamedArms, SelectArms, TextPart, Placeholder}
use Rattle.soy_tree.specs.MessageParts.{NumberPart, PluralPart, SelectPart, no_part, part, no_exact_arm, exact_arm}
use Rattle.soy_tree.specs.MessageParts.{no_named_arm, named_arm, no_select_arm, select_arm}
use Rattle.soy_tree.specs.MessageText.{MessageItem, Character, Printed, Cut, PrintCut, TagCut, TextCut}
use Rattle.soy_rules.specs.Narrowing.{narrowed}
use Rattle.soy_tree.specs.Nodes.{Node, Nodes, Otherwise, Arms, Cases, Arguments, Given, Message, Fallback, MessageBody}
use Rattle.soy_tree.specs.Nodes.{PluralCases, SelectCases, TextNode, Print, If, Switch, For, Let, LetBlock, Call}
use Rattle.soy_tree.specs.Nodes.{MessageNode, no_node, node, no_otherwise, otherwise, no_arm, arm, no_case, case}
use Rattle.soy_tree.specs.Nodes.{no_argument, argument, Plain, Block, message, no_fallback, fallback, Parts, Plural}
use Rattle.soy_tree.specs.Nodes.{Select, no_plural_case, plural_case, no_select_case, select_case}
use Rattle.soy_rules.specs.Placeholders.{Use}
use Rattle.soy_rules.specs.TypeOf.{Scope, type_of}
use Rattle.soy_base.specs.declared.fault.Span.{Span}
use Rattle.soy_meaning.specs.Walks.Holes.{hole_count}
use Rattle.soy_meaning.specs.Paths.Plan.{Plan, Either, Nowhere, arms_meet, any_of}
use Rattle.soy_pieces.specs.Site.{Site}
use Rattle.soy_meaning.specs.Paths.PlanOfNodes.{PlanContext, arm_plans, argument_frames, body_plan, body_scope}
use Rattle.soy_meaning.specs.Paths.PlanOfNodes.{case_plans}
use Rattle.soy_meaning.specs.Paths.PlanOfNodes.{fallback_plans, given_frame, node_plan, nodes_plan, other_plan}
use Rattle.soy_meaning.specs.Paths.PlanOfNodes.{plural_plans}
use Rattle.soy_meaning.specs.Paths.PlanOfNodes.{scope_past, select_plans, source_plan, translated_plan}
use Rattle.soy_pieces.specs.Site.{starts_at}
use Rattle.soy_meaning.specs.Paths.PlanOfNodes.{translation_plans}
use Rattle.soy_rules.specs.Placeholders.{uses_of}
use Rattle.soy_meaning.specs.Paths.PlanOfParts.{cut_plan, exact_plans, named_plans, part_plan, parts_plan}
use Rattle.soy_rules.specs.Placeholders.{placeholder_cut}
use Rattle.soy_meaning.specs.Paths.PlanOfParts.{select_arm_plans, tag_plan, text_plan}
use Rattle.template_ir.specs.HoleCounts.{arm_holes, argument_holes, body_holes, case_holes, cut_holes, exact_holes}
use Rattle.template_ir.specs.HoleCounts.{fallback_holes, given_holes, named_holes, node_holes, nodes_holes, other_holes}
use Rattle.template_ir.specs.HoleCounts.{part_holes, parts_holes, plural_holes, select_holes, source_holes, tag_holes}
use Rattle.template_ir.specs.HoleCounts.{translated_holes, translation_holes, word_holes}

-- ---- plans side by side

abbrev pub all_holes : List Plan → ℕ
all_holes [] = 0
all_holes (p ∷ ps) = hole_count p + all_holes ps

both : (a b x y : ℕ) → a ≡ x → b ≡ y → a + b ≡ x + y
both a b x y h k = omega (arith, h, k)

any_holes : (p : Plan) (ps : List Plan) → hole_count (any_of p ps) ≡ hole_count p + all_holes ps
any_holes p [] = omega arith
any_holes p (q ∷ qs) = let h = any_holes (Either p q) qs in omega (arith, h)

meet_holes : (at : Site) (ps : List Plan) → hole_count (arms_meet at ps) ≡ all_holes ps
meet_holes at ps = let h = any_holes Nowhere ps in omega (arith, h)

joined_holes : (ps qs : List Plan) → all_holes (ps ++ qs) ≡ all_holes ps + all_holes qs
joined_holes [] qs = omega arith
joined_holes (p ∷ ps) qs = let h = joined_holes ps qs in omega (arith, h)

one_more : (ps : List Plan) (q : Plan) (m n : ℕ) → all_holes ps ≡ m → hole_count q ≡ n
    → all_holes (ps ++ (q ∷ [])) ≡ m + n
one_more ps q m n h k = let j = joined_holes ps (q ∷ []) in omega (arith, h, k, j)

pub text_count : (at : Site) (text : List ℕ) → hole_count (text_plan at text) ≡ 0
text_count at [] = refl
text_count at (c ∷ cs) = refl

-- ---- translations

pub tag_count : (scope : Scope) (at : Site) (text : List ℕ) (tag : List MessageItem)
    → hole_count (tag_plan scope at text tag) ≡ tag_holes tag
tag_count scope at text [] = text_count at text
tag_count scope at text (Character c span ∷ rest) = tag_count scope at (text ++ (c ∷ [])) rest
tag_count scope at text (Printed e phname span ∷ rest) =
    let h = tag_count scope at [] rest in let k = text_count at text in omega (arith, h, k)

pub cut_count : (scope : Scope) (at : Site) (cut : Option Cut) → hole_count (cut_plan scope at cut) ≡ cut_holes cut
cut_count scope at None = refl
cut_count scope at (Some (TextCut text)) = refl
cut_count scope at (Some (PrintCut e phname span)) = refl
cut_count scope at (Some (TagCut tag)) = tag_count scope at [] tag

module _ (uses : List Use) (scope : Scope) (at : Site) where
  mutual
    pub part_count : (p : MsgPart) → hole_count (part_plan uses scope at p) ≡ part_holes uses p
    part_count (TextPart text) = text_count at text
    part_count (Placeholder name) = cut_count scope at (placeholder_cut name uses uses)
    part_count NumberPart = refl
    part_count (PluralPart ordinal name offset exact named) =
        meet_holes at (exact_plans uses scope at exact ++ named_plans uses scope at named)
        ∙ (joined_holes (exact_plans uses scope at exact) (named_plans uses scope at named)
        ∙ both (all_holes (exact_plans uses scope at exact)) (all_holes (named_plans uses scope at named))
        (exact_holes uses exact) (named_holes uses named) (exact_count exact) (named_count named))
    part_count (SelectPart name arms) = meet_holes at (select_arm_plans uses scope at arms) ∙ word_count arms

    pub parts_count : (ps : MsgParts) → hole_count (parts_plan uses scope at ps) ≡ parts_holes uses ps
    parts_count no_part = refl
    parts_count (part p ps) =
        both (hole_count (part_plan uses scope at p)) (hole_count (parts_plan uses scope at ps)) (part_holes uses p)
        (parts_holes uses ps) (part_count p) (parts_count ps)

    pub exact_count : (arms : ExactArms) → all_holes (exact_plans uses scope at arms) ≡ exact_holes uses arms
    exact_count no_exact_arm = refl
    exact_count (exact_arm n ps arms) =
        both (hole_count (parts_plan uses scope at ps)) (all_holes (exact_plans uses scope at arms))
        (parts_holes uses ps) (exact_holes uses arms) (parts_count ps) (exact_count arms)

    pub named_count : (arms : NamedArms) → all_holes (named_plans uses scope at arms) ≡ named_holes uses arms
    named_count no_named_arm = refl
    named_count (named_arm category ps arms) =
        both (hole_count (parts_plan uses scope at ps)) (all_holes (named_plans uses scope at arms))
        (parts_holes uses ps) (named_holes uses arms) (parts_count ps) (named_count arms)

    pub word_count : (arms : SelectArms) → all_holes (select_arm_plans uses scope at arms) ≡ word_holes uses arms
    word_count no_select_arm = refl
    word_count (select_arm word ps arms) =
        both (hole_count (parts_plan uses scope at ps)) (all_holes (select_arm_plans uses scope at arms))
        (parts_holes uses ps) (word_holes uses arms) (parts_count ps) (word_count arms)

pub translated_count : (uses : List Use) (scope : Scope) (at : Site) (parts : Option MsgParts)
    → all_holes (translated_plan uses scope at parts) ≡ translated_holes uses parts
translated_count uses scope at None = refl
translated_count uses scope at (Some parts) = let h = parts_count uses scope at parts in omega (arith, h)

-- ---- nodes

module _ (c : PlanContext) where
  pub translation_count : (m : Message) (scope : Scope) (at : Site)
      → all_holes (translation_plans c m scope at) ≡ translation_holes c.translation m
  translation_count m scope at = translated_count (uses_of m) scope at (c.translation m)

  fallback_count : (other : Fallback) (scope : Scope) (at : Site)
      → all_holes (fallback_plans c other scope at) ≡ fallback_holes c.translation other
  fallback_count no_fallback scope at = refl
  fallback_count (fallback m) scope at = translation_count m scope at

  mutual
    pub node_count : (n : Node) (scope : Scope) → hole_count (node_plan c n scope) ≡ node_holes c.translation n
    node_count (TextNode text span) scope = text_count (starts_at c.file span) text
    node_count (Print e phname span) scope = refl
    node_count (If arms other span) scope =
        meet_holes (starts_at c.file span) (arm_plans c arms scope ++ (other_plan c other scope ∷ []))
        ∙ one_more (arm_plans c arms scope) (other_plan c other scope) (arm_holes c.translation arms)
        (other_holes c.translation other) (arm_count arms scope) (other_count other scope)
    node_count (Switch e cases other span) scope =
        meet_holes (starts_at c.file span) (case_plans c cases scope ++ (other_plan c other scope ∷ []))
        ∙ one_more (case_plans c cases scope) (other_plan c other scope) (case_holes c.translation cases)
        (other_holes c.translation other) (case_count cases scope) (other_count other scope)
    node_count (For name index e body span) scope =
        nodes_count body (body_scope name index (type_of e scope) scope)
    node_count (Let name e span) scope = refl
    node_count (LetBlock name kind body span) scope = nodes_count body scope
    node_count (Call name all given span) scope = let h = argument_count given scope in omega (arith, h)
    node_count (MessageNode m other span) scope =
        let at : Site = starts_at c.file span in
        let own = translation_count m scope at in
        let others = fallback_count other scope at in
        let two = joined_holes (translation_plans c m scope at) (fallback_plans c other scope at) in
        let source = source_count m scope at in
        let all = meet_holes at (source_plan c m scope at
        ∷ (translation_plans c m scope at ++ fallback_plans c other scope at)) in
        omega (arith, own, others, two, source, all)

    pub nodes_count : (ns : Nodes) (scope : Scope) → hole_count (nodes_plan c ns scope) ≡ nodes_holes c.translation ns
    nodes_count no_node scope = refl
    nodes_count (node n ns) scope =
        both (hole_count (node_plan c n scope)) (hole_count (nodes_plan c ns (scope_past n scope)))
        (node_holes c.translation n) (nodes_holes c.translation ns) (node_count n scope)
        (nodes_count ns (scope_past n scope))

    pub other_count : (other : Otherwise) (scope : Scope)
        → hole_count (other_plan c other scope) ≡ other_holes c.translation other
    other_count no_otherwise scope = refl
    other_count (otherwise body) scope = nodes_count body scope

    pub arm_count : (arms : Arms) (scope : Scope) → all_holes (arm_plans c arms scope) ≡ arm_holes c.translation arms
    arm_count no_arm scope = refl
    arm_count (arm e body arms) scope =
        both (hole_count (nodes_plan c body (narrowed e scope))) (all_holes (arm_plans c arms scope))
        (nodes_holes c.translation body) (arm_holes c.translation arms) (nodes_count body (narrowed e scope))
        (arm_count arms scope)

    pub case_count : (cases : Cases) (scope : Scope) → all_holes (case_plans c cases scope) ≡ case_holes c.translation
        cases
    case_count no_case scope = refl
    case_count (case values body cases) scope =
        both (hole_count (nodes_plan c body scope)) (all_holes (case_plans c cases scope))
        (nodes_holes c.translation body) (case_holes c.translation cases) (nodes_count body scope)
        (case_count cases scope)

    pub argument_count : (given : Arguments) (scope : Scope)
        → hole_count (argument_frames c given scope) ≡ argument_holes c.translation given
    argument_count no_argument scope = refl
    argument_count (argument name given span rest) scope =
        both (hole_count (given_frame c given span scope)) (hole_count (argument_frames c rest scope))
        (given_holes c.translation given) (argument_holes c.translation rest) (given_count given span scope)
        (argument_count rest scope)

    pub given_count : (given : Given) (span : Span) (scope : Scope)
        → hole_count (given_frame c given span scope) ≡ given_holes c.translation given
    given_count (Plain e) span scope = refl
    given_count (Block kind body) span scope = nodes_count body scope

    pub source_count : (m : Message) (scope : Scope) (at : Site)
        → hole_count (source_plan c m scope at) ≡ source_holes c.translation m
    source_count (message desc meaning body span) scope at = body_count body scope at

    pub body_count : (body : MessageBody) (scope : Scope) (at : Site)
        → hole_count (body_plan c body scope at) ≡ body_holes c.translation body
    body_count (Parts ns) scope at = nodes_count ns scope
    body_count (Plural e offset cases other) scope at =
        meet_holes at (plural_plans c cases scope at ++ (body_plan c other scope at ∷ []))
        ∙ one_more (plural_plans c cases scope at) (body_plan c other scope at) (plural_holes c.translation cases)
        (body_holes c.translation other) (plural_count cases scope at) (body_count other scope at)
    body_count (Select e cases other) scope at =
        meet_holes at (select_plans c cases scope at ++ (body_plan c other scope at ∷ []))
        ∙ one_more (select_plans c cases scope at) (body_plan c other scope at) (select_holes c.translation cases)
        (body_holes c.translation other) (select_count cases scope at) (body_count other scope at)

    pub plural_count : (cases : PluralCases) (scope : Scope) (at : Site)
        → all_holes (plural_plans c cases scope at) ≡ plural_holes c.translation cases
    plural_count no_plural_case scope at = refl
    plural_count (plural_case n body cases) scope at =
        both (hole_count (body_plan c body scope at)) (all_holes (plural_plans c cases scope at))
        (body_holes c.translation body) (plural_holes c.translation cases) (body_count body scope at)
        (plural_count cases scope at)

    pub select_count : (cases : SelectCases) (scope : Scope) (at : Site)
        → all_holes (select_plans c cases scope at) ≡ select_holes c.translation cases
    select_count no_select_case scope at = refl
    select_count (select_case word body cases) scope at =
        both (hole_count (body_plan c body scope at)) (all_holes (select_plans c cases scope at))
        (body_holes c.translation body) (select_holes c.translation cases) (body_count body scope at)
        (select_count cases scope at)
