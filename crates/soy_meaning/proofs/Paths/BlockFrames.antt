-- The frames that stand in a tree's plan are the blocks of the tree.
use Rattle.std.proofs.Common.{◌≡◌, ℕ, List, [], ◌∷◌, ◌++◌, Option, Some, None, map, refl, sym, ap, ◌∙◌, append_assoc}
use Rattle.std.proofs.lemmas.List.{append-nil}
use Rattle.soy_base.specs.declared.fault.Span.{Span}
use Rattle.soy_base.specs.declared.kind.Kind.{Kind}
use Rattle.soy_tree.specs.MessageParts.{MsgPart, MsgParts, ExactArms, NamedArms, SelectArms, TextPart, Placeholder}
use Rattle.soy_tree.specs.MessageParts.{NumberPart, PluralPart, SelectPart, no_part, part, no_exact_arm, exact_arm}
use Rattle.soy_tree.specs.MessageParts.{no_named_arm, named_arm, no_select_arm, select_arm}
use Rattle.soy_tree.specs.MessageText.{MessageItem, Character, Printed, Cut, TextCut, PrintCut, TagCut}
use Rattle.soy_rules.specs.Narrowing.{narrowed}
use Rattle.soy_tree.specs.Nodes.{Node, Nodes, Otherwise, Arms, Cases, Arguments, Given, Message, Fallback, MessageBody}
use Rattle.soy_tree.specs.Nodes.{PluralCases, SelectCases, TextNode, Print, If, Switch, For, Let, LetBlock, Call}
use Rattle.soy_tree.specs.Nodes.{MessageNode, no_node, node, no_otherwise, otherwise, no_arm, arm, no_case, case}
use Rattle.soy_tree.specs.Nodes.{no_argument, argument, Plain, Block, message, no_fallback, fallback, Parts, Plural}
use Rattle.soy_tree.specs.Nodes.{Select, no_plural_case, plural_case, no_select_case, select_case}
use Rattle.soy_rules.specs.Placeholders.{Use}
use Rattle.soy_rules.specs.TypeOf.{Scope, type_of}
use Rattle.soy_meaning.specs.Paths.Blocks.{TreeBlock, arm_blocks, argument_blocks, block_frame, body_blocks}
use Rattle.soy_meaning.specs.Paths.Blocks.{case_blocks}
use Rattle.soy_meaning.specs.Paths.Blocks.{given_blocks, message_blocks, node_blocks, nodes_blocks, other_blocks}
use Rattle.soy_meaning.specs.Paths.Blocks.{plan_frames}
use Rattle.soy_meaning.specs.Paths.Blocks.{plural_blocks, select_blocks}
use Rattle.soy_meaning.specs.Paths.Plan.{Plan, Either, Nowhere, any_of, arms_meet}
use Rattle.soy_pieces.specs.Site.{Site}
use Rattle.soy_meaning.specs.Paths.PlanOfNodes.{PlanContext, arm_plans, argument_frames, body_plan, body_scope}
use Rattle.soy_meaning.specs.Paths.PlanOfNodes.{case_plans}
use Rattle.soy_meaning.specs.Paths.PlanOfNodes.{fallback_plans, given_frame, node_plan, nodes_plan, other_plan}
use Rattle.soy_meaning.specs.Paths.PlanOfNodes.{plural_plans}
use Rattle.soy_meaning.specs.Paths.PlanOfNodes.{scope_past, select_plans, source_plan, translated_plan}
use Rattle.soy_rules.specs.Placeholders.{uses_of}
use Rattle.soy_pieces.specs.Site.{starts_at}
use Rattle.soy_meaning.specs.Paths.PlanOfParts.{cut_plan, exact_plans, named_plans, part_plan, parts_plan}
use Rattle.soy_rules.specs.Placeholders.{placeholder_cut}
use Rattle.soy_meaning.specs.Paths.PlanOfParts.{select_arm_plans, tag_plan, text_plan}

-- the frames of plans, in turn
abbrev all_frames : List Plan → List (Kind × Plan)
all_frames [] = []
all_frames (p ∷ ps) = plan_frames p ++ all_frames ps

frames_joined : (ps qs : List Plan) → all_frames (ps ++ qs) ≡ all_frames ps ++ all_frames qs
frames_joined [] qs = refl
frames_joined (p ∷ ps) qs = ap (λ l. plan_frames p ++ l) (frames_joined ps qs)
    ∙ sym (append_assoc (plan_frames p) (all_frames ps) (all_frames qs))

any_frames : (p : Plan) (ps : List Plan) → plan_frames (any_of p ps) ≡ plan_frames p ++ all_frames ps
any_frames p [] = sym (append-nil (plan_frames p))
any_frames p (q ∷ qs) = any_frames (Either p q) qs ∙ append_assoc (plan_frames p) (plan_frames q) (all_frames qs)

-- the last of plans
last_frames : (ps : List Plan) (p : Plan) → all_frames (ps ++ (p ∷ [])) ≡ all_frames ps ++ plan_frames p
last_frames ps p = frames_joined ps (p ∷ []) ∙ ap (λ l. all_frames ps ++ l) (append-nil (plan_frames p))

mapped : {A B : Type 0} (f : A → B) (xs ys : List A) → map f (xs ++ ys) ≡ map f xs ++ map f ys
mapped f [] ys = refl
mapped f (x ∷ xs) ys = ap (λ l. f x ∷ l) (mapped f xs ys)

both_same : {A : Type 0} (a b x y : List A) → a ≡ x → b ≡ y → a ++ b ≡ x ++ y
both_same a b x y e h = ap (λ l. l ++ b) e ∙ ap (λ l. x ++ l) h

no_more_frames : (ps qs : List Plan) → all_frames ps ≡ [] → all_frames qs ≡ [] → all_frames (ps ++ qs) ≡ []
no_more_frames ps qs e h = frames_joined ps qs ∙ both_same (all_frames ps) (all_frames qs) [] [] e h

-- ---- a translation has none

text_has_none : (at : Site) (text : List ℕ) → plan_frames (text_plan at text) ≡ []
text_has_none at [] = refl
text_has_none at (c ∷ text) = refl

tag_has_none : (scope : Scope) (at : Site) (text : List ℕ) (tag : List MessageItem)
    → plan_frames (tag_plan scope at text tag) ≡ []
tag_has_none scope at text [] = text_has_none at text
tag_has_none scope at text (Character c span ∷ rest) = tag_has_none scope at (text ++ (c ∷ [])) rest
tag_has_none scope at text (Printed e phname span ∷ rest) =
    both_same (plan_frames (text_plan at text)) (plan_frames (tag_plan scope at [] rest)) [] []
    (text_has_none at text) (tag_has_none scope at [] rest)

cut_has_none : (scope : Scope) (at : Site) (cut : Option Cut) → plan_frames (cut_plan scope at cut) ≡ []
cut_has_none scope at None = refl
cut_has_none scope at (Some (TextCut text)) = refl
cut_has_none scope at (Some (PrintCut e phname span)) = refl
cut_has_none scope at (Some (TagCut tag)) = tag_has_none scope at [] tag

module _ (uses : List Use) (scope : Scope) (at : Site) where
  mutual
    part_has_none : (p : MsgPart) → plan_frames (part_plan uses scope at p) ≡ []
    part_has_none (TextPart text) = text_has_none at text
    part_has_none (Placeholder name) = cut_has_none scope at (placeholder_cut name uses uses)
    part_has_none NumberPart = refl
    part_has_none (PluralPart ordinal name offset exact named) =
        any_frames Nowhere (exact_plans uses scope at exact ++ named_plans uses scope at named)
        ∙ no_more_frames (exact_plans uses scope at exact) (named_plans uses scope at named) (exact_have_none exact)
        (named_have_none named)
    part_has_none (SelectPart name arms) = any_frames Nowhere (select_arm_plans uses scope at arms)
        ∙ words_have_none arms

    parts_have_none : (ps : MsgParts) → plan_frames (parts_plan uses scope at ps) ≡ []
    parts_have_none no_part = refl
    parts_have_none (part p ps) = both_same (plan_frames (part_plan uses scope at p))
        (plan_frames (parts_plan uses scope at ps)) [] [] (part_has_none p) (parts_have_none ps)

    exact_have_none : (arms : ExactArms) → all_frames (exact_plans uses scope at arms) ≡ []
    exact_have_none no_exact_arm = refl
    exact_have_none (exact_arm n ps arms) = both_same (plan_frames (parts_plan uses scope at ps))
        (all_frames (exact_plans uses scope at arms)) [] [] (parts_have_none ps) (exact_have_none arms)

    named_have_none : (arms : NamedArms) → all_frames (named_plans uses scope at arms) ≡ []
    named_have_none no_named_arm = refl
    named_have_none (named_arm of ps arms) = both_same (plan_frames (parts_plan uses scope at ps))
        (all_frames (named_plans uses scope at arms)) [] [] (parts_have_none ps) (named_have_none arms)

    words_have_none : (arms : SelectArms) → all_frames (select_arm_plans uses scope at arms) ≡ []
    words_have_none no_select_arm = refl
    words_have_none (select_arm word ps arms) = both_same (plan_frames (parts_plan uses scope at ps))
        (all_frames (select_arm_plans uses scope at arms)) [] [] (parts_have_none ps) (words_have_none arms)

translated_has_none : (uses : List Use) (scope : Scope) (at : Site) (found : Option MsgParts)
    → all_frames (translated_plan uses scope at found) ≡ []
translated_has_none uses scope at None = refl
translated_has_none uses scope at (Some parts) = append-nil (plan_frames (parts_plan uses scope at parts))
    ∙ parts_have_none uses scope at parts

-- ---- nodes

module _ (c : PlanContext) where
  abbrev frames_of : List TreeBlock → List (Kind × Plan)
  frames_of blocks = map (block_frame c) blocks

  fallback_has_none : (other : Fallback) (scope : Scope) (at : Site) → all_frames (fallback_plans c other scope at) ≡ []
  fallback_has_none no_fallback scope at = refl
  fallback_has_none (fallback m) scope at = translated_has_none (uses_of m) scope at (c.translation m)

  -- of arms and a last one
  arms_frames : (at : Site) (ps : List Plan) (p : Plan) (blocks others : List TreeBlock)
      → all_frames ps ≡ frames_of blocks → plan_frames p ≡ frames_of others
      → plan_frames (arms_meet at (ps ++ (p ∷ []))) ≡ frames_of (blocks ++ others)
  arms_frames at ps p blocks others e h =
      any_frames Nowhere (ps ++ (p ∷ []))
      ∙ (last_frames ps p ∙ (both_same (all_frames ps) (plan_frames p) (frames_of blocks) (frames_of others) e h
      ∙ sym (mapped (block_frame c) blocks others)))

  -- of one and the rest
  rest_frames : (a b : List (Kind × Plan)) (blocks others : List TreeBlock) → a ≡ frames_of blocks
      → b ≡ frames_of others → a ++ b ≡ frames_of (blocks ++ others)
  rest_frames a b blocks others e h = both_same a b (frames_of blocks) (frames_of others) e h
      ∙ sym (mapped (block_frame c) blocks others)

  mutual
    node_frames : (n : Node) (scope : Scope) → plan_frames (node_plan c n scope) ≡ frames_of (node_blocks n scope)
    node_frames (TextNode text span) scope = text_has_none (starts_at c.file span) text
    node_frames (Print e phname span) scope = refl
    node_frames (If arms other span) scope =
        arms_frames (starts_at c.file span) (arm_plans c arms scope) (other_plan c other scope)
        (arm_blocks arms scope) (other_blocks other scope) (arm_frames arms scope) (other_frames other scope)
    node_frames (Switch e cases other span) scope =
        arms_frames (starts_at c.file span) (case_plans c cases scope) (other_plan c other scope)
        (case_blocks cases scope) (other_blocks other scope) (case_frames cases scope) (other_frames other scope)
    node_frames (For name index e body span) scope = nodes_frames body (body_scope name index (type_of e scope) scope)
    node_frames (Let name e span) scope = refl
    node_frames (LetBlock name kind body span) scope = ap (λ l. (kind, nodes_plan c body scope) ∷ l)
        (nodes_frames body scope)
    node_frames (Call name all given span) scope = arguments_frames given scope
    node_frames (MessageNode m other span) scope =
        let at : Site = starts_at c.file span in
        let own : List Plan = translated_plan (uses_of m) scope at (c.translation m) in
        let fallbacks : List Plan = fallback_plans c other scope at in
        any_frames Nowhere (source_plan c m scope at ∷ (own ++ fallbacks))
        ∙ (ap (λ l. plan_frames (source_plan c m scope at) ++ l)
        (no_more_frames own fallbacks (translated_has_none (uses_of m) scope at (c.translation m))
        (fallback_has_none other scope at))
        ∙ (append-nil (plan_frames (source_plan c m scope at)) ∙ source_frames m scope at))

    pub nodes_frames : (ns : Nodes) (scope : Scope) → plan_frames (nodes_plan c ns scope)
        ≡ frames_of (nodes_blocks ns scope)
    nodes_frames no_node scope = refl
    nodes_frames (node n ns) scope =
        rest_frames (plan_frames (node_plan c n scope)) (plan_frames (nodes_plan c ns (scope_past n scope)))
        (node_blocks n scope) (nodes_blocks ns (scope_past n scope)) (node_frames n scope)
        (nodes_frames ns (scope_past n scope))

    other_frames : (other : Otherwise) (scope : Scope) → plan_frames (other_plan c other scope)
        ≡ frames_of (other_blocks other scope)
    other_frames no_otherwise scope = refl
    other_frames (otherwise body) scope = nodes_frames body scope

    arm_frames : (arms : Arms) (scope : Scope) → all_frames (arm_plans c arms scope) ≡ frames_of (arm_blocks arms scope)
    arm_frames no_arm scope = refl
    arm_frames (arm e body arms) scope =
        rest_frames (plan_frames (nodes_plan c body (narrowed e scope))) (all_frames (arm_plans c arms scope))
        (nodes_blocks body (narrowed e scope)) (arm_blocks arms scope) (nodes_frames body (narrowed e scope))
        (arm_frames arms scope)

    case_frames : (cases : Cases) (scope : Scope) → all_frames (case_plans c cases scope)
        ≡ frames_of (case_blocks cases scope)
    case_frames no_case scope = refl
    case_frames (case values body cases) scope =
        rest_frames (plan_frames (nodes_plan c body scope)) (all_frames (case_plans c cases scope))
        (nodes_blocks body scope) (case_blocks cases scope) (nodes_frames body scope) (case_frames cases scope)

    arguments_frames : (given : Arguments) (scope : Scope) → plan_frames (argument_frames c given scope)
        ≡ frames_of (argument_blocks given scope)
    arguments_frames no_argument scope = refl
    arguments_frames (argument name given span rest) scope =
        rest_frames (plan_frames (given_frame c given span scope)) (plan_frames (argument_frames c rest scope))
        (given_blocks given scope) (argument_blocks rest scope) (given_frames given span scope)
        (arguments_frames rest scope)

    given_frames : (given : Given) (span : Span) (scope : Scope) → plan_frames (given_frame c given span scope)
        ≡ frames_of (given_blocks given scope)
    given_frames (Plain e) span scope = refl
    given_frames (Block kind body) span scope = ap (λ l. (kind, nodes_plan c body scope) ∷ l) (nodes_frames body scope)

    source_frames : (m : Message) (scope : Scope) (at : Site) → plan_frames (source_plan c m scope at)
        ≡ frames_of (message_blocks m scope)
    source_frames (message desc meaning body span) scope at = body_frames body scope at

    body_frames : (body : MessageBody) (scope : Scope) (at : Site) → plan_frames (body_plan c body scope at)
        ≡ frames_of (body_blocks body scope)
    body_frames (Parts ns) scope at = nodes_frames ns scope
    body_frames (Plural e offset cases other) scope at =
        arms_frames at (plural_plans c cases scope at) (body_plan c other scope at) (plural_blocks cases scope)
        (body_blocks other scope) (plural_frames cases scope at) (body_frames other scope at)
    body_frames (Select e cases other) scope at =
        arms_frames at (select_plans c cases scope at) (body_plan c other scope at) (select_blocks cases scope)
        (body_blocks other scope) (select_frames cases scope at) (body_frames other scope at)

    plural_frames : (cases : PluralCases) (scope : Scope) (at : Site) → all_frames (plural_plans c cases scope at)
        ≡ frames_of (plural_blocks cases scope)
    plural_frames no_plural_case scope at = refl
    plural_frames (plural_case n body cases) scope at =
        rest_frames (plan_frames (body_plan c body scope at)) (all_frames (plural_plans c cases scope at))
        (body_blocks body scope) (plural_blocks cases scope) (body_frames body scope at)
        (plural_frames cases scope at)

    select_frames : (cases : SelectCases) (scope : Scope) (at : Site) → all_frames (select_plans c cases scope at)
        ≡ frames_of (select_blocks cases scope)
    select_frames no_select_case scope at = refl
    select_frames (select_case word body cases) scope at =
        rest_frames (plan_frames (body_plan c body scope at)) (all_frames (select_plans c cases scope at))
        (body_blocks body scope) (select_blocks cases scope) (body_frames body scope at)
        (select_frames cases scope at)
