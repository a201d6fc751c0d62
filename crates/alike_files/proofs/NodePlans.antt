-- The plans of nodes and of trees read no more of spans than where a fault is.
use Rattle.std.proofs.Common.{◌≡◌, List, [], ◌∷◌, map, Option, Some, None, refl, ap, ◌∙◌}
use Rattle.std.specs.Prelude.{Result, Ok, Err, option_map}
use Rattle.soy_base.specs.declared.fault.Span.{Span}
use Rattle.soy_tree.specs.Expressions.{Expr}
use Rattle.soy_rules.specs.Faults.{TypeFault}
use Rattle.soy_tree.specs.MessageParts.{MsgParts}
use Rattle.soy_rules.specs.Narrowing.{narrowed}
use Rattle.soy_tree.specs.Nodes.{Node, Nodes, Otherwise, Arms, Cases, Arguments, Given, Message, Fallback, MessageBody}
use Rattle.soy_tree.specs.Nodes.{PluralCases, SelectCases, TextNode, Print, If, Switch, For, Let, LetBlock, Call}
use Rattle.soy_tree.specs.Nodes.{MessageNode, no_node, node, no_otherwise, otherwise, no_arm, arm, no_case, case}
use Rattle.soy_tree.specs.Nodes.{no_argument, argument, Plain, Block, message, no_fallback, fallback, Parts, Plural}
use Rattle.soy_tree.specs.Nodes.{Select, no_plural_case, plural_case, no_select_case, select_case}
use Rattle.soy_rules.specs.Placeholders.{Use}
use Rattle.soy_rules.specs.Templates.{Declared, callee, declared, param_scope}
use Rattle.soy_tree.specs.Trees.{Template, Tree}
use Rattle.soy_rules.specs.TypeOf.{Scope, type_of}
use Rattle.soy_tree.specs.Types.{Name, SoyType}
use Rattle.soy_meaning.specs.Paths.Plan.{Frame, Loop, Plan, in_turn}
use Rattle.soy_pieces.specs.Site.{Site}
use Rattle.soy_meaning.specs.Paths.PlanOfNodes.{PlanContext, argument_frames, arm_plans, body_plan, body_scope}
use Rattle.soy_meaning.specs.Paths.PlanOfNodes.{called_classes}
use Rattle.soy_meaning.specs.Paths.PlanOfNodes.{case_plans, closes_at, declared_plan, fallback_plans, given_frame}
use Rattle.soy_meaning.specs.Paths.PlanOfNodes.{node_plan}
use Rattle.soy_meaning.specs.Paths.PlanOfNodes.{nodes_plan, other_plan, plural_plans, scope_past, select_plans}
use Rattle.soy_meaning.specs.Paths.PlanOfNodes.{source_plan}
use Rattle.soy_meaning.specs.Paths.PlanOfNodes.{template_plan, translated_plan, translation_plans, trees_plan}
use Rattle.soy_pieces.specs.Site.{starts_at}
use Rattle.soy_meaning.specs.Paths.PlanOfNodes.{with_variable}
use Rattle.soy_rules.specs.Placeholders.{uses_of}
use Rattle.alike_files.specs.RunWithoutPositions.{site_without_position}
use Rattle.soy_format.specs.WithoutSpans.{arguments_without_spans, arms_without_spans, body_without_spans}
use Rattle.soy_format.specs.WithoutSpans.{cases_without_spans, expr_without_spans, fallback_without_spans}
use Rattle.soy_format.specs.WithoutSpans.{given_without_spans, message_without_spans, no_span, node_without_spans}
use Rattle.soy_format.specs.WithoutSpans.{nodes_without_spans, otherwise_without_spans, plural_cases_without_spans}
use Rattle.soy_format.specs.WithoutSpans.{select_cases_without_spans, template_without_spans, tree_without_spans}
use Rattle.alike_files.proofs.DeclaredTemplates.{callee_same, declared_same, declared_without_spans, param_scope_same}
use Rattle.alike_files.proofs.ExpressionTypes.{type_same}
use Rattle.alike_files.proofs.ExpressionValues.{narrowed_same}
use Rattle.alike_files.proofs.Faults.{placeless}
use Rattle.alike_files.proofs.PartPlans.{both_meet, in_turn_same, parts_same, plan_placeless}
use Rattle.alike_files.proofs.PartPlans.{plans_placeless, printed_same, text_plan_same}
use Rattle.alike_files.proofs.PlaceholderNames.{body_uses_same, uses_without_spans}

-- a message has the same translation as without its spans
abbrev pub ReadsNoSpan : (Message → Option MsgParts) → Type 0
ReadsNoSpan translation = (m : Message) → translation (message_without_spans m) ≡ translation m

abbrev pub plan_context_without_spans : PlanContext → PlanContext
plan_context_without_spans c = record c { declared = map declared_without_spans c.declared }

-- ---- the variables that are visible

variable_same : (name : Name) (r : Result SoyType TypeFault) (scope : Scope)
    → with_variable name (placeless r) scope ≡ with_variable name r scope
variable_same name (Ok t) scope = refl
variable_same name (Err fault) scope = refl

pub scope_past_same : (n : Node) (scope : Scope) → scope_past (node_without_spans n) scope ≡ scope_past n scope
scope_past_same (TextNode text span) scope = refl
scope_past_same (Print e phname span) scope = refl
scope_past_same (If arms other span) scope = refl
scope_past_same (Switch e cases other span) scope = refl
scope_past_same (For name index e body span) scope = refl
scope_past_same (Let name e span) scope =
    ap (λ r. with_variable name r scope) (type_same e scope) ∙ variable_same name (type_of e scope) scope
scope_past_same (LetBlock name kind body span) scope = refl
scope_past_same (Call name all given span) scope = refl
scope_past_same (MessageNode m other span) scope = refl

inner_same : (name : Name) (index : Option Name) (r : Result SoyType TypeFault) (scope : Scope)
    → body_scope name index (placeless r) scope ≡ body_scope name index r scope
inner_same name index (Ok t) scope = refl
inner_same name None (Err fault) scope = refl
inner_same name (Some index) (Err fault) scope = refl

pub body_scope_same : (name : Name) (index : Option Name) (e : Expr) (scope : Scope)
    → body_scope name index (type_of (expr_without_spans e) scope) scope
    ≡ body_scope name index (type_of e scope) scope
body_scope_same name index e scope =
    ap (λ r. body_scope name index r scope) (type_same e scope) ∙ inner_same name index (type_of e scope) scope

-- ---- calls and messages

called_classes_same : (o : Option Declared)
    → called_classes (option_map declared_without_spans o) ≡ called_classes o
called_classes_same None = refl
called_classes_same (Some d) = refl

pub uses_of_same : (m : Message) → uses_of (message_without_spans m) ≡ uses_without_spans (uses_of m)
uses_of_same (message desc meaning body span) = body_uses_same body

translated_same : (uses : List Use) (scope : Scope) (at : Site) (o : Option MsgParts)
    → translated_plan (uses_without_spans uses) scope (site_without_position at) o
    ≡ plans_placeless (translated_plan uses scope at o)
translated_same uses scope at None = refl
translated_same uses scope at (Some parts) = ap (λ p. p ∷ []) (parts_same uses scope at parts)

-- one plan before others
first_plan : (p q : Plan) (ps qs : List Plan) → q ≡ plan_placeless p → qs ≡ plans_placeless ps
    → q ∷ qs ≡ plans_placeless (p ∷ ps)
first_plan p q ps qs e h = rw (e, h) refl

-- ---- nodes

module _ (c : PlanContext) (same : ReadsNoSpan c.translation) where
  translations_same : (m : Message) (scope : Scope) (at : Site)
      → translation_plans (plan_context_without_spans c) (message_without_spans m) scope (site_without_position at)
      ≡ plans_placeless (translation_plans c m scope at)
  translations_same m scope at =
      rw (uses_of_same m, same m) (translated_same (uses_of m) scope at (c.translation m))

  fallbacks_same : (f : Fallback) (scope : Scope) (at : Site)
      → fallback_plans (plan_context_without_spans c) (fallback_without_spans f) scope (site_without_position at)
      ≡ plans_placeless (fallback_plans c f scope at)
  fallbacks_same no_fallback scope at = refl
  fallbacks_same (fallback m) scope at = translations_same m scope at

  mutual
    node_same : (n : Node) (scope : Scope)
        → node_plan (plan_context_without_spans c) (node_without_spans n) scope ≡ plan_placeless (node_plan c n scope)
    node_same (TextNode text span) scope = text_plan_same (starts_at c.file span) text
    node_same (Print e phname span) scope = rw (printed_same e scope) refl
    node_same (If arms other span) scope =
        both_meet (starts_at c.file span) (arm_plans c arms scope) (other_plan c other scope ∷ []) _ _
        (arms_same arms scope) (ap (λ p. p ∷ []) (other_same other scope))
    node_same (Switch e cases other span) scope =
        both_meet (starts_at c.file span) (case_plans c cases scope) (other_plan c other scope ∷ []) _ _
        (cases_same cases scope) (ap (λ p. p ∷ []) (other_same other scope))
    node_same (For name index e body span) scope =
        ap (λ s. Loop (starts_at c.file no_span)
        (nodes_plan (plan_context_without_spans c) (nodes_without_spans body) s)) (body_scope_same name index e scope)
        ∙ ap (λ p. Loop (starts_at c.file no_span) p) (nodes_same body (body_scope name index (type_of e scope) scope))
    node_same (Let name e span) scope = refl
    node_same (LetBlock name kind body span) scope =
        ap (λ p. Frame kind (closes_at c.file no_span) p) (nodes_same body scope)
    node_same (Call name all given span) scope =
        rw (
          callee_same c.declared c.namespace name,
          called_classes_same (callee c.declared c.namespace name),
          arguments_same given scope,
        ) refl
    node_same (MessageNode m other span) scope =
        both_meet (starts_at c.file span)
        (source_plan c m scope (starts_at c.file span) ∷ translation_plans c m scope (starts_at c.file span))
        (fallback_plans c other scope (starts_at c.file span)) _ _
        (first_plan (source_plan c m scope (starts_at c.file span)) _
        (translation_plans c m scope (starts_at c.file span)) _ (source_same m scope (starts_at c.file span))
        (translations_same m scope (starts_at c.file span)))
        (fallbacks_same other scope (starts_at c.file span))

    nodes_same : (ns : Nodes) (scope : Scope)
        → nodes_plan (plan_context_without_spans c) (nodes_without_spans ns) scope
        ≡ plan_placeless (nodes_plan c ns scope)
    nodes_same no_node scope = refl
    nodes_same (node n ns) scope =
        rw (scope_past_same n scope, node_same n scope, nodes_same ns (scope_past n scope)) refl

    other_same : (o : Otherwise) (scope : Scope)
        → other_plan (plan_context_without_spans c) (otherwise_without_spans o) scope
        ≡ plan_placeless (other_plan c o scope)
    other_same no_otherwise scope = refl
    other_same (otherwise body) scope = nodes_same body scope

    arms_same : (arms : Arms) (scope : Scope)
        → arm_plans (plan_context_without_spans c) (arms_without_spans arms) scope
        ≡ plans_placeless (arm_plans c arms scope)
    arms_same no_arm scope = refl
    arms_same (arm e body arms) scope =
        rw (narrowed_same e scope, nodes_same body (narrowed e scope), arms_same arms scope) refl

    cases_same : (cases : Cases) (scope : Scope)
        → case_plans (plan_context_without_spans c) (cases_without_spans cases) scope
        ≡ plans_placeless (case_plans c cases scope)
    cases_same no_case scope = refl
    cases_same (case values body cases) scope = rw (nodes_same body scope, cases_same cases scope) refl

    arguments_same : (given : Arguments) (scope : Scope)
        → argument_frames (plan_context_without_spans c) (arguments_without_spans given) scope
        ≡ plan_placeless (argument_frames c given scope)
    arguments_same no_argument scope = refl
    arguments_same (argument name given span rest) scope =
        rw (given_same given span scope, arguments_same rest scope) refl

    given_same : (given : Given) (span : Span) (scope : Scope)
        → given_frame (plan_context_without_spans c) (given_without_spans given) no_span scope
        ≡ plan_placeless (given_frame c given span scope)
    given_same (Plain e) span scope = refl
    given_same (Block kind body) span scope =
        ap (λ p. Frame kind (closes_at c.file no_span) p) (nodes_same body scope)

    source_same : (m : Message) (scope : Scope) (at : Site)
        → source_plan (plan_context_without_spans c) (message_without_spans m) scope (site_without_position at)
        ≡ plan_placeless (source_plan c m scope at)
    source_same (message desc meaning body span) scope at = body_same body scope at

    body_same : (b : MessageBody) (scope : Scope) (at : Site)
        → body_plan (plan_context_without_spans c) (body_without_spans b) scope (site_without_position at)
        ≡ plan_placeless (body_plan c b scope at)
    body_same (Parts ns) scope at = nodes_same ns scope
    body_same (Plural e offset cases other) scope at =
        both_meet at (plural_plans c cases scope at) (body_plan c other scope at ∷ []) _ _
        (plurals_same cases scope at) (ap (λ p. p ∷ []) (body_same other scope at))
    body_same (Select e cases other) scope at =
        both_meet at (select_plans c cases scope at) (body_plan c other scope at ∷ []) _ _
        (selects_same cases scope at) (ap (λ p. p ∷ []) (body_same other scope at))

    plurals_same : (cases : PluralCases) (scope : Scope) (at : Site)
        → plural_plans (plan_context_without_spans c) (plural_cases_without_spans cases) scope
        (site_without_position at)
        ≡ plans_placeless (plural_plans c cases scope at)
    plurals_same no_plural_case scope at = refl
    plurals_same (plural_case n body cases) scope at = rw (body_same body scope at, plurals_same cases scope at) refl

    selects_same : (cases : SelectCases) (scope : Scope) (at : Site)
        → select_plans (plan_context_without_spans c) (select_cases_without_spans cases) scope
        (site_without_position at)
        ≡ plans_placeless (select_plans c cases scope at)
    selects_same no_select_case scope at = refl
    selects_same (select_case word body cases) scope at = rw (body_same body scope at, selects_same cases scope at) refl

  template_same : (t : Template)
      → template_plan (plan_context_without_spans c) (template_without_spans t) ≡ plan_placeless (template_plan c t)
  template_same t =
      ap (λ s. Frame t.kind (closes_at c.file no_span)
      (nodes_plan (plan_context_without_spans c) (nodes_without_spans t.body) s)) (param_scope_same t.params)
      ∙ ap (λ p. Frame t.kind (closes_at c.file no_span) p) (nodes_same t.body (param_scope t.params))

-- ---- files

module _ (translation : Message → Option MsgParts) (same : ReadsNoSpan translation) where
  declared_plan_same : (all : List Declared) (d : Declared)
      → declared_plan translation (map declared_without_spans all) (declared_without_spans d)
      ≡ plan_placeless (declared_plan translation all d)
  declared_plan_same all d =
      let c : PlanContext = record {
        file = d.file;
        namespace = d.namespace;
        declared = all;
        translation = translation;
      } in
      template_same c same d.template

  plans_same : (all ds : List Declared)
      → map (declared_plan translation (map declared_without_spans all)) (map declared_without_spans ds)
      ≡ plans_placeless (map (declared_plan translation all) ds)
  plans_same all [] = refl
  plans_same all (d ∷ ds) =
      first_plan (declared_plan translation all d) _ (map (declared_plan translation all) ds) _
      (declared_plan_same all d) (plans_same all ds)

  -- **the plan of all files**
  pub trees_plan_same : (trees : List Tree)
      → trees_plan translation (map tree_without_spans trees) ≡ plan_placeless (trees_plan translation trees)
  trees_plan_same trees =
      rw (declared_same trees)
      (ap in_turn (plans_same (declared trees) (declared trees))
      ∙ in_turn_same (map (declared_plan translation (declared trees)) (declared trees)))
