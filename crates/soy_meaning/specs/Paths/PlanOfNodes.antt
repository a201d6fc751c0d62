-- The plan of nodes, of a template and of the trees of all files.
--
-- Nodes follow one another, with the variables that are visible. The arms of a command stand side by side in source
-- order, and last its else or default, or where there is none the way past all arms. A loop's body may be followed any
-- number of times. A message gives its source, then its translation, then the fallback's translation, which stand side
-- by side. A call is a hole, and its blocks are frames within, as that of a let is.
-- Example: `{call m}{param p kind="html"}x{/param}{/call}` is a hole of the callee's kind and then a frame with `x`.
use Rattle.std.specs.Prelude.{ℕ, List, [], ◌∷◌, ◌++◌, map, Option, Some, None, Result, Ok, Err}
use Rattle.soy_base.specs.declared.fault.Span.{Span}
use Rattle.soy_base.specs.declared.kind.Kind.{Kind}
use Rattle.soy_base.specs.declared.kind.Kind.TheVariants as kind
use Rattle.soy_base.specs.declared.place.ValueClass.{ValueClass}
use Rattle.soy_base.specs.declared.place.ValueClass.TheVariants as class
use Rattle.soy_tree.specs.Types.{Name, SoyType, IntType, ListType}
use Rattle.soy_rules.specs.Faults.{TypeFault}
use Rattle.soy_rules.specs.TypeOf.{Scope, type_of}
use Rattle.soy_rules.specs.Narrowing.{narrowed}
use Rattle.soy_tree.specs.Nodes.{Node, Nodes, Otherwise, Arms, Cases, Arguments, Given, Message, Fallback, MessageBody}
use Rattle.soy_tree.specs.Nodes.{PluralCases, SelectCases, TextNode, Print, If, Switch, For, Let, LetBlock, Call}
use Rattle.soy_tree.specs.Nodes.{MessageNode, no_node, node, no_otherwise, otherwise, no_arm, arm, no_case, case}
use Rattle.soy_tree.specs.Nodes.{no_argument, argument, Plain, Block, message, no_fallback, fallback, Parts, Plural}
use Rattle.soy_tree.specs.Nodes.{Select, no_plural_case, plural_case, no_select_case, select_case}
use Rattle.soy_tree.specs.MessageParts.{MsgParts}
use Rattle.soy_rules.specs.Placeholders.{Use}
use Rattle.soy_tree.specs.Trees.{Template, Tree}
use Rattle.soy_rules.specs.Templates.{Declared, declared, callee, param_scope, kind_type}
use Rattle.soy_meaning.specs.Paths.Plan.{Plan, Nothing, Hole, Then, Loop, Frame, in_turn, arms_meet}
use Rattle.soy_pieces.specs.Site.{Site}
use Rattle.soy_meaning.specs.Paths.PlanOfParts.{printed_classes, text_plan, parts_plan}
use Rattle.soy_pieces.specs.Site.{starts_at}
use Rattle.soy_rules.specs.Placeholders.{uses_of}

-- what the plan of a template goes by: its file's number and namespace, the templates that are declared, and the
-- translation of a message, where there is one
pub record PlanContext : Type 0 where
  pub file : ℕ
  pub namespace : Name
  pub declared : List Declared
  pub translation : Message → Option MsgParts

-- ---- the variables that are visible

abbrev pub with_variable : Name → Result SoyType TypeFault → Scope → Scope
with_variable name (Ok t) scope = (name, t) ∷ scope
with_variable name (Err fault) scope = scope

-- past a node
abbrev pub scope_past : Node → Scope → Scope
scope_past (Let name e span) scope = with_variable name (type_of e scope) scope
scope_past (LetBlock name kind body span) scope = (name, kind_type kind) ∷ scope
scope_past _ scope = scope

-- in the body of a loop over a list of this type
abbrev pub body_scope : Name → Option Name → Result SoyType TypeFault → Scope → Scope
body_scope name None (Ok (ListType t)) scope = (name, t) ∷ scope
body_scope name (Some index) (Ok (ListType t)) scope = (index, IntType) ∷ ((name, t) ∷ scope)
body_scope name index _ scope = scope

-- ---- sites and classes

-- the closing command of a frame begins where the frame's span ends
abbrev pub closes_at : ℕ → Span → Site
closes_at file span = record { file = file; at = span.end }

abbrev pub kind_class : Kind → ValueClass
kind_class kind.Html = class.Html
kind_class kind.Attributes = class.Attributes
kind_class kind.Text = class.Text

abbrev pub called_classes : Option Declared → List ValueClass
called_classes None = []
called_classes (Some d) = kind_class d.template.kind ∷ []

-- ---- messages

abbrev pub translated_plan : List Use → Scope → Site → Option MsgParts → List Plan
translated_plan uses scope at None = []
translated_plan uses scope at (Some parts) = parts_plan uses scope at parts ∷ []

-- ---- nodes

module _ (c : PlanContext) where
  abbrev pub translation_plans : Message → Scope → Site → List Plan
  translation_plans m scope at = translated_plan (uses_of m) scope at (c.translation m)

  abbrev pub fallback_plans : Fallback → Scope → Site → List Plan
  fallback_plans no_fallback scope at = []
  fallback_plans (fallback m) scope at = translation_plans m scope at

  abbrev mutual
    pub node_plan : Node → Scope → Plan
    node_plan (TextNode text span) scope = text_plan (starts_at c.file span) text
    node_plan (Print e phname span) scope = Hole (starts_at c.file span) (printed_classes e scope)
    node_plan (If arms other span) scope =
        arms_meet (starts_at c.file span) (arm_plans arms scope ++ (other_plan other scope ∷ []))
    node_plan (Switch e cases other span) scope =
        arms_meet (starts_at c.file span) (case_plans cases scope ++ (other_plan other scope ∷ []))
    node_plan (For name index e body span) scope =
        Loop (starts_at c.file span) (nodes_plan body (body_scope name index (type_of e scope) scope))
    node_plan (Let name e span) scope = Nothing
    node_plan (LetBlock name kind body span) scope = Frame kind (closes_at c.file span) (nodes_plan body scope)
    node_plan (Call name all given span) scope =
        Then (Hole (starts_at c.file span) (called_classes (callee c.declared c.namespace name)))
        (argument_frames given scope)
    node_plan (MessageNode m other span) scope =
        arms_meet (starts_at c.file span)
        (source_plan m scope (starts_at c.file span)
        ∷ (translation_plans m scope (starts_at c.file span) ++ fallback_plans other scope (starts_at c.file span)))

    pub nodes_plan : Nodes → Scope → Plan
    nodes_plan no_node scope = Nothing
    nodes_plan (node n ns) scope = Then (node_plan n scope) (nodes_plan ns (scope_past n scope))

    pub other_plan : Otherwise → Scope → Plan
    other_plan no_otherwise scope = Nothing
    other_plan (otherwise body) scope = nodes_plan body scope

    pub arm_plans : Arms → Scope → List Plan
    arm_plans no_arm scope = []
    arm_plans (arm e body arms) scope = nodes_plan body (narrowed e scope) ∷ arm_plans arms scope

    pub case_plans : Cases → Scope → List Plan
    case_plans no_case scope = []
    case_plans (case values body cases) scope = nodes_plan body scope ∷ case_plans cases scope

    pub argument_frames : Arguments → Scope → Plan
    argument_frames no_argument scope = Nothing
    argument_frames (argument name given span rest) scope =
        Then (given_frame given span scope) (argument_frames rest scope)

    pub given_frame : Given → Span → Scope → Plan
    given_frame (Plain e) span scope = Nothing
    given_frame (Block kind body) span scope = Frame kind (closes_at c.file span) (nodes_plan body scope)

    pub source_plan : Message → Scope → Site → Plan
    source_plan (message desc meaning body span) scope at = body_plan body scope at

    -- the text of a message in the source; its cases and its default meet at the `{msg` command
    pub body_plan : MessageBody → Scope → Site → Plan
    body_plan (Parts ns) scope at = nodes_plan ns scope
    body_plan (Plural e offset cases other) scope at =
        arms_meet at (plural_plans cases scope at ++ (body_plan other scope at ∷ []))
    body_plan (Select e cases other) scope at =
        arms_meet at (select_plans cases scope at ++ (body_plan other scope at ∷ []))

    pub plural_plans : PluralCases → Scope → Site → List Plan
    plural_plans no_plural_case scope at = []
    plural_plans (plural_case n body cases) scope at = body_plan body scope at ∷ plural_plans cases scope at

    pub select_plans : SelectCases → Scope → Site → List Plan
    select_plans no_select_case scope at = []
    select_plans (select_case word body cases) scope at = body_plan body scope at ∷ select_plans cases scope at

  abbrev pub template_plan : Template → Plan
  template_plan t = Frame t.kind (closes_at c.file t.span) (nodes_plan t.body (param_scope t.params))

-- ---- files

abbrev pub declared_plan : (Message → Option MsgParts) → List Declared → Declared → Plan
declared_plan translation all d =
    let c : PlanContext = record {
      file = d.file;
      namespace = d.namespace;
      declared = all;
      translation = translation;
    } in
    template_plan c d.template

-- the templates of all files, in source order
abbrev pub trees_plan : (Message → Option MsgParts) → List Tree → Plan
trees_plan translation trees = in_turn (map (declared_plan translation (declared trees)) (declared trees))
