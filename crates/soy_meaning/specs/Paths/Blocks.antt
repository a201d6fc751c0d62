-- The blocks of a tree: each is a frame of its own, also where nothing prints it.
--
-- A block stands in a let or in a param of a call, at any depth; a message's source is asked too, though none stands
-- there. It has its kind, its body and the variables that its body sees. A frame that stands in a plan has its kind and
-- its own plan.
-- Example: `{call m}{param p kind="html"}<b>{$x}</b>{/param}{/call}` has one block, of kind html, which sees `$x`.
use Rattle.std.specs.Prelude.{List, [], ◌∷◌, ◌++◌}
use Rattle.soy_base.specs.declared.kind.Kind.{Kind}
use Rattle.soy_rules.specs.Narrowing.{narrowed}
use Rattle.soy_tree.specs.Nodes.{Node, Nodes, Otherwise, Arms, Cases, Arguments, Given, Message, MessageBody}
use Rattle.soy_tree.specs.Nodes.{PluralCases, SelectCases, If, Switch, For, LetBlock, Call, MessageNode, no_node, node}
use Rattle.soy_tree.specs.Nodes.{no_otherwise, otherwise, no_arm, arm, no_case, case, no_argument, argument, Plain}
use Rattle.soy_tree.specs.Nodes.{Block, message, Parts, Plural, Select, no_plural_case, plural_case, no_select_case}
use Rattle.soy_tree.specs.Nodes.{select_case}
use Rattle.soy_rules.specs.TypeOf.{Scope, type_of}
use Rattle.soy_meaning.specs.Paths.Plan.{Plan, Either, Frame, Loop, Meet, Then}
use Rattle.soy_meaning.specs.Paths.PlanOfNodes.{PlanContext, body_scope, nodes_plan, scope_past}

-- a block, or a template, that stands in a tree
pub record TreeBlock : Type 0 where
  pub kind : Kind
  pub body : Nodes
  pub scope : Scope

abbrev mutual
  -- in source order, a block before those within it
  pub node_blocks : Node → Scope → List TreeBlock
  node_blocks (If arms other span) scope = arm_blocks arms scope ++ other_blocks other scope
  node_blocks (Switch e cases other span) scope = case_blocks cases scope ++ other_blocks other scope
  node_blocks (For name index e body span) scope = nodes_blocks body (body_scope name index (type_of e scope) scope)
  node_blocks (LetBlock name kind body span) scope =
      record { kind = kind; body = body; scope = scope } ∷ nodes_blocks body scope
  node_blocks (Call name all given span) scope = argument_blocks given scope
  node_blocks (MessageNode m other span) scope = message_blocks m scope
  node_blocks _ scope = []

  pub nodes_blocks : Nodes → Scope → List TreeBlock
  nodes_blocks no_node scope = []
  nodes_blocks (node n ns) scope = node_blocks n scope ++ nodes_blocks ns (scope_past n scope)

  pub other_blocks : Otherwise → Scope → List TreeBlock
  other_blocks no_otherwise scope = []
  other_blocks (otherwise body) scope = nodes_blocks body scope

  pub arm_blocks : Arms → Scope → List TreeBlock
  arm_blocks no_arm scope = []
  arm_blocks (arm e body arms) scope = nodes_blocks body (narrowed e scope) ++ arm_blocks arms scope

  pub case_blocks : Cases → Scope → List TreeBlock
  case_blocks no_case scope = []
  case_blocks (case values body cases) scope = nodes_blocks body scope ++ case_blocks cases scope

  pub argument_blocks : Arguments → Scope → List TreeBlock
  argument_blocks no_argument scope = []
  argument_blocks (argument name given span rest) scope = given_blocks given scope ++ argument_blocks rest scope

  pub given_blocks : Given → Scope → List TreeBlock
  given_blocks (Plain e) scope = []
  given_blocks (Block kind body) scope =
      record { kind = kind; body = body; scope = scope } ∷ nodes_blocks body scope

  pub message_blocks : Message → Scope → List TreeBlock
  message_blocks (message desc meaning body span) scope = body_blocks body scope

  pub body_blocks : MessageBody → Scope → List TreeBlock
  body_blocks (Parts ns) scope = nodes_blocks ns scope
  body_blocks (Plural e offset cases other) scope = plural_blocks cases scope ++ body_blocks other scope
  body_blocks (Select e cases other) scope = select_blocks cases scope ++ body_blocks other scope

  pub plural_blocks : PluralCases → Scope → List TreeBlock
  plural_blocks no_plural_case scope = []
  plural_blocks (plural_case n body cases) scope = body_blocks body scope ++ plural_blocks cases scope

  pub select_blocks : SelectCases → Scope → List TreeBlock
  select_blocks no_select_case scope = []
  select_blocks (select_case word body cases) scope = body_blocks body scope ++ select_blocks cases scope

-- the frames that stand in a plan
abbrev pub plan_frames : Plan → List (Kind × Plan)
plan_frames (Then p q) = plan_frames p ++ plan_frames q
plan_frames (Either p q) = plan_frames p ++ plan_frames q
plan_frames (Meet at p) = plan_frames p
plan_frames (Loop at p) = plan_frames p
plan_frames (Frame kind at p) = (kind, p) ∷ plan_frames p
plan_frames _ = []

abbrev pub block_frame : PlanContext → TreeBlock → Kind × Plan
block_frame c block = (block.kind, nodes_plan c block.body block.scope)
