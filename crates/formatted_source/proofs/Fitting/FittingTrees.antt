-- A tree fits the limit on depth as it is written: inside the blocks around each of its expressions the nodes on the
-- longest branch of that, its written parentheses among them, are 64 at most, and no block has more than 64 around it.
-- Example: in a template's body, a print of 1 in 63 pairs of parentheses fits, as `{print 1}` does.
use Rattle.std.specs.Prelude.{ℕ, ◌+◌, ◌≤◌, List, [], ◌∷◌}
use Rattle.soy_tree.specs.Expressions.{Expr}
use Rattle.soy_tree.specs.Nodes.{Node, Nodes, Otherwise, Arms, Cases, Arguments, Given, Message, Fallback, MessageBody}
use Rattle.soy_tree.specs.Nodes.{PluralCases, SelectCases, TextNode, Print, If, Switch, For, Let, LetBlock, Call}
use Rattle.soy_tree.specs.Nodes.{MessageNode, no_node, node, no_otherwise, otherwise, no_arm, arm, no_case, case}
use Rattle.soy_tree.specs.Nodes.{no_argument, argument, Plain, Block, message, no_fallback, fallback, Parts, Plural}
use Rattle.soy_tree.specs.Nodes.{Select, no_plural_case, plural_case, no_select_case, select_case}
use Rattle.expr_parser.specs.Depths.{depth_limit}
use Rattle.formatted_source.proofs.Fitting.WrittenHeight.{expr_height}

abbrev pub ExprFits : ℕ → Expr → Type 0
ExprFits blocks e = blocks + expr_height e ≤ depth_limit

abbrev pub ValuesFit : ℕ → List Expr → Type 0
ValuesFit blocks [] = Unit {0}
ValuesFit blocks (e ∷ es) = ExprFits blocks e × ValuesFit blocks es

abbrev mutual
  pub NodeFits : ℕ → Node → Type 0
  NodeFits blocks (TextNode text span) = blocks ≤ depth_limit
  NodeFits blocks (Print e phname span) = ExprFits blocks e
  NodeFits blocks (If arms other span) = (blocks + 1 ≤ depth_limit) × FirstFits blocks arms × OtherwiseFits
      (blocks + 1) other
  NodeFits blocks (Switch e cases other span) =
      (blocks + 1 ≤ depth_limit) × ExprFits blocks e × CasesFit (blocks + 1) cases × OtherwiseFits (blocks + 1) other
  NodeFits blocks (For name index e body span) =
      (blocks + 1 ≤ depth_limit) × ExprFits blocks e × NodesFit (blocks + 1) body
  NodeFits blocks (Let name e span) = ExprFits blocks e
  NodeFits blocks (LetBlock name kind body span) = (blocks + 1 ≤ depth_limit) × NodesFit (blocks + 1) body
  NodeFits blocks (Call name all given span) = (blocks ≤ depth_limit) × ArgumentsFit (blocks + 1) given
  NodeFits blocks (MessageNode m other span) =
      (blocks + 1 ≤ depth_limit) × MessageFits (blocks + 1) m × FallbackFits (blocks + 1) other

  pub NodesFit : ℕ → Nodes → Type 0
  NodesFit blocks no_node = Unit {0}
  NodesFit blocks (node n ns) = NodeFits blocks n × NodesFit blocks ns

  pub OtherwiseFits : ℕ → Otherwise → Type 0
  OtherwiseFits blocks no_otherwise = Unit {0}
  OtherwiseFits blocks (otherwise body) = NodesFit blocks body

  -- the first arm stands outside of its block, and the others in it
  pub FirstFits : ℕ → Arms → Type 0
  FirstFits blocks no_arm = Unit {0}
  FirstFits blocks (arm e body arms) = ExprFits blocks e × NodesFit (blocks + 1) body × ArmsFit (blocks + 1) arms

  pub ArmsFit : ℕ → Arms → Type 0
  ArmsFit blocks no_arm = Unit {0}
  ArmsFit blocks (arm e body arms) = ExprFits blocks e × NodesFit blocks body × ArmsFit blocks arms

  pub CasesFit : ℕ → Cases → Type 0
  CasesFit blocks no_case = Unit {0}
  CasesFit blocks (case values body cases) = ValuesFit blocks values × NodesFit blocks body × CasesFit blocks cases

  pub ArgumentsFit : ℕ → Arguments → Type 0
  ArgumentsFit blocks no_argument = Unit {0}
  ArgumentsFit blocks (argument name given span rest) =
      (blocks ≤ depth_limit) × GivenFits blocks given × ArgumentsFit blocks rest

  pub GivenFits : ℕ → Given → Type 0
  GivenFits blocks (Plain e) = ExprFits blocks e
  GivenFits blocks (Block kind body) = (blocks + 1 ≤ depth_limit) × NodesFit (blocks + 1) body

  pub MessageFits : ℕ → Message → Type 0
  MessageFits blocks (message desc meaning body span) = BodyFits blocks body

  pub FallbackFits : ℕ → Fallback → Type 0
  FallbackFits blocks no_fallback = Unit {0}
  FallbackFits blocks (fallback m) = MessageFits blocks m

  pub BodyFits : ℕ → MessageBody → Type 0
  BodyFits blocks (Parts ns) = NodesFit blocks ns
  BodyFits blocks (Plural e offset cases other) =
      (blocks + 1 ≤ depth_limit) × ExprFits blocks e × PluralCasesFit (blocks + 1) cases × BodyFits (blocks + 1) other
  BodyFits blocks (Select e cases other) =
      (blocks + 1 ≤ depth_limit) × ExprFits blocks e × SelectCasesFit (blocks + 1) cases × BodyFits (blocks + 1) other

  pub PluralCasesFit : ℕ → PluralCases → Type 0
  PluralCasesFit blocks no_plural_case = Unit {0}
  PluralCasesFit blocks (plural_case n body cases) = BodyFits blocks body × PluralCasesFit blocks cases

  pub SelectCasesFit : ℕ → SelectCases → Type 0
  SelectCasesFit blocks no_select_case = Unit {0}
  SelectCasesFit blocks (select_case word body cases) = BodyFits blocks body × SelectCasesFit blocks cases
