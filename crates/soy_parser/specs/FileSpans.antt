-- Where all that has a span in a tree begins and ends, in the order of the text: the span of a node holds what is in
-- the node, and what stands beside it follows. That these offsets ascend says that all spans do.
-- Neighbouring cases of a plural or select may have one body, which stands once: that of `{case 1, 2}a` does.
-- Example: those of `{if $x}a{/if}` are 0, then 4 and 6 of `$x`, 7 and 8 of `a`, and 13.
use Rattle.std.specs.Prelude.{ℕ, ◌≤◌, List, [], ◌∷◌, ◌++◌, if◌then◌else◌}
use Rattle.std.specs.Str.{bytes_eq}
use Rattle.soy_base.specs.declared.fault.Span.{Span}
use Rattle.soy_tree.specs.Expressions.{Expr, NullLiteral, BoolLiteral, IntLiteral, StringLiteral, Variable, Member}
use Rattle.soy_tree.specs.Expressions.{Index, Minus, Not, Binary, Coalesce, Conditional}
use Rattle.soy_tree.specs.Nodes.{Node, Nodes, Otherwise, Arms, Cases, Arguments, Given, Message, Fallback, MessageBody}
use Rattle.soy_tree.specs.Nodes.{PluralCases, SelectCases, TextNode, Print, If, Switch, For, Let, LetBlock, Call}
use Rattle.soy_tree.specs.Nodes.{MessageNode, no_node, node, no_otherwise, otherwise, no_arm, arm, no_case, case}
use Rattle.soy_tree.specs.Nodes.{no_argument, argument, Plain, Block, message, no_fallback, fallback, Parts, Plural}
use Rattle.soy_tree.specs.Nodes.{Select, no_plural_case, plural_case, no_select_case, select_case}
use Rattle.soy_tree.specs.Trees.{Param, Template, Tree}

-- no offset before the one that it follows, from this one up to that one
abbrev pub Ascend : ℕ → ℕ → List ℕ → Type 0
Ascend from to [] = from ≤ to
Ascend from to (o ∷ os) = (from ≤ o) × Ascend o to os

-- a span, and the offsets in it
abbrev pub held : Span → List ℕ → List ℕ
held span inner = span.start ∷ (inner ++ (span.end ∷ []))

abbrev pub expr_offsets : Expr → List ℕ
expr_offsets (NullLiteral span) = held span []
expr_offsets (BoolLiteral b span) = held span []
expr_offsets (IntLiteral n span) = held span []
expr_offsets (StringLiteral text span) = held span []
expr_offsets (Variable name span) = held span []
expr_offsets (Member e name takes_null span) = held span (expr_offsets e)
expr_offsets (Index e i takes_null span) = held span (expr_offsets e ++ expr_offsets i)
expr_offsets (Minus e span) = held span (expr_offsets e)
expr_offsets (Not e span) = held span (expr_offsets e)
expr_offsets (Binary op a b span) = held span (expr_offsets a ++ expr_offsets b)
expr_offsets (Coalesce a b span) = held span (expr_offsets a ++ expr_offsets b)
expr_offsets (Conditional c a b span) = held span (expr_offsets c ++ (expr_offsets a ++ expr_offsets b))

abbrev pub exprs_offsets : List Expr → List ℕ
exprs_offsets [] = []
exprs_offsets (e ∷ es) = expr_offsets e ++ exprs_offsets es

-- the offsets in the bodies of cases, those of a body once that stands where the one before it does

abbrev pub unless_same : List ℕ → List ℕ → List ℕ
unless_same before os = if bytes_eq before os then [] else os

abbrev pub once : List ℕ → List (List ℕ) → List ℕ
once before [] = []
once before (os ∷ bodies) = unless_same before os ++ once os bodies

abbrev mutual
  pub node_offsets : Node → List ℕ
  node_offsets (TextNode text span) = held span []
  node_offsets (Print e phname span) = held span (expr_offsets e)
  node_offsets (If arms other span) = held span (arms_offsets arms ++ otherwise_offsets other)
  node_offsets (Switch e cases other span) =
      held span (expr_offsets e ++ (cases_offsets cases ++ otherwise_offsets other))
  node_offsets (For name index e body span) = held span (expr_offsets e ++ nodes_offsets body)
  node_offsets (Let name e span) = held span (expr_offsets e)
  node_offsets (LetBlock name kind body span) = held span (nodes_offsets body)
  node_offsets (Call name all given span) = held span (arguments_offsets given)
  node_offsets (MessageNode m other span) = held span (message_offsets m ++ fallback_offsets other)

  pub nodes_offsets : Nodes → List ℕ
  nodes_offsets no_node = []
  nodes_offsets (node n ns) = node_offsets n ++ nodes_offsets ns

  pub otherwise_offsets : Otherwise → List ℕ
  otherwise_offsets no_otherwise = []
  otherwise_offsets (otherwise body) = nodes_offsets body

  pub arms_offsets : Arms → List ℕ
  arms_offsets no_arm = []
  arms_offsets (arm e body arms) = expr_offsets e ++ (nodes_offsets body ++ arms_offsets arms)

  pub cases_offsets : Cases → List ℕ
  cases_offsets no_case = []
  cases_offsets (case values body cases) = exprs_offsets values ++ (nodes_offsets body ++ cases_offsets cases)

  pub arguments_offsets : Arguments → List ℕ
  arguments_offsets no_argument = []
  arguments_offsets (argument name given span rest) = held span (given_offsets given) ++ arguments_offsets rest

  pub given_offsets : Given → List ℕ
  given_offsets (Plain e) = expr_offsets e
  given_offsets (Block kind body) = nodes_offsets body

  -- the span of a message is that of its opening command
  pub message_offsets : Message → List ℕ
  message_offsets (message desc meaning body span) = held span [] ++ body_offsets body

  pub fallback_offsets : Fallback → List ℕ
  fallback_offsets no_fallback = []
  fallback_offsets (fallback m) = message_offsets m

  pub body_offsets : MessageBody → List ℕ
  body_offsets (Parts ns) = nodes_offsets ns
  body_offsets (Plural e offset cases other) =
      expr_offsets e ++ (once [] (plural_bodies cases) ++ body_offsets other)
  body_offsets (Select e cases other) = expr_offsets e ++ (once [] (select_bodies cases) ++ body_offsets other)

  pub plural_bodies : PluralCases → List (List ℕ)
  plural_bodies no_plural_case = []
  plural_bodies (plural_case n body cases) = body_offsets body ∷ plural_bodies cases

  pub select_bodies : SelectCases → List (List ℕ)
  select_bodies no_select_case = []
  select_bodies (select_case word body cases) = body_offsets body ∷ select_bodies cases

abbrev pub params_offsets : List Param → List ℕ
params_offsets [] = []
params_offsets (p ∷ params) = held p.span [] ++ params_offsets params

abbrev pub templates_offsets : List Template → List ℕ
templates_offsets [] = []
templates_offsets (t ∷ templates) =
    held t.span (params_offsets t.params ++ nodes_offsets t.body) ++ templates_offsets templates

-- the spans of a tree lie between these offsets, and ascend
abbrev pub TreeAscends : ℕ → ℕ → Tree → Type 0
TreeAscends from to t = Ascend from to (templates_offsets t.templates)
