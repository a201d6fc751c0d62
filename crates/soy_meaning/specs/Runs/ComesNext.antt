-- The moments of a frame's run: which nodes come next, and which variables are bound then.
--
-- At first that is its body. Past a let its name is bound. Where an if, a switch or a message comes next, one of the
-- bodies in it may come, with the same variables, and where a loop does, its body with an item and its number.
-- Example: in `{let $b kind="html"}<i>{$x}</i>{/let}{if $x}{$b}{/if}` the print `{$b}` comes with `$b` bound to the
-- block.
use Rattle.std.specs.Prelude.{◌≡◌, ◌⊎◌, ℕ, ◌+◌, List, [], ◌∷◌, ◌++◌, Option}
use Rattle.soy_base.specs.declared.fault.Span.{Span}
use Rattle.soy_tree.specs.Expressions.{Expr}
use Rattle.soy_tree.specs.Nodes.{Node, Nodes, Otherwise, Arms, Cases, MessageBody, PluralCases, SelectCases}
use Rattle.soy_tree.specs.Nodes.{
  If,
  Switch,
  For,
  Let,
  LetBlock,
  MessageNode,
  node,
  no_otherwise,
  otherwise,
  no_arm,
  arm,
}
use Rattle.soy_tree.specs.Nodes.{no_case, case, message, Parts, Plural, Select, no_plural_case, plural_case}
use Rattle.soy_tree.specs.Nodes.{no_select_case, select_case}
use Rattle.soy_tree.specs.Types.{Name}
use Rattle.soy_rules.specs.Val.{Known, val}
use Rattle.soy_tree.specs.Values.{Items, Value, item, no_item}
use Rattle.soy_meaning.specs.Runs.FrameRun.{FrameRun, inner_outcome}
use Rattle.soy_pieces.specs.Meaning.{bound_as}
use Rattle.soy_pieces.specs.Giving.{RunEnv}
use Rattle.soy_pieces.specs.Pieces.{RunContext, listed_items, valued, with_index}
use Rattle.soy_meaning.specs.Walks.States.{IsMember}

-- ---- the bodies in a node, which see its variables

abbrev pub arm_bodies : Arms → List Nodes
arm_bodies no_arm = []
arm_bodies (arm e body arms) = body ∷ arm_bodies arms

abbrev pub case_bodies : Cases → List Nodes
case_bodies no_case = []
case_bodies (case values body cases) = body ∷ case_bodies cases

abbrev pub other_bodies : Otherwise → List Nodes
other_bodies no_otherwise = []
other_bodies (otherwise body) = body ∷ []

abbrev mutual
  pub source_bodies : MessageBody → List Nodes
  source_bodies (Parts ns) = ns ∷ []
  source_bodies (Plural e offset cases other) = plural_bodies cases ++ source_bodies other
  source_bodies (Select e cases other) = select_bodies cases ++ source_bodies other

  pub plural_bodies : PluralCases → List Nodes
  plural_bodies no_plural_case = []
  plural_bodies (plural_case n body cases) = source_bodies body ++ plural_bodies cases

  pub select_bodies : SelectCases → List Nodes
  select_bodies no_select_case = []
  select_bodies (select_case word body cases) = source_bodies body ++ select_bodies cases

abbrev pub bodies_in : Node → List Nodes
bodies_in (If arms other span) = arm_bodies arms ++ other_bodies other
bodies_in (Switch e cases other span) = case_bodies cases ++ other_bodies other
bodies_in (MessageNode (message desc meaning body within) other span) = source_bodies body
bodies_in _ = []

-- ---- variables

-- an item and its number, the items counted from a first number
abbrev pub IsItem : ℕ → Items → ℕ → Value → Type 0
IsItem first no_item k v = ⊥
IsItem first (item w ws) k v = ((k ≡ first) × (v ≡ w)) ⊎ IsItem (first + 1) ws k v

-- past a node of a frame
abbrev pub env_past : RunContext → FrameRun → Node → RunEnv → RunEnv
env_past c q (Let name e span) env = (name, val e env) ∷ env
env_past c q (LetBlock name kind body span) env = (name, bound_as kind (inner_outcome c q kind body env)) ∷ env
env_past c q _ env = env

-- ---- moments

pub data ComesNext (c : RunContext) (q : FrameRun) : Nodes → RunEnv → Type 0 where
  at_first : ComesNext c q q.body q.env
  past : {n : Node} {ns : Nodes} {env : RunEnv} → ComesNext c q (node n ns) env → ComesNext c q ns (env_past c q n env)
  in_an_arm : {n : Node} {ns body : Nodes} {env : RunEnv} → ComesNext c q (node n ns) env
      → IsMember body (bodies_in n) → ComesNext c q body env
  in_a_turn : {name : Name} {index : Option Name} {e : Expr} {body ns : Nodes} {span : Span} {env : RunEnv}
      (k : ℕ) (v : Value) → ComesNext c q (node (For name index e body span) ns) env
      → IsItem 0 (listed_items (valued e env)) k v → ComesNext c q body (with_index index k ((name, Known v) ∷ env))
