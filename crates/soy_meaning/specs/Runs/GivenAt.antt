-- Which frame is printed or called at a command.
--
-- A command that comes in a run prints the frame of the block that its expression gives then; so does a message whose
-- translation has a placeholder with the expression. A call opens the template that its name finds, with what is given
-- and handed on, and one call less may be open within that.
-- Example: `{let $b kind="html"}<i>{$x}</i>{/let}{let $a: $b /}{$a}` prints the frame with the body `<i>{$x}</i>`.
use Rattle.std.specs.Prelude.{◌≡◌, ◌⊎◌, ℕ, suc, Bool, List, [], ◌∷◌, Option, Some}
use Rattle.soy_tree.specs.Expressions.{Expr}
use Rattle.soy_tree.specs.MessageText.{MessageItem, Character, Printed, Cut, PrintCut, TagCut}
use Rattle.soy_tree.specs.Nodes.{Node, Nodes, Arguments, Given, Fallback, Print, Call, MessageNode, node}
use Rattle.soy_tree.specs.Nodes.{no_argument, argument, Plain, Block, no_fallback, fallback}
use Rattle.soy_rules.specs.Placeholders.{Use}
use Rattle.soy_rules.specs.Templates.{Declared, callee}
use Rattle.soy_tree.specs.Types.{Name}
use Rattle.soy_rules.specs.Val.{Binding, val}
use Rattle.soy_meaning.specs.Runs.ComesNext.{ComesNext}
use Rattle.soy_meaning.specs.Runs.FrameRun.{FrameRun, IsBlockOf, inner_outcome, template_frame}
use Rattle.soy_pieces.specs.Meaning.{bound_as}
use Rattle.soy_pieces.specs.Giving.{BoundBlock, RunEnv}
use Rattle.soy_pieces.specs.Pieces.{GivenArguments, RunContext, callee_env}
use Rattle.soy_pieces.specs.Site.{Site}
use Rattle.soy_rules.specs.Placeholders.{uses_of}
use Rattle.soy_pieces.specs.Site.{starts_at}
use Rattle.soy_rules.specs.Placeholders.{placeholder_cut}
use Rattle.soy_meaning.specs.Walks.States.{IsMember}

-- ---- the expressions that placeholders print

abbrev pub tag_prints : List MessageItem → List Expr
tag_prints [] = []
tag_prints (Character c span ∷ rest) = tag_prints rest
tag_prints (Printed e phname span ∷ rest) = e ∷ tag_prints rest

abbrev pub cut_prints : Option Cut → List Expr
cut_prints (Some (PrintCut e phname span)) = e ∷ []
cut_prints (Some (TagCut tag)) = tag_prints tag
cut_prints _ = []

abbrev pub HasPlaceholderOf : List Use → Expr → Type 0
HasPlaceholderOf uses e = (name : Name) × IsMember e (cut_prints (placeholder_cut name uses uses))

abbrev pub FallbackPrints : Fallback → Expr → Type 0
FallbackPrints no_fallback e = ⊥
FallbackPrints (fallback m) e = HasPlaceholderOf (uses_of m) e

module _ (c : RunContext) (q : FrameRun) where
  -- ---- calls

  abbrev pub given_binding_of : Given → RunEnv → Binding BoundBlock
  given_binding_of (Plain e) env = val e env
  given_binding_of (Block kind body) env = bound_as kind (inner_outcome c q kind body env)

  abbrev pub given_bindings : Arguments → RunEnv → GivenArguments
  given_bindings no_argument env = []
  given_bindings (argument name given span rest) env = (name, given_binding_of given env) ∷ given_bindings rest env

  pub record OpensCall (name : Name) (all : Bool) (given : Arguments) (env : RunEnv) (inner : FrameRun) : Type 0 where
    pub template : Declared
    pub found : callee c.declared q.template.namespace name ≡ Some template
    pub left : ℕ
    pub one_less : q.left ≡ suc left
    pub frame : inner ≡ template_frame left template
        (callee_env template.template.params (given_bindings given env) all q.template.template.params env)

  -- ---- commands

  abbrev pub GivesFrame : Site → Node → RunEnv → FrameRun → Type 0
  GivesFrame at (Print e phname span) env inner =
      (at ≡ starts_at q.template.file span) × IsBlockOf c (val e env) inner
  GivesFrame at (Call name all given span) env inner =
      (at ≡ starts_at q.template.file span) × OpensCall name all given env inner
  GivesFrame at (MessageNode m other span) env inner =
      (at ≡ starts_at q.template.file span) × (e : Expr) × (HasPlaceholderOf (uses_of m) e ⊎ FallbackPrints other e)
      × IsBlockOf c (val e env) inner
  GivesFrame at _ env inner = ⊥

  -- at the command of this site
  pub record IsGivenAt (at : Site) (inner : FrameRun) : Type 0 where
    pub command : Node
    pub rest : Nodes
    pub env : RunEnv
    pub comes : ComesNext c q (node command rest) env
    pub gives : GivesFrame at command env inner
