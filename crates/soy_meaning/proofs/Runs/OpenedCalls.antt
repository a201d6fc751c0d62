-- What a call opens, and the blocks that it is given.
use Rattle.std.proofs.Common.{◌≡◌, ℕ, suc, inl, inr, refl, sym, subst}
use Rattle.soy_base.specs.declared.fault.Span.{Span}
use Rattle.soy_base.specs.declared.kind.Kind.{Kind}
use Rattle.soy_tree.specs.Nodes.{Nodes, Arguments, Given, argument, Plain, Block}
use Rattle.soy_rules.specs.Templates.{Declared}
use Rattle.soy_tree.specs.Types.{Name}
use Rattle.soy_meaning.specs.Runs.FrameRun.{run_outcome, template_frame}
use Rattle.soy_pieces.specs.Giving.{RunEnv}
use Rattle.soy_pieces.specs.Outcome.{RunEnds, StopsAt, none_spent}
use Rattle.soy_pieces.specs.Pieces.{RunContext, called_within}
use Rattle.soy_pieces.specs.Site.{Site}
use Rattle.soy_meaning.specs.Runs.StopsWithin.{GivesBlock}

pub rest_gives : (name : Name) (given : Given) (span : Span) (rest : Arguments) (k : Kind) (b : Nodes)
    → GivesBlock rest k b → GivesBlock (argument name given span rest) k b
rest_gives name (Plain e) span rest k b h = h
rest_gives name (Block kind body) span rest k b h = inr h

pub first_gives : (name : Name) (given : Given) (span : Span) (rest : Arguments) (k : Kind) (b : Nodes)
    → given ≡ Block k b → GivesBlock (argument name given span rest) k b
first_gives name given span rest k b is =
    subst (λ g. GivesBlock (argument name g span rest) k b) (sym is) (inl (refl, refl))

module _ (c : RunContext) where
  pub called_none : (at : Site) (d : Declared) (env : RunEnv)
      → called_within c 0 at d env ≡ RunEnds none_spent (StopsAt at)
  unfolding called_within
  called_none at d env = refl

  pub called_more : (left : ℕ) (at : Site) (d : Declared) (env : RunEnv)
      → called_within c (suc left) at d env ≡ run_outcome c (template_frame left d env)
  unfolding called_within
  called_more left at d env = refl
