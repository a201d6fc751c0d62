-- What templates give is alike where the choices are the same.
use Rattle.std.proofs.Common.{◌≡◌, ℕ, zero, suc, List, [], ◌∷◌, ◌++◌, inl, inr, refl, sym, ap, subst}
use Rattle.soy_rules.specs.Templates.{Declared}
use Rattle.soy_meaning.specs.Runs.EqualChoices.{AlikeByChoices, AlikeRuns, EnvsAlike}
use Rattle.soy_pieces.specs.Giving.{RunEnv}
use Rattle.soy_pieces.specs.Outcome.{Outcome, choices_of_outcome}
use Rattle.soy_meaning.specs.Runs.PicksValues.{NodesPick, TemplatesPick, param_marks}
use Rattle.soy_pieces.specs.Pieces.{RunContext, called_within, context_in, frame_outcome, template_run}
use Rattle.soy_pieces.specs.Site.{Site}
use Rattle.soy_meaning.specs.Walks.States.{IsMember}
use Rattle.soy_meaning.specs.Runs.TranslationFits.{TranslationsFit}
use Rattle.soy_meaning.proofs.Pairs.AlikeNodes.{frames_alike}
use Rattle.soy_meaning.proofs.Runs.RunPaths.{member_fits}

pub member_picks : (c : RunContext) (ds : List Declared) (d : Declared) → IsMember d ds → TemplatesPick c ds
    → NodesPick (context_in c d) d.template.body (param_marks d.template.params)
member_picks c [] d member picks = absurd member
member_picks c (first ∷ ds) d (inl same) picks =
    subst (λ z. NodesPick (context_in c z) z.template.body (param_marks z.template.params)) (sym same) picks.0
member_picks c (first ∷ ds) d (inr member) picks = member_picks c ds d member picks.1

module _ (c : RunContext) (fits : TranslationsFit c.translation c.declared) (picks : TemplatesPick c c.declared) where
  abbrev CallsAlike : (Site → Declared → RunEnv → Outcome) → Type 0
  CallsAlike called = (at : Site) (d : Declared) (env other : RunEnv) → IsMember d c.declared
      → EnvsAlike (param_marks d.template.params) env other → AlikeByChoices (called at d env) (called at d other)

  opened_alike : (left : ℕ) → CallsAlike (called_within c left) → (d : Declared) (env other : RunEnv)
      → IsMember d c.declared → EnvsAlike (param_marks d.template.params) env other →
      AlikeByChoices (frame_outcome (context_in c d) (called_within c left) d.template.kind d.template.body env)
      (frame_outcome (context_in c d) (called_within c left) d.template.kind d.template.body other)
  opened_alike left calls d env other member alike =
      frames_alike (context_in c d) (called_within c left)
      (λ at e inner within among both. calls at e inner within among both) d.template.kind d.template.body
      (param_marks d.template.params) env other alike (member_picks c c.declared d member picks)
      (member_fits c.translation c.declared d member fits)

  within_alike : (left : ℕ) → CallsAlike (called_within c left)
  unfolding called_within
  within_alike zero at d env other member alike = λ rest more h. record { choices = refl; pieces = tt; ends = refl }
  within_alike (suc left) at d env other member alike =
      opened_alike left (within_alike left) d env other member alike

  pub templates_alike : (d : Declared) (env other : RunEnv) → IsMember d c.declared
      → EnvsAlike (param_marks d.template.params) env other →
      AlikeByChoices (template_run c d env) (template_run c d other)
  templates_alike d env other member alike = opened_alike 100 (within_alike 100) d env other member alike

  pub runs_alike : (d : Declared) (env other : RunEnv) → IsMember d c.declared
      → EnvsAlike (param_marks d.template.params) env other →
      choices_of_outcome (template_run c d env) ≡ choices_of_outcome (template_run c d other)
      → AlikeRuns (template_run c d env) (template_run c d other)
  runs_alike d env other member alike same = templates_alike d env other member alike [] [] (ap (λ l. l ++ []) same)
