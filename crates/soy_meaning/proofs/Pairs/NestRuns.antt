-- Runs of templates with the same choices nest their frames alike.
use Rattle.std.proofs.Common.{◌≡◌, ℕ, zero, suc, List, [], ◌∷◌, ◌++◌, ap, subst, refl, sym, ◌∙◌, arith}
use Rattle.soy_rules.specs.Templates.{Declared, declared, param_scope}
use Rattle.soy_tree.specs.Trees.{Tree}
use Rattle.soy_rules.specs.Val.{BlockOf, Known}
use Rattle.soy_meaning.specs.Runs.EqualChoices.{EnvsAlike, EnvsBy, FilledAlike, NestAlike}
use Rattle.soy_meaning.specs.Paths.Filled.{Filled, filled_end, frame_before, parts_of_filled, text_before, value_before}
use Rattle.soy_meaning.specs.Runs.FrameRun.{entry_frame, template_frame}
use Rattle.soy_pieces.specs.Giving.{BoundBlock, RunEnv}
use Rattle.soy_pieces.specs.Outcome.{choices_of_outcome}
use Rattle.soy_meaning.specs.Paths.PathParts.{HolePart, StaticPart}
use Rattle.soy_meaning.specs.Runs.PicksValues.{Marks, TemplatesPick, param_marks}
use Rattle.soy_pieces.specs.Pieces.{RunContext, template_run}
use Rattle.soy_meaning.specs.Paths.PlanOfNodes.{trees_plan}
use Rattle.soy_meaning.specs.Runs.RunsAlong.{BindsValues, FitsClasses}
use Rattle.soy_meaning.specs.Walks.States.{IsMember}
use Rattle.soy_meaning.specs.Runs.TranslationFits.{TranslationsFit}
use Rattle.soy_meaning.specs.Runs.TypedData.{AreTypedTrees, FitsData}
use Rattle.soy_meaning.proofs.Pairs.AlikeRuns.{member_picks}
use Rattle.soy_meaning.proofs.Typing.CheckedTrees.{TemplateTyped, templates_typed}
use Rattle.soy_meaning.proofs.Pairs.NestNodes.{frames_twin}
use Rattle.soy_meaning.proofs.Pairs.NestOutcomes.{TwinBlocks, TwinRun, Twins}
use Rattle.soy_meaning.proofs.Runs.RunPaths.{frame_within, frames_within, member_fits, whole, whole_of}
use Rattle.soy_meaning.proofs.Typing.TypedEnvs.{EnvTyped, data_typed}
use Rattle.soy_meaning.proofs.Typing.TypedPicks.{fitting_data_alike, typed_templates_pick}

-- what is filled alike has one path
pub same_parts : (f g : Filled) → FilledAlike f g → parts_of_filled f ≡ parts_of_filled g
same_parts filled_end filled_end h = refl
same_parts filled_end (text_before other g) h = absurd h
same_parts filled_end (value_before site others class other g) h = absurd h
same_parts filled_end (frame_before site others k within g) h = absurd h
same_parts (text_before text f) filled_end h = absurd h
same_parts (text_before text f) (text_before other g) h =
    ap (λ t. StaticPart t ∷ parts_of_filled f) h.0 ∙ ap (λ l. StaticPart other ∷ l) (same_parts f g h.1)
same_parts (text_before text f) (value_before site others class other g) h = absurd h
same_parts (text_before text f) (frame_before site others k within g) h = absurd h
same_parts (value_before at classes value text f) filled_end h = absurd h
same_parts (value_before at classes value text f) (text_before other g) h = absurd h
same_parts (value_before at classes value text f) (value_before site others class other g) h =
    ap (λ z. HolePart z classes ∷ parts_of_filled f) h.0 ∙ (ap (λ z. HolePart site z ∷ parts_of_filled f) h.1
    ∙ ap (λ l. HolePart site others ∷ l) (same_parts f g h.2))
same_parts (value_before at classes value text f) (frame_before site others k within g) h = absurd h
same_parts (frame_before at classes kind inner f) filled_end h = absurd h
same_parts (frame_before at classes kind inner f) (text_before other g) h = absurd h
same_parts (frame_before at classes kind inner f) (value_before site others class other g) h = absurd h
same_parts (frame_before at classes kind inner f) (frame_before site others k within g) h =
    ap (λ z. HolePart z classes ∷ parts_of_filled f) h.0 ∙ (ap (λ z. HolePart site z ∷ parts_of_filled f) h.1
    ∙ ap (λ l. HolePart site others ∷ l) (same_parts f g h.4))

-- variables that are bound to values
values_by : (Blocks : BoundBlock → BoundBlock → Type 0) (marks : Marks) (env other : RunEnv)
    → EnvsAlike marks env other → BindsValues env → BindsValues other → EnvsBy Blocks marks env other
values_by Blocks [] [] [] alike h k = tt
values_by Blocks [] [] (w ∷ other) alike h k = absurd alike
values_by Blocks [] (v ∷ env) [] alike h k = absurd alike
values_by Blocks [] (v ∷ env) (w ∷ other) alike h k = absurd alike
values_by Blocks (m ∷ marks) [] [] alike h k = absurd alike
values_by Blocks (m ∷ marks) [] (w ∷ other) alike h k = absurd alike
values_by Blocks (m ∷ marks) (v ∷ env) [] alike h k = absurd alike
values_by Blocks (m ∷ marks) ((name, Known v) ∷ env) ((also, Known w) ∷ other) alike h k =
    (alike.0, alike.1, tt, values_by Blocks marks env other alike.3 h k)
values_by Blocks (m ∷ marks) ((name, Known v) ∷ env) ((also, BlockOf b) ∷ other) alike h k = absurd k
values_by Blocks (m ∷ marks) ((name, BlockOf a) ∷ env) ((also, Known w) ∷ other) alike h k = absurd h
values_by Blocks (m ∷ marks) ((name, BlockOf a) ∷ env) ((also, BlockOf b) ∷ other) alike h k = absurd h

one_less : (left fewer : ℕ) → suc left ≡ suc fewer → left ≡ fewer
one_less left fewer e = omega (arith, e)

never : (fewer : ℕ) → zero ≡ suc fewer → ⊥
never fewer e = omega (arith, e)

module _ (c : RunContext) (fits : TranslationsFit c.translation c.declared) (picks : TemplatesPick c c.declared)
    (Claim : Type 0) (typed : Claim → (d : Declared) → IsMember d c.declared → TemplateTyped c.declared d) where
  abbrev TemplatesTwin : ℕ → Type 0
  TemplatesTwin left = (d : Declared) (env other : RunEnv) → IsMember d c.declared
      → EnvsBy (TwinBlocks c (whole c) Claim) (param_marks d.template.params) env other
      → (Claim → EnvTyped (param_scope d.template.params) env)
      → (Claim → EnvTyped (param_scope d.template.params) other)
      → Twins c (whole c) Claim (template_frame left d env) (template_frame left d other)

  opened_twin : (left : ℕ) → ((fewer : ℕ) → left ≡ suc fewer → TemplatesTwin fewer) → TemplatesTwin left
  opened_twin left deeper d env other member alike one two =
      frames_twin c (whole c) Claim d left deeper
      (record {
        kind = d.template.kind;
        body = d.template.body;
        scope = param_scope d.template.params;
        env = env;
        other = other;
      })
      (param_marks d.template.params) (record { alike = alike; one = one; two = two }) (frame_within c d member)
      (frames_within c d member) (member_picks c c.declared d member picks)
      (member_fits c.translation c.declared d member fits) (λ k. typed k d member)

  templates_twin : (left : ℕ) → TemplatesTwin left
  templates_twin zero = opened_twin zero (λ fewer e. absurd (never fewer e))
  templates_twin (suc left) =
      opened_twin (suc left) (λ fewer e. subst (λ n. TemplatesTwin n) (one_less left fewer e) (templates_twin left))

  -- under data
  abbrev Nested : (d : Declared) → RunEnv → RunEnv → List Declared → Type 0
  Nested d env other ds = (n : NestAlike c (whole_of c ds) (entry_frame d env) (entry_frame d other))
      × (Claim → FitsClasses n.one.filled × FitsClasses n.two.filled)

  entries_nest : (d : Declared) (env other : RunEnv) → IsMember d c.declared
      → EnvsAlike (param_marks d.template.params) env other → BindsValues env → BindsValues other
      → (Claim → EnvTyped (param_scope d.template.params) env)
      → (Claim → EnvTyped (param_scope d.template.params) other)
      → choices_of_outcome (template_run c d env) ≡ choices_of_outcome (template_run c d other)
      → Nested d env other c.declared
  entries_nest d env other member alike values also one two same =
      let t : TwinRun c (whole c) Claim (entry_frame d env) (entry_frame d other) =
      templates_twin 100 d env other member
      (values_by (TwinBlocks c (whole c) Claim) (param_marks d.template.params) env other alike values also) one two []
      [] (ap (λ l. l ++ []) same) in (
        record { one = t.one.runs; two = t.two.runs; alike = t.alike; ends = t.ends },
        (λ k. (t.one.fits k, t.two.fits k)),
      )

  pub runs_nest : (trees : List Tree) (d : Declared) (env other : RunEnv) → c.declared ≡ declared trees
      → IsMember d c.declared → EnvsAlike (param_marks d.template.params) env other → BindsValues env
      → BindsValues other → (Claim → EnvTyped (param_scope d.template.params) env)
      → (Claim → EnvTyped (param_scope d.template.params) other)
      → choices_of_outcome (template_run c d env) ≡ choices_of_outcome (template_run c d other)
      → (n : NestAlike c (trees_plan c.translation trees) (entry_frame d env) (entry_frame d other))
      × (Claim → FitsClasses n.one.filled × FitsClasses n.two.filled)
  runs_nest trees d env other are member alike values also one two same =
      subst (λ ds. Nested d env other ds) are (entries_nest d env other member alike values also one two same)

-- of typed trees, under data that fit
module _ (c : RunContext) (trees : List Tree) (are : c.declared ≡ declared trees) (typed : AreTypedTrees trees)
    (fits : TranslationsFit c.translation c.declared) (d : Declared) (env other : RunEnv)
    (member : IsMember d c.declared) (one : FitsData d env) (two : FitsData d other) where
  all_typed : (e : Declared) → IsMember e c.declared → TemplateTyped c.declared e
  all_typed e among =
      subst (λ ds. TemplateTyped ds e) (sym are)
      (templates_typed trees typed e (subst (λ ds. IsMember e ds) are among))

  pub typed_runs_nest : choices_of_outcome (template_run c d env) ≡ choices_of_outcome (template_run c d other)
      → (n : NestAlike c (trees_plan c.translation trees) (entry_frame d env) (entry_frame d other))
      × FitsClasses n.one.filled × FitsClasses n.two.filled
  typed_runs_nest same =
      let n = runs_nest c fits (typed_templates_pick c trees are typed) (Unit {0}) (λ k. all_typed) trees d env other
      are member (fitting_data_alike d env other one two) one.values two.values (λ k. data_typed d env one)
      (λ k. data_typed d other two) same in
      (n.0, (n.1 tt).0, (n.1 tt).1)
