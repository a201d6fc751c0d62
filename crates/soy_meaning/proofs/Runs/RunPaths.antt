-- What templates give goes along paths of their plans.
use Rattle.std.proofs.Common.{◌≡◌, ℕ, zero, suc, List, [], ◌∷◌, inl, inr, Option, map, refl, sym, ap, ◌∙◌, subst}
use Rattle.std.proofs.Common.{arith}
use Rattle.soy_tree.specs.MessageParts.{MsgParts}
use Rattle.soy_tree.specs.Nodes.{Message}
use Rattle.soy_rules.specs.Templates.{Declared, declared, param_scope}
use Rattle.soy_tree.specs.Trees.{Tree}
use Rattle.soy_meaning.specs.Runs.FrameRun.{FrameRun, entry_frame, plan_context, run_plan, template_frame}
use Rattle.soy_pieces.specs.Giving.{RunEnv}
use Rattle.soy_pieces.specs.Outcome.{StopsAt, end_of_outcome}
use Rattle.soy_pieces.specs.Pieces.{RunContext, context_in, template_run}
use Rattle.soy_meaning.specs.Paths.Plan.{Plan, in_turn}
use Rattle.soy_pieces.specs.Site.{Site}
use Rattle.soy_meaning.specs.Paths.PlanOfNodes.{declared_plan, nodes_plan, trees_plan}
use Rattle.soy_meaning.specs.Walks.Points.{Here, Inside, Left, Right, frame_at}
use Rattle.soy_meaning.specs.Runs.RunsAlong.{BindsValues, EnvRuns, FitsClasses, IsFrameWithin, RunsAlong}
use Rattle.soy_meaning.specs.Walks.States.{IsMember}
use Rattle.soy_meaning.specs.Runs.StopsWithin.{IsOpened, StopsWithin, itself}
use Rattle.soy_meaning.specs.Runs.TranslationFits.{NodesFit, TranslationsFit}
use Rattle.soy_meaning.proofs.Typing.CheckedTrees.{TemplateTyped}
use Rattle.soy_meaning.proofs.Runs.Goings.{Ran}
use Rattle.soy_meaning.proofs.Runs.NodeRuns.{frame_runs}
use Rattle.soy_meaning.proofs.Runs.RunBindings.{AllRun, FramesIn, env_runs, values_run}
use Rattle.soy_meaning.proofs.Typing.TypedEnvs.{EnvTyped}

turn_frames : (f : Declared → Plan) (ds : List Declared) (d : Declared) → IsMember d ds
    → FramesIn (in_turn (map f ds)) (f d)
turn_frames f [] d member y kind q e = absurd member
turn_frames f (first ∷ ds) d (inl same) y kind q e = (Left y, ap (λ z. frame_at (f z) y) (sym same) ∙ e)
turn_frames f (first ∷ ds) d (inr member) y kind q e =
    let r : IsFrameWithin (in_turn (map f ds)) kind q = turn_frames f ds d member y kind q e in (Right r.0, r.1)

pub member_fits : (translation : Message → Option MsgParts) (ds : List Declared) (d : Declared) → IsMember d ds
    → TranslationsFit translation ds → NodesFit translation d.template.body
member_fits translation [] d member fits = absurd member
member_fits translation (first ∷ ds) d (inl same) fits = subst (λ z. NodesFit translation z.template.body) (sym same)
    fits.0
member_fits translation (first ∷ ds) d (inr member) fits = member_fits translation ds d member fits.1

module _ (c : RunContext) where
  abbrev pub whole_of : List Declared → Plan
  whole_of ds = in_turn (map (declared_plan c.translation ds) ds)

  abbrev pub whole : Plan
  whole = whole_of c.declared

  abbrev pub frame_plan : Declared → Plan
  frame_plan d = nodes_plan (plan_context (context_in c d)) d.template.body (param_scope d.template.params)

  pub frame_within : (d : Declared) → IsMember d c.declared → IsFrameWithin whole d.template.kind (frame_plan d)
  frame_within d member = turn_frames (declared_plan c.translation c.declared) c.declared d member Here
      d.template.kind (frame_plan d) refl

  pub frames_within : (d : Declared) → IsMember d c.declared → FramesIn whole (frame_plan d)
  frames_within d member y kind q e = turn_frames (declared_plan c.translation c.declared) c.declared d member
      (Inside y) kind q e

  module _ (Claim : Type 0) (IsStop : Site → Type 0) (entry : FrameRun)
      (stop : (at : Site) → StopsWithin c entry at → IsStop at) (fits : TranslationsFit c.translation c.declared)
      (typed : Claim → (d : Declared) → IsMember d c.declared → TemplateTyped c.declared d) where
    abbrev Fitting : Declared → RunEnv → Type 0
    Fitting d env = Claim → EnvTyped (param_scope d.template.params) env

    one_less : (left fewer : ℕ) → suc left ≡ suc fewer → left ≡ fewer
    one_less left fewer e = omega (arith, e)

    never : (fewer : ℕ) → zero ≡ suc fewer → ⊥
    never fewer e = omega (arith, e)

    -- a template by itself, where those that it calls have run
    frame_ran : (left : ℕ) → ((fewer : ℕ) → left ≡ suc fewer → (d : Declared) (env : RunEnv) → IsMember d c.declared
        → AllRun c whole Claim IsStop env → Fitting d env → IsOpened c entry (template_frame fewer d env)
        → Ran c whole Claim IsStop (template_frame fewer d env)) →
        (d : Declared) (env : RunEnv) → IsMember d c.declared → AllRun c whole Claim IsStop env → Fitting d env
        → IsOpened c entry (template_frame left d env) → Ran c whole Claim IsStop (template_frame left d env)
    frame_ran left deeper d env member runs fitting opened =
        frame_runs c whole Claim IsStop entry stop left deeper (template_frame left d env)
        (record { same_left = refl; opened = opened }) runs (frame_within d member) (frames_within d member)
        (member_fits c.translation c.declared d member fits) (λ k. typed k d member) fitting

    template_ran : (left : ℕ) (d : Declared) (env : RunEnv) → IsMember d c.declared → AllRun c whole Claim IsStop env
        → Fitting d env → IsOpened c entry (template_frame left d env)
        → Ran c whole Claim IsStop (template_frame left d env)
    template_ran zero d env member runs fitting opened =
        frame_ran zero (λ fewer e inner inner_env among inner_runs inner_fit inner_opened. absurd (never fewer e)) d
        env member runs fitting opened
    template_ran (suc left) d env member runs fitting opened =
        frame_ran (suc left)
        (λ fewer e inner inner_env among inner_runs inner_fit. subst
        (λ n. IsOpened c entry (template_frame n inner inner_env)
        → Ran c whole Claim IsStop (template_frame n inner inner_env)) (one_less left fewer e)
        (template_ran left inner inner_env among inner_runs inner_fit))
        d env member runs fitting opened

  entry_runs : TranslationsFit c.translation c.declared → (d : Declared) (env : RunEnv) → IsMember d c.declared
      → EnvRuns c whole env → RunsAlong c whole (entry_frame d env)
  entry_runs fits d env member runs =
      (template_ran ⊥ (λ at. Unit {0}) (entry_frame d env) (λ at h. tt) fits (λ k. absurd k) 100 d env member
      (env_runs c whole ⊥ (λ at. Unit {0}) (λ k. k) (λ at. tt) env runs) (λ k. absurd k) itself).runs

  pub runs_are_paths : TranslationsFit c.translation c.declared → (trees : List Tree) (d : Declared) (env : RunEnv)
      → c.declared ≡ declared trees → IsMember d c.declared → EnvRuns c (trees_plan c.translation trees) env →
      RunsAlong c (trees_plan c.translation trees) (entry_frame d env)
  runs_are_paths fits trees d env are member =
      subst (λ ds. EnvRuns c (whole_of ds) env → RunsAlong c (whole_of ds) (entry_frame d env)) are
      (entry_runs fits d env member)

  -- where it stops
  pub entry_stops : TranslationsFit c.translation c.declared → (d : Declared) (env : RunEnv) → IsMember d c.declared
      → BindsValues env → (call : Site) → end_of_outcome (template_run c d env) ≡ StopsAt call
      → StopsWithin c (entry_frame d env) call
  entry_stops fits d env member values call ends =
      (template_ran ⊥ (StopsWithin c (entry_frame d env)) (entry_frame d env) (λ at h. h) fits (λ k. absurd k) 100 d
      env member (values_run c whole ⊥ (StopsWithin c (entry_frame d env)) env values) (λ k. absurd k) itself).stops
      call ends

  -- where the templates are typed, the variables are bound to what their types have, and no data are blocks
  pub entry_fits : TranslationsFit c.translation c.declared
      → ((d : Declared) → IsMember d c.declared → TemplateTyped c.declared d) → (d : Declared) (env : RunEnv)
      → IsMember d c.declared → BindsValues env → EnvTyped (param_scope d.template.params) env
      → (r : RunsAlong c whole (entry_frame d env)) × FitsClasses r.filled
  entry_fits fits typed d env member values fitting =
      let r : Ran c whole (Unit {0}) (λ at. Unit {0}) (entry_frame d env) =
      template_ran (Unit {0}) (λ at. Unit {0}) (entry_frame d env) (λ at h. tt) fits (λ k. typed) 100 d env member
      (values_run c whole (Unit {0}) (λ at. Unit {0}) env values) (λ k. fitting) itself in (r.runs, r.fits tt)

  pub frame_stands : (trees : List Tree) (d : Declared) (env : RunEnv) → c.declared ≡ declared trees
      → IsMember d c.declared
      → IsFrameWithin (trees_plan c.translation trees) d.template.kind (run_plan c (entry_frame d env))
  frame_stands trees d env are member =
      subst (λ ds. IsFrameWithin (whole_of ds) d.template.kind (run_plan c (entry_frame d env))) are
      (frame_within d member)
