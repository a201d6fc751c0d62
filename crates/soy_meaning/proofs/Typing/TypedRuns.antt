-- What typed and accepted trees give under data that fit.
use Rattle.std.proofs.Common.{◌≡◌, List, [], Ok, sym, subst}
use Rattle.soy_base.specs.declared.place.Place.{Place}
use Rattle.html_state.specs.AfterPieces.{after_pieces}
use Rattle.html_state.specs.Start.{start}
use Rattle.html_state.specs.declared.row.State.{State}
use Rattle.soy_rules.specs.Templates.{Declared, declared}
use Rattle.soy_tree.specs.Trees.{Tree}
use Rattle.soy_meaning.specs.Walks.AcceptedTrees.{AcceptedTrees, walk_trees}
use Rattle.soy_meaning.specs.Runs.EqualChoices.{AlikeByChoices, AlikeRuns, NestAlike}
use Rattle.soy_meaning.specs.Walks.FourPoints.{AcceptedPaths}
use Rattle.soy_meaning.specs.Runs.FrameRun.{entry_frame, run_plan}
use Rattle.soy_pieces.specs.Giving.{RunEnv}
use Rattle.soy_pieces.specs.Outcome.{choices_of_outcome, end_of_outcome, pieces_of_outcome}
use Rattle.soy_meaning.specs.Walks.PageMachine.{page_machine}
use Rattle.soy_pieces.specs.Pieces.{RunContext, template_run}
use Rattle.soy_meaning.specs.Paths.Plan.{Plan}
use Rattle.soy_meaning.specs.Paths.PlanOfNodes.{trees_plan}
use Rattle.soy_meaning.specs.Runs.RunPlaces.{ArePlaced, ArePlacedInBoth, FrameWithin}
use Rattle.soy_meaning.specs.Runs.RunsAlong.{FitsClasses, IsFrameWithin, RunsAlong}
use Rattle.soy_meaning.specs.Walks.States.{IsMember}
use Rattle.soy_meaning.specs.Runs.TranslationFits.{TranslationsFit}
use Rattle.soy_meaning.specs.Runs.TypedData.{AreTypedTrees, FitsData}
use Rattle.soy_meaning.specs.Walks.Walk.{Walked, walked}
use Rattle.soy_meaning.proofs.Pairs.AlikeRuns.{runs_alike, templates_alike}
use Rattle.soy_meaning.proofs.Typing.CheckedTrees.{TemplateTyped, templates_typed}
use Rattle.soy_meaning.proofs.Walks.PagePlaces.{static_places}
use Rattle.soy_meaning.proofs.Walks.PageStates.{page_compares}
use Rattle.soy_meaning.proofs.Pairs.PlacedInBoth.{both_placed}
use Rattle.soy_meaning.proofs.Runs.PlacedRuns.{run_placed}
use Rattle.soy_meaning.proofs.Runs.ReadRuns.{runs_are_read}
use Rattle.soy_meaning.proofs.Runs.RunPaths.{entry_fits, frame_stands, whole_of}
use Rattle.soy_meaning.proofs.Typing.TypedEnvs.{data_typed}
use Rattle.soy_meaning.proofs.Typing.TypedPicks.{fitting_data_alike, typed_templates_pick}
use Rattle.soy_meaning.proofs.Walks.Exact.{accepted_when_walked}

module _ (c : RunContext) (trees : List Tree) (d : Declared) (env : RunEnv) (are : c.declared ≡ declared trees)
    (member : IsMember d c.declared) (typed : AreTypedTrees trees) (fits : TranslationsFit c.translation c.declared)
    (data_ : FitsData d env) where
  abbrev whole : Plan
  whole = trees_plan c.translation trees

  all_typed : (e : Declared) → IsMember e c.declared → TemplateTyped c.declared e
  all_typed e among =
      subst (λ ds. TemplateTyped ds e) (sym are)
      (templates_typed trees typed e (subst (λ ds. IsMember e ds) are among))

  pub typed_run_fits : (r : RunsAlong c whole (entry_frame d env)) × FitsClasses r.filled
  typed_run_fits =
      subst (λ ds. (r : RunsAlong c (whole_of c ds) (entry_frame d env)) × FitsClasses r.filled) are
      (entry_fits c fits all_typed d env member data_.values (data_typed d env data_))

  stands : IsFrameWithin whole d.template.kind (run_plan c (entry_frame d env))
  stands = frame_stands c trees d env are member

  pub typed_run_is_read : AcceptedTrees c.translation trees → (now : State)
      × (after_pieces (start d.template.kind) (pieces_of_outcome (template_run c d env)) ≡ Ok now)
  typed_run_is_read accepted =
      runs_are_read c whole accepted (entry_frame d env) stands typed_run_fits.0 typed_run_fits.1

-- where the walk meets no fault, at the template's address
module _ (c : RunContext) (trees : List Tree) (d : Declared) (are : c.declared ≡ declared trees)
    (member : IsMember d c.declared) (v : Walked State) (walks : walk_trees c.translation trees ≡ Ok v) where
  abbrev entry_plan : Plan
  entry_plan = trees_plan c.translation trees

  accepted : AcceptedPaths page_machine entry_plan
  accepted = accepted_when_walked page_machine page_compares entry_plan (walked [] []) v walks

  abbrev template_within : FrameWithin entry_plan d.template.kind
  template_within =
      let stands = frame_stands c trees d [] are member in
      record { address = stands.0; plan = run_plan c (entry_frame d []); within = stands.1 }

  -- each run of it whose values and frames have classes of their holes
  pub template_placed : (env : RunEnv) (r : RunsAlong c entry_plan (entry_frame d env)) → FitsClasses r.filled
      → (q : FrameWithin entry_plan d.template.kind)
      × ArePlaced entry_plan v.places c.direction d.template.kind q [] [] r.filled
  template_placed env r fits =
      let found = static_places entry_plan (walked [] []) v walks in (
        template_within,
        subst (λ (places : List Place).
            ArePlaced entry_plan places c.direction d.template.kind template_within [] [] r.filled) (sym found.1)
            (run_placed c entry_plan accepted found.0 found.3 r.filled (end_of_outcome (template_run c d env))
            (entry_frame d env) d.template.kind template_within r.runs fits r.path),
      )

  -- two of them that nest alike
  pub templates_placed : (env other : RunEnv) (n : NestAlike c entry_plan (entry_frame d env) (entry_frame d other))
      → FitsClasses n.one.filled → FitsClasses n.two.filled → (q : FrameWithin entry_plan d.template.kind)
      × ArePlacedInBoth entry_plan v.places c.direction d.template.kind q [] [] [] n.one.filled n.two.filled
  templates_placed env other n fits also =
      let found = static_places entry_plan (walked [] []) v walks in (
        template_within,
        subst (λ (places : List Place).
            ArePlacedInBoth entry_plan places c.direction d.template.kind template_within [] [] [] n.one.filled
            n.two.filled) (sym found.1)
            (both_placed c entry_plan accepted found.0 found.3 n.one.filled n.two.filled
            (end_of_outcome (template_run c d other)) (entry_frame d other) d.template.kind template_within n.two.runs
            also n.alike
            (run_placed c entry_plan accepted found.0 found.3 n.one.filled (end_of_outcome (template_run c d env))
            (entry_frame d env) d.template.kind template_within n.one.runs fits n.one.path)),
      )

module _ (c : RunContext) (trees : List Tree) (are : c.declared ≡ declared trees) (typed : AreTypedTrees trees)
    (fits : TranslationsFit c.translation c.declared) (d : Declared) (env other : RunEnv)
    (member : IsMember d c.declared) (one : FitsData d env) (two : FitsData d other) where
  pub typed_runs_alike : choices_of_outcome (template_run c d env) ≡ choices_of_outcome (template_run c d other)
      → AlikeRuns (template_run c d env) (template_run c d other)
  typed_runs_alike same =
      runs_alike c fits (typed_templates_pick c trees are typed) d env other member
      (fitting_data_alike d env other one two) same

  pub typed_templates_alike : AlikeByChoices (template_run c d env) (template_run c d other)
  typed_templates_alike =
      templates_alike c fits (typed_templates_pick c trees are typed) d env other member
      (fitting_data_alike d env other one two)
