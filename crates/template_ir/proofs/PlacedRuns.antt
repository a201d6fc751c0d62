-- The runs of typed and accepted trees stand where the walk says.
use Rattle.std.proofs.Common.{◌≡◌, ℕ, zero, suc, ◌+◌, List, [], ◌∷◌, inl, inr, Some, Ok}
use Rattle.std.proofs.Common.{get_or, map, sym, subst, arith}
use Rattle.std.specs.Prelude.{slice_get}
use Rattle.soy_base.specs.declared.place.Place.{Place}
use Rattle.soy_base.specs.declared.place.Place.TheVariants as place
use Rattle.soy_base.specs.declared.place.Placing.TheVariants.{Takes}
use Rattle.html_state.specs.AfterPieces.{placing_after}
use Rattle.html_state.specs.declared.row.State.{State}
use Rattle.soy_rules.specs.Templates.{Declared, called_name, declared, param_scope}
use Rattle.soy_tree.specs.Trees.{Tree}
use Rattle.soy_meaning.specs.Walks.AcceptedTrees.{walk_trees}
use Rattle.soy_meaning.specs.Paths.Filled.{filled_pieces}
use Rattle.soy_meaning.specs.Walks.FourPoints.{AcceptedPaths}
use Rattle.soy_meaning.specs.Runs.FrameRun.{plan_context, template_frame}
use Rattle.soy_pieces.specs.Giving.{RunEnv}
use Rattle.soy_meaning.specs.Walks.Holes.{hole_count}
use Rattle.soy_meaning.specs.Walks.Holes as plan
use Rattle.soy_meaning.specs.Walks.PageMachine.{page_machine}
use Rattle.soy_pieces.specs.Pieces.{RunContext, called_within, context_in}
use Rattle.soy_meaning.specs.Paths.Plan.{Plan, in_turn}
use Rattle.soy_meaning.specs.Paths.PlanOfNodes.{PlanContext, closes_at, declared_plan, nodes_plan, trees_plan}
use Rattle.soy_meaning.specs.Walks.Points.{Inside}
use Rattle.soy_meaning.specs.Walks.States.{IsMember}
use Rattle.soy_meaning.specs.Runs.TranslationFits.{TranslationsFit}
use Rattle.soy_meaning.specs.Runs.TypedData.{AreTypedTrees, FitsData}
use Rattle.soy_meaning.specs.Walks.Walk.{Walked, walked}
use Rattle.soy_meaning.proofs.Typing.CheckedTrees.{templates_typed}
use Rattle.soy_meaning.proofs.Walks.PagePlaces.{static_places}
use Rattle.soy_meaning.proofs.Walks.PageStates.{page_compares}
use Rattle.soy_meaning.proofs.Runs.RunBindings.{values_run}
use Rattle.soy_meaning.proofs.Runs.RunPaths.{member_fits}
use Rattle.soy_meaning.proofs.Typing.TypedEnvs.{EnvTyped, data_typed}
use Rattle.soy_meaning.proofs.Walks.Exact.{accepted_when_walked}
use Rattle.template_ir.specs.Compiles.{callee_number}
use Rattle.soy_rules.specs.Language.{Language}
use Rattle.template_ir.specs.HoleCounts.{nodes_holes}
use Rattle.template_ir.specs.Placed.{EntryPlaced, PlacedAt, TemplatePlaced, holes_before}
use Rattle.soy_pieces.specs.LanguageContext.{language_context}
use Rattle.template_ir.proofs.CheckedTemplates.{template_demands}
use Rattle.template_ir.proofs.Counts.{nodes_count}
use Rattle.template_ir.proofs.PlacedHoles.{AllGood, TemplatesRun, frame_has_run}
use Rattle.template_ir.proofs.PlacedNodes.{nodes_placed}
use Rattle.template_ir.proofs.RunLaws.{found_at}
use Rattle.template_ir.proofs.SeenHoles.{Seen, SeesFrames, frame_seen, frame_stands, frames_first, frames_second}

pub found_member : {A : Type 0} (xs : List A) (n : ℕ) (x : A) → slice_get xs n ≡ Some x → IsMember x xs
found_member [] n x h = let no : ⊥ = cc in absurd no
found_member (y ∷ xs) zero x h = let same : x ≡ y = cc in inl same
found_member (y ∷ xs) (suc n) x h = inr (found_member xs n x h)

less : (left fewer : ℕ) → suc left ≡ suc fewer → left ≡ fewer
less left fewer e = omega (arith, e)

never : (fewer : ℕ) → zero ≡ suc fewer → ⊥
never fewer e = omega (arith, e)

module _ (trees : List Tree) (l : Language) (v : Walked State) (typed : AreTypedTrees trees)
    (fits : TranslationsFit l.translation (declared trees)) (walks : walk_trees l.translation trees ≡ Ok v) where
  abbrev all : List Declared
  all = declared trees

  abbrev c : RunContext
  c = language_context l all

  abbrev whole : Plan
  whole = trees_plan l.translation trees

  abbrev places : List Place
  places = v.places

  accepted : AcceptedPaths page_machine whole
  accepted = accepted_when_walked page_machine page_compares whole (walked [] []) v walks

  abbrev Frames : Plan → ℕ → Type 0
  Frames = SeesFrames c.direction whole places

  abbrev Good : RunEnv → Type 0
  Good = AllGood c whole accepted places

  whole_sees : Frames whole 0
  whole_sees y kind q within =
      let found = static_places whole (walked [] []) v walks in (
        (y, within),
        (λ f holds x classes point leads.
            let here = found.3 y kind q within x classes point c.direction f leads holds place.Text in
            let n : plan.holes_before whole y + plan.holes_before q x
            ≡ 0 + plan.holes_before whole y + plan.holes_before q x = omega arith in
            subst (λ k. placing_after kind (filled_pieces c.direction f kind [])
            ≡ Ok (Takes (get_or places k place.Text))) n
            (subst (λ (ps : List Place). placing_after kind (filled_pieces c.direction f kind [])
            ≡ Ok (Takes (get_or ps (plan.holes_before whole y + plan.holes_before q x) place.Text))) (sym found.1)
            here)),
      )

  -- ---- templates

  abbrev plan_of : Declared → Plan
  plan_of = declared_plan l.translation all

  abbrev of_context : Declared → PlanContext
  of_context d = plan_context (context_in c d)

  number_sees : (ds : List Declared) (hole number : ℕ) (d : Declared) → Frames (in_turn (map plan_of ds)) hole
      → slice_get ds number ≡ Some d → Frames (plan_of d) (hole + holes_before l.translation ds number)
  number_sees [] hole number d h found = let no : ⊥ = cc in absurd no
  number_sees (first ∷ ds) hole zero d h found =
      let same : first ≡ d = cc in
      let n : hole ≡ hole + 0 = omega arith in
      subst (λ k. Frames (plan_of d) k) n
      (subst (λ z. Frames (plan_of z) hole) same
      (frames_first c.direction whole places (plan_of first) (in_turn (map plan_of ds)) hole h))
  number_sees (first ∷ ds) hole (suc number) d h found =
      let count : hole_count (plan_of first) ≡ nodes_holes l.translation first.template.body =
      nodes_count (of_context first) first.template.body (param_scope first.template.params) in
      let rest = number_sees ds (hole + hole_count (plan_of first)) number d
      (frames_second c.direction whole places (plan_of first) (in_turn (map plan_of ds)) hole h) found in
      let n : hole + hole_count (plan_of first) + holes_before l.translation ds number
      ≡ hole + (nodes_holes l.translation first.template.body + holes_before l.translation ds number) =
      omega (arith, count) in subst (λ k. Frames (plan_of d) k) n rest

  template_sees : (number : ℕ) (d : Declared) → slice_get all number ≡ Some d
      → Frames (plan_of d) (holes_before l.translation all number)
  template_sees number d found =
      let n : 0 + holes_before l.translation all number ≡ holes_before l.translation all number = omega arith in
      subst (λ k. Frames (plan_of d) k) n (number_sees all 0 number d whole_sees found)

  -- wherever it stands
  member_sees : (ds : List Declared) (hole : ℕ) (d : Declared) → Frames (in_turn (map plan_of ds)) hole
      → IsMember d ds → (n : ℕ) × Frames (plan_of d) n
  member_sees [] hole d h member = absurd member
  member_sees (first ∷ ds) hole d h (inl same) = (
    hole,
    subst (λ z. Frames (plan_of z) hole) (sym same)
        (frames_first c.direction whole places (plan_of first) (in_turn (map plan_of ds)) hole h),
  )
  member_sees (first ∷ ds) hole d h (inr member) =
      member_sees ds (hole + hole_count (plan_of first)) d
      (frames_second c.direction whole places (plan_of first) (in_turn (map plan_of ds)) hole h) member

  template_runs : (left : ℕ) → ((fewer : ℕ) → left ≡ suc fewer → TemplatesRun c whole accepted places fewer)
      → TemplatesRun c whole accepted places left
  template_runs left deeper d env member good fitting =
      let sees = member_sees all 0 d whole_sees member in
      let p : Plan = nodes_plan (of_context d) d.template.body (param_scope d.template.params) in
      frame_has_run c whole accepted places (template_frame left d env) deeper good
      (frame_stands c.direction whole places (closes_at d.file d.template.span) d.template.kind p sees.0 sees.1)
      (λ y kind r e. (sees.1 (Inside y) kind r e).0)
      (member_fits l.translation all d member fits) (templates_typed trees typed d member) fitting

  templates_run : (left : ℕ) → TemplatesRun c whole accepted places left
  templates_run zero = template_runs zero (λ fewer e. absurd (never fewer e))
  templates_run (suc left) =
      template_runs (suc left)
      (λ fewer e. subst (λ n. TemplatesRun c whole accepted places n) (less left fewer e) (templates_run left))

  -- ---- what they give

  abbrev Deeper : ℕ → Type 0
  Deeper left =
      (number : ℕ) (d : Declared) → slice_get all number ≡ Some d → (env : RunEnv) → Good env
      → EnvTyped (param_scope d.template.params) env → TemplatePlaced c places left number env

  placed_at : (left : ℕ) → Deeper left → (number : ℕ) (d : Declared) → slice_get all number ≡ Some d → (env : RunEnv)
      → Good env → EnvTyped (param_scope d.template.params) env
      → PlacedAt c places (called_within c left) (TemplatePlaced c places left) (slice_get all number)
      (holes_before l.translation all number) env
  placed_at left deeper number d found env good fitting =
      let member : IsMember d all = found_member all number d found in
      let p : Plan = nodes_plan (of_context d) d.template.body (param_scope d.template.params) in
      let hole : ℕ = holes_before l.translation all number in
      let seen : Seen c.direction whole places d.template.kind p [] hole =
      frame_seen c.direction whole places (closes_at d.file d.template.span) d.template.kind p hole
      (template_sees number d found) in
      subst (λ f. PlacedAt c places (called_within c left) (TemplatePlaced c places left) f hole env) (sym found)
      (nodes_placed c whole accepted places d left (λ fewer e. templates_run fewer) (TemplatePlaced c places left)
      (λ name e is inner good_inner fitting_inner. deeper (callee_number all d.namespace name) e
      (found_at d.namespace (called_name d.namespace name) all e is) inner good_inner fitting_inner)
      d.template.body d.template.kind hole env (param_scope d.template.params) [] seen
      (member_fits l.translation all d member fits) (templates_typed trees typed d member)
      (template_demands trees typed d member) good fitting (λ inner now. Unit {0}) (λ inner f holds path. tt))

  placed_within : (left : ℕ) → Deeper left
  unfolding TemplatePlaced
  placed_within zero number d found env good fitting = tt
  placed_within (suc left) number d found env good fitting =
      placed_at left (placed_within left) number d found env good fitting

  pub runs_placed : (number : ℕ) (d : Declared) → slice_get all number ≡ Some d → (env : RunEnv) → FitsData d env
      → EntryPlaced c places number env
  runs_placed number d found env data_ =
      placed_at 100 (placed_within 100) number d found env
      (values_run c whole (Unit {0}) (λ at. Unit {0}) env data_.values) (data_typed d env data_)
