-- The place that the walk gives to a hole takes the classes of the hole, of each hole to which a path leads.
use Rattle.std.proofs.Common.{◌≡◌, ℕ, ◌+◌, true, List, [], ◌∷◌, ◌++◌, Option, Some, Ok, get_or, refl, sym, ap}
use Rattle.std.proofs.Common.{subst, arith}
use Rattle.soy_base.specs.declared.kind.Kind.{Kind}
use Rattle.soy_base.specs.declared.place.Place.{Place}
use Rattle.soy_base.specs.declared.place.Place.TheVariants as place
use Rattle.soy_base.specs.declared.place.Placing.TheVariants.{Takes}
use Rattle.soy_base.specs.declared.place.ValueClass.{ValueClass}
use Rattle.html_state.specs.Start.{start}
use Rattle.html_state.specs.declared.row.State.{State}
use Rattle.soy_meaning.specs.Walks.FourPoints.{OnePlacing, PointHolds, StartsAs, takes_classes}
use Rattle.soy_meaning.specs.Walks.Holes.{hole_count, holes_before}
use Rattle.soy_meaning.specs.Walks.PageMachine.{page_machine}
use Rattle.soy_meaning.specs.Paths.PathParts.{PathPart, no_turn, state_after_parts}
use Rattle.soy_meaning.specs.Paths.Plan.{Plan, Either, Frame, Hole, Loop, Nowhere, Then, any_of, arms_meet}
use Rattle.soy_pieces.specs.Site.{Site}
use Rattle.soy_meaning.specs.Walks.Points.{Address, AtHole, Here, Inside, LeadsTo, Left, Point, Right, StandsAt}
use Rattle.soy_meaning.specs.Walks.Points.{frame_at}
use Rattle.soy_meaning.specs.Walks.Points.{in_arms, in_body, one_way, other_way, point_at, to_first, to_hole, to_second}
use Rattle.soy_meaning.specs.Walks.States.{IsMember}
use Rattle.soy_meaning.specs.Walks.Walk.{Walked, walk, walked}
use Rattle.soy_meaning.proofs.Paths.FinePaths.{Fine, fine_runs, leads_fine}
use Rattle.soy_meaning.proofs.Walks.Holds.{Holds}
use Rattle.soy_meaning.proofs.Paths.InnerFrames.{inner_holds}
use Rattle.soy_meaning.proofs.Walks.PageStates.{page_compares}
use Rattle.soy_meaning.proofs.Walks.PointsAndHolds.{points_of_good}
use Rattle.soy_meaning.proofs.Paths.SomePaths.{HasPath}
use Rattle.soy_meaning.proofs.Walks.Sound.{sound}
use Rattle.soy_meaning.proofs.Walks.Exact.{walked_places}
use Rattle.template_ir.specs.StandFor.{place_of}
use Rattle.template_ir.proofs.Counts.{all_holes}

module _ (places : List Place) where
  abbrev IsTaken : List ValueClass → ℕ → Type 0
  IsTaken classes hole = takes_classes (Takes (place_of places hole)) classes ≡ true

  taken_at : (classes : List ValueClass) (m n : ℕ) → m ≡ n → IsTaken classes m → IsTaken classes n
  taken_at classes m n e h = subst (λ k. IsTaken classes k) e h

  abbrev pub TakesHoles : Plan → ℕ → Type 0
  TakesHoles p hole =
      (x : Address) (classes : List ValueClass) → point_at p x ≡ Some (AtHole classes) → (parts : List PathPart)
      → LeadsTo p parts x → IsTaken classes (hole + holes_before p x)

  -- the holes of a plan, counted from a first, and those of the frames within
  pub record Taken (p : Plan) (hole : ℕ) : Type 0 where
    pub holes : TakesHoles p hole
    pub frames : (y : Address) (kind : Kind) (q : Plan) → frame_at p y ≡ Some (kind, q)
        → TakesHoles q (hole + holes_before p y)

  pub taken_from : (p : Plan) (m n : ℕ) → m ≡ n → Taken p m → Taken p n
  taken_from p m n e h = subst (λ k. Taken p k) e h

  holes_from : (p : Plan) (m n : ℕ) → m ≡ n → TakesHoles p m → TakesHoles p n
  holes_from p m n e h = subst (λ k. TakesHoles p k) e h

  pub first_taken : (p q : Plan) (hole : ℕ) → Taken (Then p q) hole → Taken p hole
  first_taken p q hole h = record {
    holes = λ x classes e parts leads. h.holes (Left x) classes e parts (to_first leads);
    frames = λ y k r e. h.frames (Left y) k r e;
  }

  pub second_taken : (p q : Plan) (hole : ℕ) → HasPath p → Taken (Then p q) hole → Taken q (hole + hole_count p)
  second_taken p q hole has h = record {
    holes = λ x classes e parts leads.
        taken_at classes (hole + (hole_count p + holes_before q x)) (hole + hole_count p + holes_before q x)
        (omega arith) (h.holes (Right x) classes e (has.parts ++ parts) (to_second has.path leads));
    frames = λ y k r e.
        holes_from r (hole + (hole_count p + holes_before q y)) (hole + hole_count p + holes_before q y) (omega arith)
        (h.frames (Right y) k r e);
  }

  one_taken : (p q : Plan) (hole : ℕ) → Taken (Either p q) hole → Taken p hole
  one_taken p q hole h = record {
    holes = λ x classes e parts leads. h.holes (Left x) classes e parts (one_way leads);
    frames = λ y k r e. h.frames (Left y) k r e;
  }

  other_taken : (p q : Plan) (hole : ℕ) → Taken (Either p q) hole → Taken q (hole + hole_count p)
  other_taken p q hole h = record {
    holes = λ x classes e parts leads.
        taken_at classes (hole + (hole_count p + holes_before q x)) (hole + hole_count p + holes_before q x)
        (omega arith) (h.holes (Right x) classes e parts (other_way leads));
    frames = λ y k r e.
        holes_from r (hole + (hole_count p + holes_before q y)) (hole + hole_count p + holes_before q y) (omega arith)
        (h.frames (Right y) k r e);
  }

  pub body_taken : (at : Site) (p : Plan) (hole : ℕ) → Taken (Loop at p) hole → Taken p hole
  body_taken at p hole h = record {
    holes = λ x classes e parts leads. h.holes (Inside x) classes e parts (in_body no_turn leads);
    frames = λ y k r e. h.frames (Inside y) k r e;
  }

  pub frame_taken : (at : Site) (k : Kind) (p : Plan) (hole : ℕ) → Taken (Frame k at p) hole → Taken p hole
  frame_taken at k p hole h = record {
    holes = holes_from p (hole + 0) hole (omega arith) (h.frames Here k p refl);
    frames = λ y kind r e. h.frames (Inside y) kind r e;
  }

  pub hole_taken : (at : Site) (classes : List ValueClass) (hole : ℕ) → Taken (Hole at classes) hole
      → takes_classes (Takes (place_of places hole)) classes ≡ true
  hole_taken at classes hole h =
      taken_at classes (hole + 0) hole (omega arith) (h.holes Here classes refl [] to_hole)

  -- ---- arms that stand side by side

  abbrev pub AllTaken : List Plan → ℕ → Type 0
  AllTaken [] hole = Unit {0}
  AllTaken (p ∷ ps) hole = Taken p hole × AllTaken ps (hole + hole_count p)

  pub all_from : (ps : List Plan) (m n : ℕ) → m ≡ n → AllTaken ps m → AllTaken ps n
  all_from ps m n e h = subst (λ k. AllTaken ps k) e h

  any_taken : (p : Plan) (ps : List Plan) (hole : ℕ) → Taken (any_of p ps) hole
      → Taken p hole × AllTaken ps (hole + hole_count p)
  any_taken p [] hole h = (h, tt)
  any_taken p (q ∷ qs) hole h =
      let r = any_taken (Either p q) qs hole h in (
        one_taken p q hole r.0,
        (
          other_taken p q hole r.0,
          all_from qs (hole + (hole_count p + hole_count q)) (hole + hole_count p + hole_count q) (omega arith) r.1,
        ),
      )

  pub arms_taken : (at : Site) (ps : List Plan) (hole : ℕ) → Taken (arms_meet at ps) hole → AllTaken ps hole
  arms_taken at ps hole h =
      all_from ps (hole + 0) hole (omega arith)
      (any_taken Nowhere ps hole
      (record {
        holes = λ x classes e parts leads. h.holes (Inside x) classes e parts (in_arms leads);
        frames = λ y k r e. h.frames (Inside y) k r e;
      })).1

  pub taken_split : (ps qs : List Plan) (hole : ℕ) → AllTaken (ps ++ qs) hole
      → AllTaken ps hole × AllTaken qs (hole + all_holes ps)
  taken_split [] qs hole h = (tt, all_from qs hole (hole + 0) (omega arith) h)
  taken_split (p ∷ ps) qs hole h =
      let r = taken_split ps qs (hole + hole_count p) h.1 in (
        (h.0, r.0),
        all_from qs (hole + hole_count p + all_holes ps) (hole + (hole_count p + all_holes ps)) (omega arith) r.1,
      )

  -- the last one behind others, whose holes are so many
  pub last_taken : (ps : List Plan) (q : Plan) (hole n : ℕ) → all_holes ps ≡ n → AllTaken (ps ++ (q ∷ [])) hole
      → AllTaken ps hole × Taken q (hole + n)
  last_taken ps q hole n e h =
      let r = taken_split ps (q ∷ []) hole h in
      (r.0, taken_from q (hole + all_holes ps) (hole + n) (ap (λ k. hole + k) e) r.1.0)

-- ---- the walk

hole_takes : (classes : List ValueClass) (found : Option Point) (P : State → Type 0) → found ≡ Some (AtHole classes)
    → PointHolds page_machine found P → OnePlacing page_machine classes P
hole_takes classes found P e h = subst (λ f. PointHolds page_machine f P) e h

-- of each frame of a plan that the walk goes through
pub walk_takes : (whole : Plan) (v : Walked State) → walk page_machine whole (walked [] []) ≡ Ok v → (y : Address)
    (kind : Kind) (q : Plan) → frame_at whole y ≡ Some (kind, q) → TakesHoles v.places q (holes_before whole y)
walk_takes whole v walks y kind q within x classes point parts leads =
    let found = walked_places page_machine page_compares whole (walked [] []) v walks in
    let good : Holds page_machine q (StartsAs page_machine kind) =
    inner_holds page_machine whole (λ s. IsMember s [])
    (sound page_machine page_compares whole (walked [] []) v walks).good y (kind, q) within in
    let fine : Fine page_machine parts (start kind) =
    leads_fine page_machine q (StartsAs page_machine kind) good parts x leads (start kind) refl in
    let runs : (t : State) × (state_after_parts page_machine parts (start kind) ≡ Ok t) =
    fine_runs page_machine parts (start kind) fine in
    let here : StandsAt page_machine q (StartsAs page_machine kind) x runs.0 =
    record { from = start kind; before = refl; parts = parts; leads = leads; reads = runs.1 } in
    let one : OnePlacing page_machine classes (StandsAt page_machine q (StartsAs page_machine kind) x) =
    hole_takes classes (point_at q x) (StandsAt page_machine q (StartsAs page_machine kind) x) point
    (points_of_good page_machine q (StartsAs page_machine kind) good x) in
    subst (λ (ps : List Place).
    takes_classes (Takes (get_or ps (holes_before whole y + holes_before q x) place.Text)) classes ≡ true)
    (sym found.1)
    (subst (λ z. takes_classes z classes ≡ true) (found.3 y kind q within x classes point runs.0 here place.Text)
    (one.takes runs.0 here))
