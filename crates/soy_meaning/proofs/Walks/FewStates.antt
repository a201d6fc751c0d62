-- At each point of an accepted frame at most 16 states stand, where arms stand side by side under a meet alone.
use Rattle.std.proofs.Common.{◌≡◌, ℕ, ◌≤◌, List, [], ◌∷◌, inl, inr, Option, Some, None, Result, Ok}
use Rattle.std.proofs.Common.{length}
use Rattle.std.proofs.Common.{refl, sym, ap, ◌∙◌, subst, arith}
use Rattle.soy_base.specs.declared.code.Code.{Code}
use Rattle.soy_base.specs.declared.kind.Kind.{Kind}
use Rattle.soy_meaning.specs.Walks.FourPoints.{StartsAs}
use Rattle.soy_meaning.specs.Walks.Machine.{Machine}
use Rattle.soy_meaning.specs.Paths.PathParts.{PathLeads, StandsAfter, after_text}
use Rattle.soy_meaning.specs.Paths.Plan.{Plan, Nothing, Nowhere, StaticText, Hole, Then, Either, Meet, Loop, Frame}
use Rattle.soy_meaning.specs.Walks.Points.{Address, Here, Left, Right, Inside, Point, StandsAt, frame_at, point_at}
use Rattle.soy_meaning.specs.Walks.States.{AtMost, HasNoRepeats, IsMember}
use Rattle.soy_meaning.proofs.Walks.Holds.{Holds}
use Rattle.soy_meaning.proofs.Members.{few_from_list}
use Rattle.soy_base.proofs.Results.{ok_same}
use Rattle.soy_meaning.proofs.Walks.PointsAndHolds.{arms_lead, body_stands, head_path, hole_from, left_leads, meet_path}
use Rattle.soy_meaning.proofs.Walks.PointsAndHolds.{one_leads, other_leads, right_stands, stands_after, stands_by}
use Rattle.soy_meaning.proofs.Walks.PointsAndHolds.{text_from}
use Rattle.soy_meaning.proofs.Runs.Joined.{block_reached, hole_reached, meet_reached, nothing_reached, nowhere_reached}
use Rattle.soy_meaning.proofs.Runs.Joined.{static_reached, then_reached}
use Rattle.soy_meaning.proofs.Walks.Sound.{few_mono}

-- arms stand side by side under a meet alone, behind the plan of no path
abbrev mutual
  pub IsBuilt : Plan → Type 0
  IsBuilt (Then p q) = IsBuilt p × IsBuilt q
  IsBuilt (Either p q) = ⊥
  IsBuilt (Meet at p) = AreArms p
  IsBuilt (Loop at p) = IsBuilt p
  IsBuilt (Frame kind at p) = IsBuilt p
  IsBuilt _ = Unit {0}

  pub AreArms : Plan → Type 0
  AreArms Nowhere = Unit {0}
  AreArms (Either p q) = AreArms p × IsBuilt q
  AreArms _ = ⊥

-- ---- frames within

none_frame : (a : Kind × Plan) → ◌≡◌ {A = Option (Kind × Plan)} None (Some a) → ⊥
none_frame a e = cc

some_frame : (a b : Kind × Plan) → ◌≡◌ {A = Option (Kind × Plan)} (Some a) (Some b) → a ≡ b
some_frame a b e = cc

mutual
  pub built_at : (p : Plan) → IsBuilt p → (y : Address) (found : Kind × Plan) → frame_at p y ≡ Some found
      → IsBuilt found.1
  built_at (Frame kind at p) b Here found e = subst (λ (z : Kind × Plan). IsBuilt z.1) (some_frame (kind, p) found e) b
  built_at (Frame kind at p) b (Inside y) found e = built_at p b y found e
  built_at (Then p q) b (Left y) found e = built_at p b.0 y found e
  built_at (Then p q) b (Right y) found e = built_at q b.1 y found e
  built_at (Meet at p) b (Inside y) found e = arms_built_at p b y found e
  built_at (Loop at p) b (Inside y) found e = built_at p b y found e
  built_at (Frame kind at p) b (Left y) found e = absurd (none_frame found e)
  built_at (Frame kind at p) b (Right y) found e = absurd (none_frame found e)
  built_at (Either p q) b y found e = absurd b
  built_at _ b _ found e = absurd (none_frame found e)

  arms_built_at : (p : Plan) → AreArms p → (y : Address) (found : Kind × Plan) → frame_at p y ≡ Some found
      → IsBuilt found.1
  arms_built_at (Either p q) b (Left y) found e = arms_built_at p b.0 y found e
  arms_built_at (Either p q) b (Right y) found e = built_at q b.1 y found e
  arms_built_at (Either p q) b Here found e = absurd (none_frame found e)
  arms_built_at (Either p q) b (Inside y) found e = absurd (none_frame found e)
  arms_built_at Nowhere b y found e = absurd (none_frame found e)
  arms_built_at _ b y found e = absurd b

-- ---- images

-- one source for each of some results
record Sources {S : Type 0} (P : S → Type 0) (f : S → Result S Code) (xs : List S) : Type 0 where
  pub ys : List S
  pub same : length ys ≡ length xs
  pub apart : HasNoRepeats ys
  pub inside : (s : S) → IsMember s ys → P s
  pub lead : (s : S) → IsMember s ys → (t : S) × IsMember t xs × (f s ≡ Ok t)

sources : {S : Type 0} (P : S → Type 0) (f : S → Result S Code) (xs : List S) → HasNoRepeats xs
    → ((t : S) → IsMember t xs → (s : S) × P s × (f s ≡ Ok t)) → Sources P f xs
sources P f [] d all = record { ys = []; same = refl; apart = tt; inside = λ s h. absurd h; lead = λ s h. absurd h }
sources {S} P f (x ∷ xs) d all =
    let r : Sources P f xs = sources P f xs d.1 (λ t h. all t (inr h)) in
    let y : (s : S) × P s × (f s ≡ Ok x) = all x (inl refl) in record {
      ys = y.0 ∷ r.ys;
      same = omega (arith, r.same);
      apart = (
        (λ h. (let k : (t : S) × IsMember t xs × (f y.0 ≡ Ok t) = r.lead y.0 h in
            let e : x ≡ k.0 = ok_same x k.0 (sym y.2 ∙ k.2) in d.0 (subst (λ z. IsMember z xs) (sym e) k.1))),
        r.apart,
      );
      inside = λ s h. elim h [ inl e ↦ subst P (sym e) y.1 | inr k ↦ r.inside s k ];
      lead = λ s h. elim h [
        | inl e ↦ (x, inl refl, ap f e ∙ y.2)
        | inr k ↦ (let z : (t : S) × IsMember t xs × (f s ≡ Ok t) = r.lead s k in (z.0, inr z.1, z.2))
      ];
    }

few_image : {S : Type 0} (n : ℕ) (P Q : S → Type 0) (f : S → Result S Code)
    → ((t : S) → Q t → (s : S) × P s × (f s ≡ Ok t)) → AtMost n P → AtMost n Q
few_image n P Q f from few xs d all =
    let r : Sources P f xs = sources P f xs d (λ t h. from t (all t h)) in
    let h : length r.ys ≤ n = few r.ys r.apart r.inside in omega (arith, h, r.same)

module _ {S : Type 0} (m : Machine S) where
  none_few : (P : S → Type 0) → ((s : S) → P s → ⊥) → AtMost 16 P
  none_few P never [] d all = omega arith
  none_few P never (x ∷ xs) d all = absurd (never x (all x (inl refl)))

  pub start_few : (kind : Kind) → AtMost 16 (StartsAs m kind)
  start_few kind = few_from_list 16 (m.start kind ∷ []) (StartsAs m kind) (omega arith) (λ t h. inl h)

  -- no more states stand after a plan than may meet
  pub few_after : (p : Plan) → IsBuilt p → (P : S → Type 0) → Holds m p P → AtMost 16 P → AtMost 16 (StandsAfter m p P)
  few_after Nothing b P g few = few_mono m 16 (StandsAfter m Nothing P) P
      (λ t h. subst P (nothing_reached m h.from t h.path_leads) h.before) few
  few_after Nowhere b P g few = none_few (StandsAfter m Nowhere P) (λ t h. nowhere_reached m h.from t h.path_leads)
  few_after (StaticText at text) b P g few =
      few_image 16 P (StandsAfter m (StaticText at text) P) (after_text m text)
      (λ t h. (h.from, h.before, static_reached m at text h.from t h.path_leads)) few
  few_after (Hole at classes) b P g few =
      few_image 16 P (StandsAfter m (Hole at classes) P) (λ s. Ok (m.value s))
      (λ t h. (h.from, h.before, ap (λ z. Ok z) (hole_reached m at classes h.from t h.path_leads))) few
  few_after (Then p q) b P g few =
      few_mono m 16 (StandsAfter m (Then p q) P) (StandsAfter m q (StandsAfter m p P))
      (λ t h. (let r : (u : S) × PathLeads m p h.from u × PathLeads m q u t = then_reached m p q h.from t h.path_leads
      in
      record { from = r.0; before = record { from = h.from; before = h.before; path_leads = r.1 }; path_leads = r.2 }))
      (few_after q b.1 (StandsAfter m p P) g.1 (few_after p b.0 P g.0 few))
  few_after (Either p q) b P g few = absurd b
  few_after (Meet at p) b P g few =
      few_mono m 16 (StandsAfter m (Meet at p) P) (StandsAfter m p P)
      (λ t h. record { from = h.from; before = h.before; path_leads = meet_reached m at p h.from t h.path_leads })
      g.1
  few_after (Loop at p) b P g few = g.1
  few_after (Frame kind at p) b P g few = few_mono m 16 (StandsAfter m (Frame kind at p) P) P
      (λ t h. subst P (block_reached m kind at p h.from t h.path_leads) h.before) few

  no_point : (pt : Point) → ◌≡◌ {A = Option Point} None (Some pt) → ⊥
  no_point pt e = cc

  mutual
    -- at each point
    pub few_at : (p : Plan) → IsBuilt p → (P : S → Type 0) → Holds m p P → AtMost 16 P → (x : Address) (pt : Point)
        → point_at p x ≡ Some pt → AtMost 16 (StandsAt m p P x)
    few_at (StaticText at text) b P g few Here pt e =
        few_mono m 16 (StandsAt m (StaticText at text) P Here) P
        (λ t h. text_from m at text P h.parts h.from t h.leads h.reads h.before) few
    few_at (Hole at classes) b P g few Here pt e =
        few_mono m 16 (StandsAt m (Hole at classes) P Here) P
        (λ t h. hole_from m at classes P h.parts h.from t h.leads h.reads h.before) few
    few_at (Then p q) b P g few (Left x) pt e =
        few_mono m 16 (StandsAt m (Then p q) P (Left x)) (StandsAt m p P x)
        (stands_by m (Then p q) p P (Left x) x (left_leads m p q x))
        (few_at p b.0 P g.0 few x pt e)
    few_at (Then p q) b P g few (Right x) pt e =
        few_mono m 16 (StandsAt m (Then p q) P (Right x)) (StandsAt m q (StandsAfter m p P) x)
        (λ t h. right_stands m p q P x h.parts h.from t h.before h.leads h.reads)
        (few_at q b.1 (StandsAfter m p P) g.1 (few_after p b.0 P g.0 few) x pt e)
    few_at (Meet at p) b P g few Here pt e =
        few_mono m 16 (StandsAt m (Meet at p) P Here) (StandsAfter m p P)
        (stands_after m (Meet at p) p P Here (meet_path m at p)) g.1
    few_at (Meet at p) b P g few (Inside x) pt e =
        few_mono m 16 (StandsAt m (Meet at p) P (Inside x)) (StandsAt m p P x)
        (stands_by m (Meet at p) p P (Inside x) x (arms_lead m at p x))
        (few_in_arms p b P g.0 few x pt e)
    few_at (Loop at p) b P g few Here pt e =
        few_mono m 16 (StandsAt m (Loop at p) P Here) (StandsAfter m (Loop at p) P)
        (stands_after m (Loop at p) (Loop at p) P Here (head_path m at p)) g.1
    few_at (Loop at p) b P g few (Inside x) pt e =
        few_mono m 16 (StandsAt m (Loop at p) P (Inside x)) (StandsAt m p (StandsAfter m (Loop at p) P) x)
        (λ t h. body_stands m at p P x h.parts h.from t h.before h.leads h.reads)
        (few_at p b (StandsAfter m (Loop at p) P) g.0 g.1 x pt e)
    few_at (Either p q) b P g few x pt e = absurd b
    few_at _ b P g few _ pt e = absurd (no_point pt e)

    few_in_arms : (p : Plan) → AreArms p → (P : S → Type 0) → Holds m p P → AtMost 16 P → (x : Address) (pt : Point)
        → point_at p x ≡ Some pt → AtMost 16 (StandsAt m p P x)
    few_in_arms (Either p q) b P g few (Left x) pt e =
        few_mono m 16 (StandsAt m (Either p q) P (Left x)) (StandsAt m p P x)
        (stands_by m (Either p q) p P (Left x) x (one_leads m p q x))
        (few_in_arms p b.0 P g.0 few x pt e)
    few_in_arms (Either p q) b P g few (Right x) pt e =
        few_mono m 16 (StandsAt m (Either p q) P (Right x)) (StandsAt m q P x)
        (stands_by m (Either p q) q P (Right x) x (other_leads m p q x))
        (few_at q b.1 P g.1 few x pt e)
    few_in_arms (Either p q) b P g few Here pt e = absurd (no_point pt e)
    few_in_arms (Either p q) b P g few (Inside x) pt e = absurd (no_point pt e)
    few_in_arms Nowhere b P g few x pt e = absurd (no_point pt e)
    few_in_arms _ b P g few x pt e = absurd b
