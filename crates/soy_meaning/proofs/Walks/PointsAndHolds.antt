-- The four points over paths are those place by place.
use Rattle.std.proofs.Common.{◌≡◌, ℕ, List, [], ◌++◌, Option, Some, None, Ok, refl}
use Rattle.std.proofs.Common.{subst}
use Rattle.soy_base.specs.declared.place.ValueClass.{ValueClass}
use Rattle.soy_meaning.proofs.Walks.Holds.{Holds}
use Rattle.soy_base.proofs.Results.{ok_same}
use Rattle.soy_meaning.proofs.Runs.Joined.{run_cut, run_join}
use Rattle.soy_meaning.proofs.Walks.Sound.{few_mono}
use Rattle.soy_meaning.specs.Walks.FourPoints.{AcceptedPaths, OnePlacing, PointHolds, StartsAs}
use Rattle.soy_meaning.specs.Walks.Machine.{Machine}
use Rattle.soy_meaning.specs.Paths.Plan.{Either, Frame, Hole, Loop, Meet, Nothing, Nowhere, Plan, StaticText, Then}
use Rattle.soy_pieces.specs.Site.{Site}
use Rattle.soy_meaning.specs.Walks.Points.{Address, AtHole, AtMeet, AtText, Here, Inside, LeadsTo, Left, Point, Right}
use Rattle.soy_meaning.specs.Walks.Points.{StandsAt, in_arms, in_body, one_way, other_way, point_at, to_first, to_head}
use Rattle.soy_meaning.specs.Walks.Points.{to_hole, to_meet, to_second, to_text}
use Rattle.soy_meaning.specs.Paths.PathParts.{IsPath, PathPart, StandsAfter, state_after_parts}

module _ {S : Type 0} (m : Machine S) where
  abbrev pub Points : Plan → (S → Type 0) → Type 0
  Points p P = (x : Address) → PointHolds m (point_at p x) (StandsAt m p P x)

  one_mono : (classes : List ValueClass) (X Y : S → Type 0) → ((s : S) → X s → Y s) → OnePlacing m classes Y
      → OnePlacing m classes X
  one_mono classes X Y inside g = record {
    one = λ s t h k. g.one s t (inside s h) (inside t k);
    takes = λ s h. g.takes s (inside s h);
  }

  fits_mono : (o : Option Point) (X Y : S → Type 0) → ((s : S) → X s → Y s) → PointHolds m o Y → PointHolds m o X
  fits_mono None X Y inside g = tt
  fits_mono (Some (AtText text)) X Y inside g = λ s h. g s (inside s h)
  fits_mono (Some (AtHole classes)) X Y inside g = one_mono classes X Y inside g
  fits_mono (Some AtMeet) X Y inside g = few_mono m 16 X Y inside g

  -- what stands at a point of a part stands there in the whole, and the other way
  pub stands_by : (p q : Plan) (P : S → Type 0) (x y : Address) → ((a : List PathPart) → LeadsTo p a x → LeadsTo q a y)
      → (t : S) → StandsAt m p P x t → StandsAt m q P y t
  stands_by p q P x y leads t h =
      record { from = h.from; before = h.before; parts = h.parts; leads = leads h.parts h.leads; reads = h.reads }

  -- where the paths of a plan lead to a point, its states stand there
  pub stands_after : (p q : Plan) (P : S → Type 0) (x : Address) → ((a : List PathPart) → LeadsTo p a x → IsPath q a)
      → (t : S) → StandsAt m p P x t → StandsAfter m q P t
  stands_after p q P x path t h = record {
    from = h.from;
    before = h.before;
    path_leads = record { parts = h.parts; path = path h.parts h.leads; reads = h.reads };
  }

  after_stands : (p q : Plan) (P : S → Type 0) (x : Address) → ((a : List PathPart) → IsPath q a → LeadsTo p a x)
      → (t : S) → StandsAfter m q P t → StandsAt m p P x t
  after_stands p q P x leads t h = record {
    from = h.from;
    before = h.before;
    parts = h.path_leads.parts;
    leads = leads h.path_leads.parts h.path_leads.path;
    reads = h.path_leads.reads;
  }

  -- behind the paths of another plan
  stands_behind : (p q : Plan) (P : S → Type 0) (x : Address) (a b : List PathPart) (s t : S) → P s → IsPath p a
      → LeadsTo q b x → state_after_parts m (a ++ b) s ≡ Ok t → StandsAt m q (StandsAfter m p P) x t
  stands_behind p q P x a b s t h y l k =
      let r : (u : S) × (state_after_parts m a s ≡ Ok u) × (state_after_parts m b u ≡ Ok t) = run_cut m a b s t k in
      record {
        from = r.0;
        before = record { from = s; before = h; path_leads = record { parts = a; path = y; reads = r.1 } };
        parts = b;
        leads = l;
        reads = r.2;
      }

  behind_stands : (p q r : Plan) (P : S → Type 0) (x y : Address)
      → ((a b : List PathPart) → IsPath p a → LeadsTo q b x → LeadsTo r (a ++ b) y) → (t : S)
      → StandsAt m q (StandsAfter m p P) x t → StandsAt m r P y t
  behind_stands p q r P x y joins t h = record {
    from = h.before.from;
    before = h.before.before;
    parts = h.before.path_leads.parts ++ h.parts;
    leads = joins h.before.path_leads.parts h.parts h.before.path_leads.path h.leads;
    reads = run_join m h.before.path_leads.parts h.parts h.before.from h.from t h.before.path_leads.reads h.reads;
  }

  pub text_from : (at : Site) (text : List ℕ) (P : S → Type 0) (a : List PathPart) (s t : S)
      → LeadsTo (StaticText at text) a Here → state_after_parts m a s ≡ Ok t → P s → P t
  text_from at text P a s t to_text h k = subst P (ok_same s t h) k

  pub hole_from : (at : Site) (classes : List ValueClass) (P : S → Type 0) (a : List PathPart) (s t : S)
      → LeadsTo (Hole at classes) a Here → state_after_parts m a s ≡ Ok t → P s → P t
  hole_from at classes P a s t to_hole h k = subst P (ok_same s t h) k

  pub left_leads : (p q : Plan) (x : Address) (a : List PathPart) → LeadsTo (Then p q) a (Left x) → LeadsTo p a x
  left_leads p q x a (to_first l) = l

  pub right_stands : (p q : Plan) (P : S → Type 0) (x : Address) (a : List PathPart) (s t : S) → P s
      → LeadsTo (Then p q) a (Right x) → state_after_parts m a s ≡ Ok t → StandsAt m q (StandsAfter m p P) x t
  right_stands p q P x a s t h (to_second {a = b} {b = c} y l) k = stands_behind p q P x b c s t h y l k

  pub one_leads : (p q : Plan) (x : Address) (a : List PathPart) → LeadsTo (Either p q) a (Left x) → LeadsTo p a x
  one_leads p q x a (one_way l) = l

  pub other_leads : (p q : Plan) (x : Address) (a : List PathPart) → LeadsTo (Either p q) a (Right x) → LeadsTo q a x
  other_leads p q x a (other_way l) = l

  pub arms_lead : (at : Site) (p : Plan) (x : Address) (a : List PathPart) → LeadsTo (Meet at p) a (Inside x)
      → LeadsTo p a x
  arms_lead at p x a (in_arms l) = l

  pub meet_path : (at : Site) (p : Plan) (a : List PathPart) → LeadsTo (Meet at p) a Here → IsPath p a
  meet_path at p a (to_meet y) = y

  pub head_path : (at : Site) (p : Plan) (a : List PathPart) → LeadsTo (Loop at p) a Here → IsPath (Loop at p) a
  head_path at p a (to_head y) = y

  pub body_stands : (at : Site) (p : Plan) (P : S → Type 0) (x : Address) (a : List PathPart) (s t : S) → P s
      → LeadsTo (Loop at p) a (Inside x) → state_after_parts m a s ≡ Ok t
      → StandsAt m p (StandsAfter m (Loop at p) P) x t
  body_stands at p P x a s t h (in_body {a = b} {b = c} y l) k = stands_behind (Loop at p) p P x b c s t h y l k

  pub points_of_good : (p : Plan) (P : S → Type 0) → Holds m p P → Points p P
  points_of_good (StaticText at text) P g Here =
      λ t h. g t (text_from at text P h.parts h.from t h.leads h.reads h.before)
  points_of_good (Hole at classes) P g Here = one_mono classes (StandsAt m (Hole at classes) P Here) P
      (λ t h. hole_from at classes P h.parts h.from t h.leads h.reads h.before) g
  points_of_good (Then p q) P g (Left x) =
      fits_mono (point_at p x) (StandsAt m (Then p q) P (Left x)) (StandsAt m p P x)
      (stands_by (Then p q) p P (Left x) x (left_leads p q x)) (points_of_good p P g.0 x)
  points_of_good (Then p q) P g (Right x) =
      fits_mono (point_at q x) (StandsAt m (Then p q) P (Right x)) (StandsAt m q (StandsAfter m p P) x)
      (λ t h. right_stands p q P x h.parts h.from t h.before h.leads h.reads)
      (points_of_good q (StandsAfter m p P) g.1 x)
  points_of_good (Either p q) P g (Left x) =
      fits_mono (point_at p x) (StandsAt m (Either p q) P (Left x)) (StandsAt m p P x)
      (stands_by (Either p q) p P (Left x) x (one_leads p q x)) (points_of_good p P g.0 x)
  points_of_good (Either p q) P g (Right x) =
      fits_mono (point_at q x) (StandsAt m (Either p q) P (Right x)) (StandsAt m q P x)
      (stands_by (Either p q) q P (Right x) x (other_leads p q x)) (points_of_good q P g.1 x)
  points_of_good (Meet at p) P g Here = few_mono m 16 (StandsAt m (Meet at p) P Here) (StandsAfter m p P)
      (stands_after (Meet at p) p P Here (meet_path at p)) g.1
  points_of_good (Meet at p) P g (Inside x) =
      fits_mono (point_at p x) (StandsAt m (Meet at p) P (Inside x)) (StandsAt m p P x)
      (stands_by (Meet at p) p P (Inside x) x (arms_lead at p x)) (points_of_good p P g.0 x)
  points_of_good (Loop at p) P g Here = few_mono m 16 (StandsAt m (Loop at p) P Here) (StandsAfter m (Loop at p) P)
      (stands_after (Loop at p) (Loop at p) P Here (head_path at p)) g.1
  points_of_good (Loop at p) P g (Inside x) =
      fits_mono (point_at p x) (StandsAt m (Loop at p) P (Inside x)) (StandsAt m p (StandsAfter m (Loop at p) P) x)
      (λ t h. body_stands at p P x h.parts h.from t h.before h.leads h.reads)
      (points_of_good p (StandsAfter m (Loop at p) P) g.0 x)
  points_of_good _ P g _ = tt

  pub frames_of_good : (p : Plan) (P : S → Type 0) → Holds m p P → AcceptedPaths m p
  frames_of_good Nothing P g = tt
  frames_of_good Nowhere P g = tt
  frames_of_good (StaticText at text) P g = tt
  frames_of_good (Hole at classes) P g = tt
  frames_of_good (Then p q) P g = (frames_of_good p P g.0, frames_of_good q (StandsAfter m p P) g.1)
  frames_of_good (Either p q) P g = (frames_of_good p P g.0, frames_of_good q P g.1)
  frames_of_good (Meet at p) P g = frames_of_good p P g.0
  frames_of_good (Loop at p) P g = frames_of_good p (StandsAfter m (Loop at p) P) g.0
  frames_of_good (Frame kind at p) P g =
      (record { points = points_of_good p (StartsAs m kind) g.0; ends = g.1 }, frames_of_good p (StartsAs m kind) g.0)

  pub good_of_points : (p : Plan) (P : S → Type 0) → Points p P → AcceptedPaths m p → Holds m p P
  good_of_points Nothing P g f = tt
  good_of_points Nowhere P g f = tt
  good_of_points (StaticText at text) P g f =
      λ s h. g Here s (record { from = s; before = h; parts = []; leads = to_text; reads = refl })
  good_of_points (Hole at classes) P g f = one_mono classes P (StandsAt m (Hole at classes) P Here)
      (λ s h. record { from = s; before = h; parts = []; leads = to_hole; reads = refl }) (g Here)
  good_of_points (Then p q) P g f = (
    good_of_points p P (λ x. fits_mono (point_at p x) (StandsAt m p P x) (StandsAt m (Then p q) P (Left x))
        (stands_by p (Then p q) P x (Left x) (λ a l. to_first l)) (g (Left x))) f.0,
    good_of_points q (StandsAfter m p P) (λ x. fits_mono (point_at q x) (StandsAt m q (StandsAfter m p P) x)
        (StandsAt m (Then p q) P (Right x)) (behind_stands p q (Then p q) P x (Right x) (λ a b y l. to_second y l)) (g
        (Right x))) f.1,
  )
  good_of_points (Either p q) P g f = (
    good_of_points p P (λ x. fits_mono (point_at p x) (StandsAt m p P x) (StandsAt m (Either p q) P (Left x))
        (stands_by p (Either p q) P x (Left x) (λ a l. one_way l)) (g (Left x))) f.0,
    good_of_points q P (λ x. fits_mono (point_at q x) (StandsAt m q P x) (StandsAt m (Either p q) P (Right x))
        (stands_by q (Either p q) P x (Right x) (λ a l. other_way l)) (g (Right x))) f.1,
  )
  good_of_points (Meet at p) P g f = (
    good_of_points p P (λ x. fits_mono (point_at p x) (StandsAt m p P x) (StandsAt m (Meet at p) P (Inside x))
        (stands_by p (Meet at p) P x (Inside x) (λ a l. in_arms l)) (g (Inside x))) f,
    few_mono m 16 (StandsAfter m p P) (StandsAt m (Meet at p) P Here)
        (after_stands (Meet at p) p P Here (λ a y. to_meet y)) (g Here),
  )
  good_of_points (Loop at p) P g f = (
    good_of_points p (StandsAfter m (Loop at p) P)
        (λ x. fits_mono (point_at p x) (StandsAt m p (StandsAfter m (Loop at p) P) x)
        (StandsAt m (Loop at p) P (Inside x)) (behind_stands (Loop at p) p (Loop at p) P x (Inside x) (λ a b y l.
        in_body y l)) (g (Inside x))) f,
    few_mono m 16 (StandsAfter m (Loop at p) P) (StandsAt m (Loop at p) P Here)
        (after_stands (Loop at p) (Loop at p) P Here (λ a y. to_head y)) (g Here),
  )
  good_of_points (Frame kind at p) P g f = (good_of_points p (StartsAs m kind) f.0.points f.1, f.0.ends)
