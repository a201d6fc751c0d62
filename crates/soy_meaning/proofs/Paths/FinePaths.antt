-- No text of the path is a fault, and each hole takes its classes; and what follows where the four points hold.
use Rattle.std.proofs.Common.{◌≡◌, ℕ, suc, ◌+◌, ◌≤◌, List, [], ◌∷◌, ◌++◌, Option, Some, None}
use Rattle.std.proofs.Common.{Ok, length, get_or, refl, sym, ap, ◌∙◌, subst, arith}
use Rattle.std.proofs.Common.{length-append}
use Rattle.std.proofs.lemmas.List.{get_or-append-add, get_or_append_left}
use Rattle.std.specs.Prelude.{IsTrue}
use Rattle.soy_base.specs.declared.place.Placing.TheVariants.{Takes}
use Rattle.soy_base.specs.declared.kind.Kind.{Kind}
use Rattle.soy_base.specs.declared.place.ValueClass.{ValueClass}
use Rattle.soy_base.specs.declared.place.Place.{Place}
use Rattle.soy_meaning.proofs.Walks.Holds.{Holds}
use Rattle.soy_meaning.proofs.Walks.HolePlaces.{HolePlaces, TwoLists}
use Rattle.soy_meaning.proofs.Walks.Moves.{followed_is, followed_ok}
use Rattle.soy_base.proofs.Results.{ok_same}
use Rattle.soy_meaning.proofs.Walks.PointsAndHolds.{arms_lead, body_stands, hole_from, left_leads, one_leads}
use Rattle.soy_meaning.proofs.Walks.PointsAndHolds.{other_leads}
use Rattle.soy_meaning.proofs.Walks.PointsAndHolds.{right_stands, stands_by}
use Rattle.soy_meaning.proofs.Runs.Joined.{loop_more, loop_stops}
use Rattle.soy_meaning.specs.Walks.FourPoints.{OnePlacing, Passes, takes_classes}
use Rattle.soy_meaning.specs.Walks.Holes.{hole_count, holes_before}
use Rattle.soy_meaning.specs.Walks.Machine.{Machine}
use Rattle.soy_meaning.specs.Paths.Plan.{Either, Frame, Hole, Loop, Meet, Nothing, Nowhere, Plan, StaticText, Then}
use Rattle.soy_pieces.specs.Site.{Site}
use Rattle.soy_meaning.specs.Walks.Points.{Address, AtHole, AtMeet, AtText, Here, Inside, LeadsTo, Left, Point, Right}
use Rattle.soy_meaning.specs.Walks.Points.{StandsAt, in_arms, in_body, one_way, other_way, point_at, to_first, to_head}
use Rattle.soy_meaning.specs.Walks.Points.{to_hole, to_meet, to_second, to_text}
use Rattle.soy_meaning.specs.Paths.PathParts.{HolePart, IsPath, PathLeads, PathPart, StandsAfter, StaticPart}
use Rattle.soy_meaning.specs.Paths.PathParts.{state_after_parts, after_text, both, first_way, hole, met, no_turn}
use Rattle.soy_meaning.specs.Paths.PathParts.{empty_path}
use Rattle.soy_meaning.specs.Paths.PathParts.{passed_by, second_way, static_text, turn}

module _ {S : Type 0} (m : Machine S) where
  abbrev pub Fine : List PathPart → S → Type 0
  Fine [] s = Unit {0}
  Fine (StaticPart text ∷ l) s = (t : S) × (after_text m text s ≡ Ok t) × Fine l t
  Fine (HolePart at classes ∷ l) s = IsTrue (takes_classes (m.placing s) classes) × Fine l (m.value s)

abbrev class_at : Option Point → Option (List ValueClass)
class_at None = None
class_at (Some (AtText text)) = None
class_at (Some (AtHole classes)) = Some classes
class_at (Some AtMeet) = None

no_class : (classes : List ValueClass) → ◌≡◌ {A = Option (List ValueClass)} None (Some classes) → ⊥
no_class classes e = cc

module _ {S : Type 0} (m : Machine S) where
  -- a fine path has a run
  pub fine_runs : (l : List PathPart) (s : S) → Fine m l s → (t : S) × (state_after_parts m l s ≡ Ok t)
  fine_runs [] s f = (s, refl)
  fine_runs (StaticPart text ∷ l) s f =
      let r : (t : S) × (state_after_parts m l f.0 ≡ Ok t) = fine_runs l f.0 f.2 in
      (r.0, followed_is (after_text m text s) (λ t. state_after_parts m l t) f.0 (Ok r.0) f.1 r.1)
  fine_runs (HolePart at classes ∷ l) s f = fine_runs l (m.value s) f.1

  pub fine_join : (a b : List PathPart) (s t : S) → Fine m a s → state_after_parts m a s ≡ Ok t → Fine m b t
      → Fine m (a ++ b) s
  fine_join [] b s t f h g = subst (λ v. Fine m b v) (sym (ok_same s t h)) g
  fine_join (StaticPart text ∷ a) b s t f h g =
      let p : (v : S) × (after_text m text s ≡ Ok v) × (state_after_parts m a v ≡ Ok t) =
      followed_ok (after_text m text s) (λ v. state_after_parts m a v) t h in
      let same : f.0 ≡ p.0 = ok_same f.0 p.0 (sym f.1 ∙ p.1) in
      (p.0, p.1, fine_join a b p.0 t (subst (λ v. Fine m a v) same f.2) p.2 g)
  fine_join (HolePart at classes ∷ a) b s t f h g = (f.0, fine_join a b (m.value s) t f.1 h g)

  loop_fine : (at : Site) (p : Plan) (P : S → Type 0)
      → ((l : List PathPart) → IsPath p l → (s : S) → P s → Fine m l s) → ((s t : S) → P s → PathLeads m p s t → P t)
      → (l : List PathPart) → IsPath (Loop at p) l → (s : S) → P s → Fine m l s
  loop_fine at p P one keeps l no_turn s h = tt
  loop_fine at p P one keeps l (turn {a = a} {b = b} x y) s h =
      let f : Fine m a s = one a x s h in
      let r : (t : S) × (state_after_parts m a s ≡ Ok t) = fine_runs a s f in
      fine_join a b s r.0 f r.1
      (loop_fine at p P one keeps b y r.0 (keeps s r.0 h (record { parts = a; path = x; reads = r.1 })))

  then_fine : (p q : Plan) (P : S → Type 0) → ((l : List PathPart) → IsPath p l → (s : S) → P s → Fine m l s)
      → ((l : List PathPart) → IsPath q l → (s : S) → StandsAfter m p P s → Fine m l s) → (l : List PathPart)
      → IsPath (Then p q) l → (s : S) → P s → Fine m l s
  then_fine p q P one two l (both {a = a} {b = b} x y) s h =
      let f : Fine m a s = one a x s h in
      let r : (t : S) × (state_after_parts m a s ≡ Ok t) = fine_runs a s f in
      fine_join a b s r.0 f r.1
      (two b y r.0 (record { from = s; before = h; path_leads = record { parts = a; path = x; reads = r.1 } }))

  or_fine : (p q : Plan) (P : S → Type 0) → ((l : List PathPart) → IsPath p l → (s : S) → P s → Fine m l s)
      → ((l : List PathPart) → IsPath q l → (s : S) → P s → Fine m l s) → (l : List PathPart) → IsPath (Either p q) l
      → (s : S) → P s → Fine m l s
  or_fine p q P one two l (first_way x) s h = one l x s h
  or_fine p q P one two l (second_way x) s h = two l x s h

  meet_fine : (at : Site) (p : Plan) (P : S → Type 0)
      → ((l : List PathPart) → IsPath p l → (s : S) → P s → Fine m l s) → (l : List PathPart) → IsPath (Meet at p) l
      → (s : S) → P s → Fine m l s
  meet_fine at p P one l (met x) s h = one l x s h

  static_fine : (at : Site) (text : List ℕ) (P : S → Type 0) → ((s : S) → P s → Passes m text s) → (l : List PathPart)
      → IsPath (StaticText at text) l → (s : S) → P s → Fine m l s
  static_fine at text P g l static_text s h = ((g s h).0, (g s h).1, tt)

  hole_fine : (at : Site) (classes : List ValueClass) (P : S → Type 0) → OnePlacing m classes P → (l : List PathPart)
      → IsPath (Hole at classes) l → (s : S) → P s → Fine m l s
  hole_fine at classes P g l hole s h = (g.takes s h, tt)

  nothing_fine : (P : S → Type 0) (l : List PathPart) → IsPath Nothing l → (s : S) → P s → Fine m l s
  nothing_fine P l empty_path s h = tt

  block_fine : (kind : Kind) (at : Site) (p : Plan) (P : S → Type 0) (l : List PathPart) → IsPath (Frame kind at p) l
      → (s : S) → P s → Fine m l s
  block_fine kind at p P l passed_by s h = tt

  -- where the four points hold every path is fine
  pub path_fine : (p : Plan) (P : S → Type 0) → Holds m p P → (l : List PathPart) → IsPath p l → (s : S) → P s
      → Fine m l s
  path_fine Nothing P g l x s h = nothing_fine P l x s h
  path_fine Nowhere P g l x s h = elim x [ ]
  path_fine (StaticText at text) P g l x s h = static_fine at text P g l x s h
  path_fine (Hole at classes) P g l x s h = hole_fine at classes P g l x s h
  path_fine (Then p q) P g l x s h = then_fine p q P (λ l x s h. path_fine p P g.0 l x s h)
      (λ l x s h. path_fine q (StandsAfter m p P) g.1 l x s h) l x s h
  path_fine (Either p q) P g l x s h = or_fine p q P (λ l x s h. path_fine p P g.0 l x s h)
      (λ l x s h. path_fine q P g.1 l x s h) l x s h
  path_fine (Meet at p) P g l x s h = meet_fine at p P (λ l x s h. path_fine p P g.0 l x s h) l x s h
  path_fine (Loop at p) P g l x s h =
      loop_fine at p (StandsAfter m (Loop at p) P) (λ l x s h. path_fine p (StandsAfter m (Loop at p) P) g.0 l x s h)
      (λ s t h r. record {
        from = h.from;
        before = h.before;
        path_leads = loop_more m at p h.from s t h.path_leads r;
      }) l x s (record { from = s; before = h; path_leads = loop_stops m at p s })
  path_fine (Frame kind at p) P g l x s h = block_fine kind at p P l x s h

  then_leads : (p q : Plan) (P : S → Type 0) → ((l : List PathPart) → IsPath p l → (s : S) → P s → Fine m l s)
      → ((l : List PathPart) (x : Address) → LeadsTo p l x → (s : S) → P s → Fine m l s)
      → ((l : List PathPart) (x : Address) → LeadsTo q l x → (s : S) → StandsAfter m p P s → Fine m l s)
      → (l : List PathPart) (x : Address) → LeadsTo (Then p q) l x → (s : S) → P s → Fine m l s
  then_leads p q P whole one two l x (to_first k) s h = one l _ k s h
  then_leads p q P whole one two l x (to_second {a = a} {b = b} y k) s h =
      let f : Fine m a s = whole a y s h in
      let r : (t : S) × (state_after_parts m a s ≡ Ok t) = fine_runs a s f in
      fine_join a b s r.0 f r.1
      (two b _ k r.0 (record { from = s; before = h; path_leads = record { parts = a; path = y; reads = r.1 } }))

  or_leads : (p q : Plan) (P : S → Type 0) → ((l : List PathPart) (x : Address) → LeadsTo p l x → (s : S) → P s
      → Fine m l s) → ((l : List PathPart) (x : Address) → LeadsTo q l x → (s : S) → P s → Fine m l s)
      → (l : List PathPart) (x : Address) → LeadsTo (Either p q) l x → (s : S) → P s → Fine m l s
  or_leads p q P one two l x (one_way k) s h = one l _ k s h
  or_leads p q P one two l x (other_way k) s h = two l _ k s h

  meet_leads : (at : Site) (p : Plan) (P : S → Type 0)
      → ((l : List PathPart) → IsPath p l → (s : S) → P s → Fine m l s)
      → ((l : List PathPart) (x : Address) → LeadsTo p l x → (s : S) → P s → Fine m l s)
      → (l : List PathPart) (x : Address) → LeadsTo (Meet at p) l x → (s : S) → P s → Fine m l s
  meet_leads at p P whole one l x (in_arms k) s h = one l _ k s h
  meet_leads at p P whole one l x (to_meet y) s h = whole l y s h

  loop_leads : (at : Site) (p : Plan) (P : S → Type 0)
      → ((l : List PathPart) → IsPath (Loop at p) l → (s : S) → P s → Fine m l s)
      → ((l : List PathPart) (x : Address) → LeadsTo p l x → (s : S) → StandsAfter m (Loop at p) P s → Fine m l s)
      → (l : List PathPart) (x : Address) → LeadsTo (Loop at p) l x → (s : S) → P s → Fine m l s
  loop_leads at p P whole one l x (to_head y) s h = whole l y s h
  loop_leads at p P whole one l x (in_body {a = a} {b = b} y k) s h =
      let f : Fine m a s = whole a y s h in
      let r : (t : S) × (state_after_parts m a s ≡ Ok t) = fine_runs a s f in
      fine_join a b s r.0 f r.1
      (one b _ k r.0 (record { from = s; before = h; path_leads = record { parts = a; path = y; reads = r.1 } }))

  text_leads : (at : Site) (text : List ℕ) (l : List PathPart) (x : Address) → LeadsTo (StaticText at text) l x
      → (s : S) → Fine m l s
  text_leads at text l x to_text s = tt

  gap_leads : (at : Site) (classes : List ValueClass) (l : List PathPart) (x : Address)
      → LeadsTo (Hole at classes) l x → (s : S) → Fine m l s
  gap_leads at classes l x to_hole s = tt

  -- so is each that leads to a point
  pub leads_fine : (p : Plan) (P : S → Type 0) → Holds m p P → (l : List PathPart) (x : Address) → LeadsTo p l x
      → (s : S) → P s → Fine m l s
  leads_fine Nothing P g l x k s h = elim k [ ]
  leads_fine Nowhere P g l x k s h = elim k [ ]
  leads_fine (StaticText at text) P g l x k s h = text_leads at text l x k s
  leads_fine (Hole at classes) P g l x k s h = gap_leads at classes l x k s
  leads_fine (Then p q) P g l x k s h = then_leads p q P (λ l x s h. path_fine p P g.0 l x s h)
      (λ l x k s h. leads_fine p P g.0 l x k s h) (λ l x k s h. leads_fine q (StandsAfter m p P) g.1 l x k s h) l x k
      s h
  leads_fine (Either p q) P g l x k s h = or_leads p q P (λ l x k s h. leads_fine p P g.0 l x k s h)
      (λ l x k s h. leads_fine q P g.1 l x k s h) l x k s h
  leads_fine (Meet at p) P g l x k s h = meet_leads at p P (λ l x s h. path_fine p P g.0 l x s h)
      (λ l x k s h. leads_fine p P g.0 l x k s h) l x k s h
  leads_fine (Loop at p) P g l x k s h = loop_leads at p P (λ l x s h. path_fine (Loop at p) P g l x s h)
      (λ l x k s h. leads_fine p (StandsAfter m (Loop at p) P) g.0 l x k s h) l x k s h
  leads_fine (Frame kind at p) P g l x k s h = elim k [ ]

  pub places_length : (p : Plan) (P : S → Type 0) (l : List Place) → HolePlaces m p P l → length l ≡ hole_count p
  places_length Nothing P l h = ap length h
  places_length Nowhere P l h = ap length h
  places_length (StaticText at text) P l h = ap length h
  places_length (Hole at classes) P l h = ap length h.1
  places_length (Then p q) P l h =
      omega (
        arith,
        ap length h.joined,
        length-append h.one h.other,
        places_length p P h.one h.of_one,
        places_length q
            (StandsAfter m p P) h.other h.of_other,
      )
  places_length (Either p q) P l h =
      omega (
        arith,
        ap length h.joined,
        length-append h.one h.other,
        places_length p P h.one h.of_one,
        places_length q
            P h.other h.of_other,
      )
  places_length (Meet at p) P l h = places_length p P l h
  places_length (Loop at p) P l h = places_length p (StandsAfter m (Loop at p) P) l h
  places_length (Frame kind at p) P l h = places_length p (λ s. s ≡ m.start kind) l h

  pub hole_within : (p : Plan) (x : Address) (classes : List ValueClass) → point_at p x ≡ Some (AtHole classes)
      → suc (holes_before p x) ≤ hole_count p
  hole_within (Hole at c) Here classes e = omega arith
  hole_within (Then p q) (Left x) classes e = omega (arith, hole_within p x classes e)
  hole_within (Then p q) (Right x) classes e = omega (arith, hole_within q x classes e)
  hole_within (Either p q) (Left x) classes e = omega (arith, hole_within p x classes e)
  hole_within (Either p q) (Right x) classes e = omega (arith, hole_within q x classes e)
  hole_within (Meet at p) (Inside x) classes e = hole_within p x classes e
  hole_within (Loop at p) (Inside x) classes e = hole_within p x classes e
  hole_within (StaticText at text) Here classes e = absurd (no_class classes (ap class_at e))
  hole_within _ _ classes e = absurd (no_class classes (ap class_at e))

  pub place_in_one : (X Y : List Place → Type 0) (l : List Place) (b : TwoLists X Y l) (i : ℕ) (d : Place)
      → suc i ≤ length b.one → get_or l i d ≡ get_or b.one i d
  place_in_one X Y l b i d h = ap (λ z. get_or z i d) b.joined ∙ get_or_append_left b.one b.other d i h

  pub place_in_other : (X Y : List Place → Type 0) (l : List Place) (b : TwoLists X Y l) (n i : ℕ) (d : Place)
      → length b.one ≡ n → get_or l (n + i) d ≡ get_or b.other i d
  place_in_other X Y l b n i d h = ap (λ z. get_or z (n + i) d) b.joined
      ∙ (ap (λ k. get_or (b.one ++ b.other) (k + i) d) (sym h) ∙ get_or-append-add b.one b.other i d)

  -- the place of a hole is that of each state which stands there
  pub hole_has_place : (p : Plan) (P : S → Type 0) (l : List Place) → HolePlaces m p P l
      → (x : Address) (classes : List ValueClass) → point_at p x ≡ Some (AtHole classes) → (t : S)
      → StandsAt m p P x t → (d : Place) → Takes (get_or l (holes_before p x) d) ≡ m.placing t
  hole_has_place (Hole at c) P l h Here classes e t k d = ap (λ z. Takes (get_or z 0 d)) h.1
      ∙ sym (h.2 t (hole_from m at c P k.parts k.from t k.leads k.reads k.before))
  hole_has_place (Then p q) P l h (Left x) classes e t k d =
      ap Takes (place_in_one (HolePlaces m p P) (HolePlaces m q (StandsAfter m p P)) l h (holes_before p x) d
      (omega (arith, hole_within p x classes e, places_length p P h.one h.of_one)))
      ∙ hole_has_place p P h.one h.of_one x classes e t
      (stands_by m (Then p q) p P (Left x) x (left_leads m p q x) t k) d
  hole_has_place (Then p q) P l h (Right x) classes e t k d =
      ap Takes (place_in_other (HolePlaces m p P) (HolePlaces m q (StandsAfter m p P)) l h (hole_count p)
      (holes_before q x) d (places_length p P h.one h.of_one))
      ∙ hole_has_place q (StandsAfter m p P) h.other h.of_other x classes e t
      (right_stands m p q P x k.parts k.from t k.before k.leads k.reads) d
  hole_has_place (Either p q) P l h (Left x) classes e t k d =
      ap Takes (place_in_one (HolePlaces m p P) (HolePlaces m q P) l h (holes_before p x) d
      (omega (arith, hole_within p x classes e, places_length p P h.one h.of_one)))
      ∙ hole_has_place p P h.one h.of_one x classes e t
      (stands_by m (Either p q) p P (Left x) x (one_leads m p q x) t k) d
  hole_has_place (Either p q) P l h (Right x) classes e t k d =
      ap Takes (place_in_other (HolePlaces m p P) (HolePlaces m q P) l h (hole_count p) (holes_before q x) d
      (places_length p P h.one h.of_one))
      ∙ hole_has_place q P h.other h.of_other x classes e t
      (stands_by m (Either p q) q P (Right x) x (other_leads m p q x) t k) d
  hole_has_place (Meet at p) P l h (Inside x) classes e t k d =
      hole_has_place p P l h x classes e t
      (stands_by m (Meet at p) p P (Inside x) x (arms_lead m at p x) t k) d
  hole_has_place (Loop at p) P l h (Inside x) classes e t k d =
      hole_has_place p (StandsAfter m (Loop at p) P) l h x classes e t
      (body_stands m at p P x k.parts k.from t k.before k.leads k.reads) d
  hole_has_place (StaticText at text) P l h Here classes e t k d = absurd (no_class classes (ap class_at e))
  hole_has_place _ P l h x classes e t k d = absurd (no_class classes (ap class_at e))
