-- Runs along paths, put together and taken apart.
use Rattle.std.proofs.Common.{◌≡◌, ℕ, List, [], ◌∷◌, ◌++◌, ◌⊎◌, inl, inr, Ok, refl, sym, ◌∙◌, subst}
use Rattle.soy_base.specs.declared.kind.Kind.{Kind}
use Rattle.soy_base.specs.declared.place.ValueClass.{ValueClass}
use Rattle.soy_meaning.proofs.Walks.Moves.{followed_is, followed_ok}
use Rattle.soy_base.proofs.Results.{ok_same}
use Rattle.soy_meaning.specs.Walks.Machine.{Machine}
use Rattle.soy_meaning.specs.Paths.Plan.{Either, Frame, Hole, Loop, Meet, Nothing, Nowhere, Plan, StaticText, Then}
use Rattle.soy_pieces.specs.Site.{Site}
use Rattle.soy_meaning.specs.Paths.PathParts.{HolePart, IsPath, PathLeads, PathPart, StaticPart, state_after_parts}
use Rattle.soy_meaning.specs.Paths.PathParts.{after_text, both, first_way, hole, met, no_turn, empty_path, passed_by}
use Rattle.soy_meaning.specs.Paths.PathParts.{second_way, static_text, turn}

module _ {S : Type 0} (m : Machine S) where
  pub run_join : (a b : List PathPart) (s t u : S) → state_after_parts m a s ≡ Ok t → state_after_parts m b t ≡ Ok u
      → state_after_parts m (a ++ b) s ≡ Ok u
  run_join [] b s t u h k = subst (λ v. state_after_parts m b v ≡ Ok u) (sym (ok_same s t h)) k
  run_join (StaticPart text ∷ a) b s t u h k =
      let p : (v : S) × (after_text m text s ≡ Ok v) × (state_after_parts m a v ≡ Ok t) =
      followed_ok (after_text m text s) (λ v. state_after_parts m a v) t h in
      followed_is (after_text m text s) (λ v. state_after_parts m (a ++ b) v) p.0 (Ok u) p.1
      (run_join a b p.0 t u p.2 k)
  run_join (HolePart at classes ∷ a) b s t u h k = run_join a b (m.value s) t u h k

  pub run_cut : (a b : List PathPart) (s u : S) → state_after_parts m (a ++ b) s ≡ Ok u → (t : S)
      × (state_after_parts m a s ≡ Ok t) × (state_after_parts m b t ≡ Ok u)
  run_cut [] b s u h = (s, refl, h)
  run_cut (StaticPart text ∷ a) b s u h =
      let p : (v : S) × (after_text m text s ≡ Ok v) × (state_after_parts m (a ++ b) v ≡ Ok u) =
      followed_ok (after_text m text s) (λ v. state_after_parts m (a ++ b) v) u h in
      let r : (t : S) × (state_after_parts m a p.0 ≡ Ok t) × (state_after_parts m b t ≡ Ok u) = run_cut a b p.0 u p.2 in
      (r.0, followed_is (after_text m text s) (λ v. state_after_parts m a v) p.0 (Ok r.0) p.1 r.1, r.2)
  run_cut (HolePart at classes ∷ a) b s u h = run_cut a b (m.value s) u h

  at_static : (at : Site) (text : List ℕ) (l : List PathPart) (s t : S) → IsPath (StaticText at text) l
      → state_after_parts m l s ≡ Ok t → after_text m text s ≡ Ok t
  at_static at text l s t static_text h =
      let p : (v : S) × (after_text m text s ≡ Ok v) × (Ok v ≡ Ok t) = followed_ok (after_text m text s) (λ v. Ok v) t
      h in p.1 ∙ p.2

  pub static_reached : (at : Site) (text : List ℕ) (s t : S) → PathLeads m (StaticText at text) s t
      → after_text m text s ≡ Ok t
  static_reached at text s t r = at_static at text r.parts s t r.path r.reads

  pub static_reaches : (at : Site) (text : List ℕ) (s t : S) → after_text m text s ≡ Ok t
      → PathLeads m (StaticText at text) s t
  static_reaches at text s t h = record {
    parts = StaticPart text ∷ [];
    path = static_text;
    reads = followed_is (after_text m text s) (λ v. Ok v) t (Ok t) h refl;
  }

  at_hole : (at : Site) (classes : List ValueClass) (l : List PathPart) (s t : S) → IsPath (Hole at classes) l
      → state_after_parts m l s ≡ Ok t → m.value s ≡ t
  at_hole at classes l s t hole h = ok_same (m.value s) t h

  pub hole_reached : (at : Site) (classes : List ValueClass) (s t : S) → PathLeads m (Hole at classes) s t
      → m.value s ≡ t
  hole_reached at classes s t r = at_hole at classes r.parts s t r.path r.reads

  pub hole_reaches : (at : Site) (classes : List ValueClass) (s : S) → PathLeads m (Hole at classes) s (m.value s)
  hole_reaches at classes s = record { parts = HolePart at classes ∷ []; path = hole; reads = refl }

  at_nothing : (l : List PathPart) (s t : S) → IsPath Nothing l → state_after_parts m l s ≡ Ok t → s ≡ t
  at_nothing l s t empty_path h = ok_same s t h

  pub nothing_reached : (s t : S) → PathLeads m Nothing s t → s ≡ t
  nothing_reached s t r = at_nothing r.parts s t r.path r.reads

  at_nowhere : (l : List PathPart) → IsPath Nowhere l → ⊥
  at_nowhere l h = elim h [ ]

  pub nowhere_reached : (s t : S) → PathLeads m Nowhere s t → ⊥
  nowhere_reached s t r = at_nowhere r.parts r.path

  at_block : (kind : Kind) (at : Site) (p : Plan) (l : List PathPart) (s t : S) → IsPath (Frame kind at p) l
      → state_after_parts m l s ≡ Ok t → s ≡ t
  at_block kind at p l s t passed_by h = ok_same s t h

  pub block_reached : (kind : Kind) (at : Site) (p : Plan) (s t : S) → PathLeads m (Frame kind at p) s t → s ≡ t
  block_reached kind at p s t r = at_block kind at p r.parts s t r.path r.reads

  pub block_reaches : (kind : Kind) (at : Site) (p : Plan) (s : S) → PathLeads m (Frame kind at p) s s
  block_reaches kind at p s = record { parts = []; path = passed_by; reads = refl }

  at_then : (p q : Plan) (l : List PathPart) (s u : S) → IsPath (Then p q) l → state_after_parts m l s ≡ Ok u
      → (t : S) × PathLeads m p s t × PathLeads m q t u
  at_then p q l s u (both {a = a} {b = b} x y) h =
      let r : (t : S) × (state_after_parts m a s ≡ Ok t) × (state_after_parts m b t ≡ Ok u) = run_cut a b s u h in
      (r.0, record { parts = a; path = x; reads = r.1 }, record { parts = b; path = y; reads = r.2 })

  pub then_reached : (p q : Plan) (s u : S) → PathLeads m (Then p q) s u → (t : S) × PathLeads m p s t
      × PathLeads m q t u
  then_reached p q s u r = at_then p q r.parts s u r.path r.reads

  pub then_reaches : (p q : Plan) (s t u : S) → PathLeads m p s t → PathLeads m q t u → PathLeads m (Then p q) s u
  then_reaches p q s t u a b = record {
    parts = a.parts ++ b.parts;
    path = both a.path b.path;
    reads = run_join a.parts b.parts s t u a.reads b.reads;
  }

  at_or : (p q : Plan) (l : List PathPart) (s t : S) → IsPath (Either p q) l → state_after_parts m l s ≡ Ok t
      → PathLeads m p s t ⊎ PathLeads m q s t
  at_or p q l s t (first_way x) h = inl (record { parts = l; path = x; reads = h })
  at_or p q l s t (second_way x) h = inr (record { parts = l; path = x; reads = h })

  pub or_reached : (p q : Plan) (s t : S) → PathLeads m (Either p q) s t → PathLeads m p s t ⊎ PathLeads m q s t
  or_reached p q s t r = at_or p q r.parts s t r.path r.reads

  pub first_reaches : (p q : Plan) (s t : S) → PathLeads m p s t → PathLeads m (Either p q) s t
  first_reaches p q s t r = record { parts = r.parts; path = first_way r.path; reads = r.reads }

  pub second_reaches : (p q : Plan) (s t : S) → PathLeads m q s t → PathLeads m (Either p q) s t
  second_reaches p q s t r = record { parts = r.parts; path = second_way r.path; reads = r.reads }

  at_meet : (at : Site) (p : Plan) (l : List PathPart) (s t : S) → IsPath (Meet at p) l
      → state_after_parts m l s ≡ Ok t → PathLeads m p s t
  at_meet at p l s t (met x) h = record { parts = l; path = x; reads = h }

  pub meet_reached : (at : Site) (p : Plan) (s t : S) → PathLeads m (Meet at p) s t → PathLeads m p s t
  meet_reached at p s t r = at_meet at p r.parts s t r.path r.reads

  pub meet_reaches : (at : Site) (p : Plan) (s t : S) → PathLeads m p s t → PathLeads m (Meet at p) s t
  meet_reaches at p s t r = record { parts = r.parts; path = met r.path; reads = r.reads }

  pub loop_stops : (at : Site) (p : Plan) (s : S) → PathLeads m (Loop at p) s s
  loop_stops at p s = record { parts = []; path = no_turn; reads = refl }

  pub loop_goes : (at : Site) (p : Plan) (s t u : S) → PathLeads m p s t → PathLeads m (Loop at p) t u
      → PathLeads m (Loop at p) s u
  loop_goes at p s t u a b = record {
    parts = a.parts ++ b.parts;
    path = turn a.path b.path;
    reads = run_join a.parts b.parts s t u a.reads b.reads;
  }

  -- what the body keeps, the loop keeps
  at_loop : (at : Site) (p : Plan) (X : S → Type 0) (keeps : (s t : S) → X s → PathLeads m p s t → X t)
      (l : List PathPart) → IsPath (Loop at p) l → (s t : S) → X s → state_after_parts m l s ≡ Ok t → X t
  at_loop at p X keeps l no_turn s t h k = subst X (ok_same s t k) h
  at_loop at p X keeps l (turn {a = a} {b = b} x y) s t h k =
      let r : (v : S) × (state_after_parts m a s ≡ Ok v) × (state_after_parts m b v ≡ Ok t) = run_cut a b s t k in
      at_loop at p X keeps b y r.0 t (keeps s r.0 h (record { parts = a; path = x; reads = r.1 })) r.2

  pub loop_reached : (at : Site) (p : Plan) (X : S → Type 0) → ((s t : S) → X s → PathLeads m p s t → X t) → (s t : S)
      → X s → PathLeads m (Loop at p) s t → X t
  loop_reached at p X keeps s t h r = at_loop at p X keeps r.parts r.path s t h r.reads

  after_loop : (at : Site) (p : Plan) (l : List PathPart) → IsPath (Loop at p) l → (s t u : S)
      → state_after_parts m l s ≡ Ok t → PathLeads m p t u → PathLeads m (Loop at p) s u
  after_loop at p l no_turn s t u h r = loop_goes at p s u u (subst (λ v. PathLeads m p v u) (sym (ok_same s t h)) r)
      (loop_stops at p u)
  after_loop at p l (turn {a = a} {b = b} x y) s t u h r =
      let c : (v : S) × (state_after_parts m a s ≡ Ok v) × (state_after_parts m b v ≡ Ok t) = run_cut a b s t h in
      loop_goes at p s c.0 u (record { parts = a; path = x; reads = c.1 }) (after_loop at p b y c.0 t u c.2 r)

  -- a loop goes on at its end
  pub loop_more : (at : Site) (p : Plan) (s t u : S) → PathLeads m (Loop at p) s t → PathLeads m p t u
      → PathLeads m (Loop at p) s u
  loop_more at p s t u a b = after_loop at p a.parts a.path s t u a.reads b
