-- Where the four points hold, the walk meets no fault.
use Rattle.std.proofs.Common.{◌≡◌, ℕ, zero, suc, ◌+◌, ◌≤◌, Bool, true, false, List, [], ◌∷◌, ◌++◌, inl, inr}
use Rattle.std.proofs.Common.{None, Result, Ok, length, refl, ap, subst}
use Rattle.std.proofs.Common.{arith, le-ltb}
use Rattle.std.proofs.lemmas.Bool.{eqb-false}
use Rattle.std.specs.Prelude.{nat_lt, ◌==◌}
use Rattle.soy_base.specs.declared.place.Place.TheVariants as place
use Rattle.soy_base.specs.declared.place.Placing.TheVariants.{Takes, Refuses}
use Rattle.soy_base.specs.declared.kind.Kind.{Kind}
use Rattle.soy_base.specs.declared.place.ValueClass.{ValueClass}
use Rattle.soy_base.specs.declared.place.Place.{Place}
use Rattle.soy_base.specs.declared.place.Placing.{Placing}
use Rattle.soy_rules.specs.Faults.{followed_by}
use Rattle.soy_meaning.proofs.Walks.Holds.{Holds}
use Rattle.soy_meaning.proofs.Members.{distinct_join, length_join, mem_join}
use Rattle.soy_meaning.proofs.Walks.Moves.{followed_is, follow_goes}
use Rattle.soy_meaning.proofs.Runs.Joined.{loop_more, loop_stops}
use Rattle.soy_meaning.proofs.Walks.SamePlacings.{placing_itself}
use Rattle.soy_meaning.proofs.Walks.Sound.{Sound, good_mono, post_mono, sound}
use Rattle.soy_meaning.specs.Walks.FourPoints.{OnePlacing, takes_classes}
use Rattle.soy_meaning.specs.Walks.Machine.{ComparesEqual, Machine}
use Rattle.soy_meaning.specs.Paths.Plan.{Either, Frame, Hole, Loop, Meet, Nothing, Nowhere, Plan, StaticText, Then}
use Rattle.soy_pieces.specs.Site.{Site}
use Rattle.soy_meaning.specs.Paths.PathParts.{PathLeads, StandsAfter}
use Rattle.soy_meaning.specs.Walks.States.{AtMost, HasNoRepeats, IsMember, joined_states}
use Rattle.soy_meaning.specs.Walks.Walk.{WalkFault, Walked, after_turn, all_may_end, frame_end, is_same_placing, met_at}
use Rattle.soy_meaning.specs.Walks.Walk.{other_placing, place_of_hole, states_after_text, states_after_value}
use Rattle.soy_meaning.specs.Walks.Walk.{taken_place}
use Rattle.soy_meaning.specs.Walks.Walk.{turns, walk, within_limit}

module _ {S : Type 0} (m : Machine S) (compares : ComparesEqual m) where
  none_other : (pl : Placing) (xs : List S) → ((s : S) → IsMember s xs → m.placing s ≡ pl)
      → other_placing m pl xs ≡ None
  none_other pl [] all = refl
  none_other pl (x ∷ xs) all =
      let e : is_same_placing (m.placing x) pl ≡ true = subst (λ q. is_same_placing (m.placing x) q ≡ true)
      (all x (inl refl)) (placing_itself (m.placing x)) in rw e (none_other pl xs (λ s h. all s (inr h)))

  taken_goes : (at : Site) (classes : List ValueClass) (pl : Placing) → takes_classes pl classes ≡ true → (p : Place)
      × (taken_place at classes pl ≡ Ok p)
  taken_goes at classes (Takes point) takes = (point, rw takes refl)
  taken_goes at classes (Refuses c) takes = let no : ⊥ = cc in absurd no

  hole_goes : (at : Site) (classes : List ValueClass) (xs : List S) → OnePlacing m classes (λ s. IsMember s xs)
      → (p : Place) × (place_of_hole m at classes xs ≡ Ok p)
  hole_goes at classes [] one = (place.Plain, refl)
  hole_goes at classes (x ∷ xs) one =
      let a : other_placing m (m.placing x) xs ≡ None =
      none_other (m.placing x) xs (λ s h. one.one s x (inr h) (inl refl)) in
      let r : (p : Place) × (taken_place at classes (m.placing x) ≡ Ok p) =
      taken_goes at classes (m.placing x) (one.takes x (inl refl)) in
      (r.0, rw a r.1)

  limited_goes : (at : Site) (w : Walked S) → length w.states ≤ 16 → within_limit m at w ≡ Ok w
  limited_goes at w small = let e : nat_lt 16 (length w.states) ≡ false = le-ltb 16 (length w.states) small in rw e

  all_end_goes : (kind : Kind) (xs : List S) → ((t : S) → IsMember t xs → m.may_end kind t ≡ true)
      → all_may_end m kind xs ≡ true
  all_end_goes kind [] all = refl
  all_end_goes kind (x ∷ xs) all = let e : m.may_end kind x ≡ true = all x (inl refl) in
      rw e (all_end_goes kind xs (λ t h. all t (inr h)))

  turned_goes : (c : Bool) (again : Walked S → Result (Walked S) WalkFault) (at : Site) (head w : Walked S)
      (more : List S) → length more ≤ 16 → (length more == length head.states) ≡ c
      → (c ≡ false → (v : Walked S) × (again (record { states = more; places = head.places }) ≡ Ok v))
      → (v : Walked S) × (after_turn m again at head w more ≡ Ok v)
  turned_goes true again at head w more small e f =
      let a : nat_lt 16 (length more) ≡ false = le-ltb 16 (length more) small in
      (record { states = head.states; places = w.places }, rw (a, e))
  turned_goes false again at head w more small e f =
      let a : nat_lt 16 (length more) ≡ false = le-ltb 16 (length more) small in
      let r : (v : Walked S) × (again (record { states = more; places = head.places }) ≡ Ok v) = f refl in
      (r.0, rw (a, e) r.1)

  turns_go : (at : Site) (p : Plan) (H : S → Type 0) → ((s t : S) → H s → PathLeads m p s t → H t) → Holds m p H
      → AtMost 16 H
      → ((w : Walked S) → HasNoRepeats w.states → Holds m p (λ s. IsMember s w.states) → (v : Walked S)
      × (walk m p w ≡ Ok v))
      → (n : ℕ) (w : Walked S) → 17 ≤ n + length w.states → HasNoRepeats w.states
      → ((s : S) → IsMember s w.states → H s) → (v : Walked S) × (turns m (λ u. walk m p u) at n w ≡ Ok v)
  unfolding turns
  turns_go at p H closed good few ih zero w enough d inside = let small : length w.states ≤ 16 =
      few w.states d inside in let no : ⊥ = omega arith in absurd no
  turns_go at p H closed good few ih (suc n) w enough d inside =
      let r : (v : Walked S) × (walk m p w ≡ Ok v) = ih w d (good_mono m p (λ s. IsMember s w.states) H inside good) in
      let a : Sound m p w.states r.0.states = sound m compares p w r.0 r.1 in
      let more = joined_states m w.states r.0.states in
      let within : (s : S) → IsMember s more → H s = λ s h. elim (mem_join m compares s w.states r.0.states h) [
        | inl k ↦ inside s k
        | inr k ↦ (let j : StandsAfter m p (λ u. IsMember u w.states) s = a.from s k in
            closed j.from s (inside j.from j.before) j.path_leads)
      ] in
      let apart : HasNoRepeats more = distinct_join m compares w.states r.0.states d in
      let grows : length w.states ≤ length more = length_join m compares w.states r.0.states in
      let z : (v : Walked S) × (after_turn m (λ u. turns m (λ y. walk m p y) at n u) at w r.0 more ≡ Ok v) =
      turned_goes (length more == length w.states) (λ u. turns m (λ y. walk m p y) at n u) at w r.0 more
      (few more apart within) refl
      (λ e. turns_go at p H closed good few ih n (record { states = more; places = w.places })
      (further (length more) (length w.states) n (eqb-false (length more) (length w.states) e) grows enough) apart
      within) in (
        z.0,
        followed_is (walk m p w) (λ u. after_turn m (λ y. turns m (λ x. walk m p x) at n y) at w u
            (joined_states m w.states u.states)) r.0 (Ok z.0) r.1 z.1,
      )
    where
      further : (a b n : ℕ) → (a ≡ b → ⊥) → b ≤ a → 17 ≤ suc n + b → 17 ≤ n + a
      further a b n apart le enough = omega arith

  pub complete : (p : Plan) (w : Walked S) → HasNoRepeats w.states → Holds m p (λ s. IsMember s w.states)
      → (v : Walked S) × (walk m p w ≡ Ok v)
  complete Nothing w d g = (w, refl)
  complete Nowhere w d g = (record { states = []; places = w.places }, refl)
  complete (StaticText at text) w d g =
      let r : (ts : List S) × (states_after_text m text w.states ≡ Ok ts) = follow_goes m compares text w.states g in
      let v : Walked S = record { states = r.0; places = w.places } in (
        v,
        followed_is (met_at at (states_after_text m text w.states))
            (λ ts. Ok (record { states = ts; places = w.places })) r.0 (Ok v) (ap (λ z. met_at at z) r.1) refl,
      )
  complete (Hole at classes) w d g =
      let r : (p : Place) × (place_of_hole m at classes w.states ≡ Ok p) = hole_goes at classes w.states g in
      let v : Walked S = record { states = states_after_value m w.states; places = w.places ++ (r.0 ∷ []) } in (
        v,
        followed_is (place_of_hole m at classes w.states)
            (λ q. Ok (record { states = states_after_value m w.states; places = w.places ++ (q ∷ []) })) r.0 (Ok v) r.1
            refl,
      )
  complete (Then p q) w d g =
      let r : (v : Walked S) × (walk m p w ≡ Ok v) = complete p w d g.0 in
      let a : Sound m p w.states r.0.states = sound m compares p w r.0 r.1 in
      let z : (v : Walked S) × (walk m q r.0 ≡ Ok v) =
      complete q r.0 (a.distinct d)
      (good_mono m q (λ s. IsMember s r.0.states) (StandsAfter m p (λ s. IsMember s w.states)) a.from g.1) in
      (z.0, followed_is (walk m p w) (λ v. walk m q v) r.0 (Ok z.0) r.1 z.1)
  complete (Either p q) w d g =
      let r : (v : Walked S) × (walk m p w ≡ Ok v) = complete p w d g.0 in
      let w' : Walked S = record { states = w.states; places = r.0.places } in
      let z : (v : Walked S) × (walk m q w' ≡ Ok v) = complete q w' d g.1 in
      let v : Walked S = record { states = joined_states m r.0.states z.0.states; places = z.0.places } in (
        v,
        followed_is (walk m p w) (λ u. followed_by (walk m q (record { states = w.states; places = u.places }))
            (λ x. Ok (record { states = joined_states m u.states x.states; places = x.places }))) r.0 (Ok v) r.1
            (followed_is (walk m q w')
            (λ x. Ok (record { states = joined_states m r.0.states x.states; places = x.places })) z.0 (Ok v) z.1
            refl),
      )
  complete (Meet at p) w d g =
      let r : (v : Walked S) × (walk m p w ≡ Ok v) = complete p w d g.0 in
      let a : Sound m p w.states r.0.states = sound m compares p w r.0 r.1 in (
        r.0,
        followed_is (walk m p w) (λ v. within_limit m at v) r.0 (Ok r.0) r.1
            (limited_goes at r.0 (g.1 r.0.states (a.distinct d) a.from)),
      )
  complete (Loop at p) w d g =
      let H : S → Type 0 = StandsAfter m (Loop at p) (λ s. IsMember s w.states) in
      turns_go at p H (λ s t h r. record {
        from = h.from;
        before = h.before;
        path_leads = loop_more m at p h.from s t h.path_leads r;
      }) g.0 g.1 (λ u c k. complete p u c k) 17 w
      (omega arith) d
      (λ s h. record { from = s; before = h; path_leads = loop_stops m at p s })
  complete (Frame kind at p) w d g =
      let start : Walked S = record { states = m.start kind ∷ []; places = w.places } in
      let one : (s : S) → IsMember s (m.start kind ∷ []) → s ≡ m.start kind =
      λ s h. elim h [ inl e ↦ e | inr k ↦ absurd k ] in
      let r : (v : Walked S) × (walk m p start ≡ Ok v) =
      complete p start ((λ h. h), tt) (good_mono m p (λ s. IsMember s (m.start kind ∷ [])) (λ s. s ≡ m.start kind)
      one g.0) in
      let a : Sound m p (m.start kind ∷ []) r.0.states = sound m compares p start r.0 r.1 in
      let ends : all_may_end m kind r.0.states ≡ true =
      all_end_goes kind r.0.states
      (λ t h. g.1 t (post_mono m p (λ s. IsMember s (m.start kind ∷ [])) (λ s. s ≡ m.start kind) one t
      (a.from t h))) in
      let v : Walked S = record { states = w.states; places = r.0.places } in
      (v, followed_is (walk m p start) (λ u. frame_end m kind at w.states u) r.0 (Ok v) r.1 (rw ends))
