-- Where the walk meets no fault, the four points hold, and its states are those that stand.
use Rattle.std.proofs.Common.{◌≡◌, ℕ, zero, suc, ◌≤◌, Bool, true, false, List, [], ◌∷◌, ◌++◌, ◌⊎◌, inl, inr}
use Rattle.std.proofs.Common.{Option, Some, None, Result, Ok, Err, if◌then◌else◌, length, refl, sym, ap, ◌∙◌, subst}
use Rattle.std.proofs.Common.{arith, eqb-true, ltb-false}
use Rattle.std.specs.Prelude.{nat_lt, ◌==◌}
use Rattle.std.specs.List.{list_all}
use Rattle.soy_base.specs.declared.code.Code.TheVariants as code
use Rattle.soy_base.specs.declared.place.Placing.TheVariants.{Takes, Refuses}
use Rattle.html_state.specs.TakesClass.{takes_class}
use Rattle.soy_base.specs.declared.kind.Kind.{Kind}
use Rattle.soy_base.specs.declared.place.ValueClass.{ValueClass}
use Rattle.soy_base.specs.declared.code.Code.{Code}
use Rattle.soy_base.specs.declared.place.Place.{Place}
use Rattle.soy_base.specs.declared.place.Placing.{Placing}
use Rattle.soy_rules.specs.Faults.{followed_by}
use Rattle.soy_meaning.proofs.Walks.Holds.{Holds}
use Rattle.soy_meaning.proofs.Members.{distinct_join, few_from_list, join_new, join_old, join_same, mem_join}
use Rattle.soy_meaning.proofs.Walks.Moves.{Maps, followed_ok, follow_maps, values_distinct, values_from, values_to}
use Rattle.soy_base.proofs.Results.{ok_same}
use Rattle.soy_meaning.proofs.Runs.Joined.{block_reached, block_reaches, first_reaches, hole_reached, hole_reaches}
use Rattle.soy_meaning.proofs.Runs.Joined.{loop_goes}
use Rattle.soy_meaning.proofs.Runs.Joined.{loop_reached, loop_stops, meet_reached, meet_reaches, nothing_reached}
use Rattle.soy_meaning.proofs.Runs.Joined.{nowhere_reached, or_reached, second_reaches, static_reached, static_reaches}
use Rattle.soy_meaning.proofs.Runs.Joined.{then_reached, then_reaches}
use Rattle.soy_meaning.proofs.Walks.SamePlacings.{same_placing}
use Rattle.soy_meaning.specs.Walks.FourPoints.{OnePlacing, takes_classes}
use Rattle.soy_meaning.specs.Walks.Machine.{ComparesEqual, Machine}
use Rattle.soy_meaning.specs.Paths.Plan.{Either, Frame, Hole, Loop, Meet, Nothing, Nowhere, Plan, StaticText, Then}
use Rattle.soy_pieces.specs.Site.{Site}
use Rattle.soy_meaning.specs.Paths.PathParts.{PathLeads, StandsAfter, after_text, empty_path}
use Rattle.soy_meaning.specs.Walks.States.{AtMost, HasNoRepeats, IsMember, joined_states}
use Rattle.soy_meaning.specs.Walks.Walk.{WalkFault, Walked, after_turn, agreed_place, all_may_end, walk_fault}
use Rattle.soy_meaning.specs.Walks.Walk.{frame_end}
use Rattle.soy_meaning.specs.Walks.Walk.{is_same_placing, met_at, other_placing, place_of_hole, states_after_text}
use Rattle.soy_meaning.specs.Walks.Walk.{states_after_value, taken_place, turns, walk, within_limit}

module _ {S : Type 0} (m : Machine S) where
  pub few_mono : (n : ℕ) (P Q : S → Type 0) → ((s : S) → P s → Q s) → AtMost n Q → AtMost n P
  few_mono n P Q inside few xs d all = few xs d (λ s h. inside s (all s h))

  pub post_mono : (p : Plan) (P Q : S → Type 0) → ((s : S) → P s → Q s) → (t : S) → StandsAfter m p P t
      → StandsAfter m p Q t
  post_mono p P Q inside t r = record { from = r.from; before = inside r.from r.before; path_leads = r.path_leads }

  -- fewer states, no more faults
  pub good_mono : (p : Plan) (P Q : S → Type 0) → ((s : S) → P s → Q s) → Holds m p Q → Holds m p P
  good_mono Nothing P Q inside g = tt
  good_mono Nowhere P Q inside g = tt
  good_mono (StaticText at text) P Q inside g = λ s h. g s (inside s h)
  good_mono (Hole at classes) P Q inside g = record {
    one = λ s t h k. g.one s t (inside s h) (inside t k);
    takes = λ s h. g.takes s (inside s h);
  }
  good_mono (Then p q) P Q inside g =
      (good_mono p P Q inside g.0, good_mono q (StandsAfter m p P) (StandsAfter m p Q) (post_mono p P Q inside) g.1)
  good_mono (Either p q) P Q inside g = (good_mono p P Q inside g.0, good_mono q P Q inside g.1)
  good_mono (Meet at p) P Q inside g =
      (good_mono p P Q inside g.0, few_mono 16 (StandsAfter m p P) (StandsAfter m p Q) (post_mono p P Q inside) g.1)
  good_mono (Loop at p) P Q inside g = (
    good_mono p (StandsAfter m (Loop at p) P) (StandsAfter m (Loop at p) Q) (post_mono (Loop at p) P Q inside) g.0,
    few_mono 16 (StandsAfter m (Loop at p) P) (StandsAfter m (Loop at p) Q) (post_mono (Loop at p) P Q inside) g.1,
  )
  good_mono (Frame kind at p) P Q inside g = g

-- what an answer of the walk says
pub record Sound {S : Type 0} (m : Machine S) (p : Plan) (xs ys : List S) : Type 0 where
  pub good : Holds m p (λ s. IsMember s xs)
  pub to : (t : S) → StandsAfter m p (λ s. IsMember s xs) t → IsMember t ys
  pub from : (t : S) → IsMember t ys → StandsAfter m p (λ s. IsMember s xs) t
  pub distinct : HasNoRepeats xs → HasNoRepeats ys

-- what turns from `xs` to `ys` say
pub record Turned {S : Type 0} (m : Machine S) (at : Site) (p : Plan) (xs ys : List S) : Type 0 where
  pub good : Holds m p (λ s. IsMember s ys)
  pub keeps : (t : S) → IsMember t xs → IsMember t ys
  pub closed : (s t : S) → IsMember s ys → PathLeads m p s t → IsMember t ys
  pub from : (t : S) → IsMember t ys → StandsAfter m (Loop at p) (λ s. IsMember s xs) t
  pub small : length ys ≤ 16
  pub distinct : HasNoRepeats xs → HasNoRepeats ys

module _ {S : Type 0} (m : Machine S) (compares : ComparesEqual m) where
  in_post : (p : Plan) (xs : List S) (s t : S) → IsMember s xs → PathLeads m p s t
      → StandsAfter m p (λ u. IsMember u xs) t
  in_post p xs s t h r = record { from = s; before = h; path_leads = r }

  same_sound : (p : Plan) (xs ys zs : List S) → ys ≡ zs → Sound m p xs ys → Sound m p xs zs
  same_sound p xs ys zs e h = subst (λ (l : List S). Sound m p xs l) e h

  sound_nothing : (xs : List S) → Sound m Nothing xs xs
  sound_nothing xs = record {
    good = tt;
    to = λ t h. subst (λ u. IsMember u xs) (nothing_reached m h.from t h.path_leads) h.before;
    from = λ t h. record { from = t; before = h; path_leads = record { parts = []; path = empty_path; reads = refl } };
    distinct = λ d. d;
  }

  sound_nowhere : (xs : List S) → Sound m Nowhere xs []
  sound_nowhere xs = record {
    good = tt;
    to = λ t h. nowhere_reached m h.from t h.path_leads;
    from = λ t h. absurd h;
    distinct = λ d. tt;
  }

  sound_static : (at : Site) (text : List ℕ) (xs ys : List S) → Maps (after_text m text) xs ys
      → Sound m (StaticText at text) xs ys
  sound_static at text xs ys maps = record {
    good = λ s h. maps.each s h;
    to = λ t h. maps.to h.from t h.before (static_reached m at text h.from t h.path_leads);
    from = λ t h. (let b : (s : S) × IsMember s xs × (after_text m text s ≡ Ok t) = maps.from t h in
        in_post (StaticText at text) xs b.0 t b.1 (static_reaches m at text b.0 t b.2));
    distinct = λ d. maps.distinct;
  }

  sound_hole : (at : Site) (classes : List ValueClass) (xs : List S) → OnePlacing m classes (λ s. IsMember s xs)
      → Sound m (Hole at classes) xs (states_after_value m xs)
  sound_hole at classes xs one = record {
    good = one;
    to = λ t h. subst (λ u. IsMember u (states_after_value m xs)) (hole_reached m at classes h.from t h.path_leads)
        (values_to m compares h.from xs h.before);
    from = λ t h. (let b : (s : S) × IsMember s xs × (m.value s ≡ t) = values_from m compares t xs h in
        in_post (Hole at classes) xs b.0 t b.1
        (subst (λ u. PathLeads m (Hole at classes) b.0 u) b.2 (hole_reaches m at classes b.0)));
    distinct = λ d. values_distinct m compares xs;
  }

  sound_then : (p q : Plan) (xs ys zs : List S) → Sound m p xs ys → Sound m q ys zs → Sound m (Then p q) xs zs
  sound_then p q xs ys zs a b = record {
    good = (a.good, good_mono m q (StandsAfter m p (λ s. IsMember s xs)) (λ s. IsMember s ys) a.to b.good);
    to = λ t h. (let r : (u : S) × PathLeads m p h.from u × PathLeads m q u t = then_reached m p q h.from t
        h.path_leads in
        b.to t (in_post q ys r.0 t (a.to r.0 (in_post p xs h.from r.0 h.before r.1)) r.2));
    from = λ t h. (let k : StandsAfter m q (λ s. IsMember s ys) t = b.from t h in
        let j : StandsAfter m p (λ s. IsMember s xs) k.from = a.from k.from k.before in
        in_post (Then p q) xs j.from t j.before (then_reaches m p q j.from k.from t j.path_leads k.path_leads));
    distinct = λ d. b.distinct (a.distinct d);
  }

  sound_or : (p q : Plan) (xs ys zs : List S) → Sound m p xs ys → Sound m q xs zs
      → Sound m (Either p q) xs (joined_states m ys zs)
  sound_or p q xs ys zs a b = record {
    good = (a.good, b.good);
    to = λ t h. elim (or_reached m p q h.from t h.path_leads) [
      | inl r ↦ join_old m compares t ys zs (a.to t (in_post p xs h.from t h.before r))
      | inr r ↦ join_new m compares t ys zs (b.to t (in_post q xs h.from t h.before r))
    ];
    from = λ t h. elim (mem_join m compares t ys zs h) [
      | inl k ↦ (let j : StandsAfter m p (λ s. IsMember s xs) t = a.from t k in
          in_post (Either p q) xs j.from t j.before (first_reaches m p q j.from t j.path_leads))
      | inr k ↦ (let j : StandsAfter m q (λ s. IsMember s xs) t = b.from t k in
          in_post (Either p q) xs j.from t j.before (second_reaches m p q j.from t j.path_leads))
    ];
    distinct = λ d. distinct_join m compares ys zs (a.distinct d);
  }

  sound_meet : (at : Site) (p : Plan) (xs ys : List S) → length ys ≤ 16 → Sound m p xs ys → Sound m (Meet at p) xs ys
  sound_meet at p xs ys small a = record {
    good = (a.good, few_from_list 16 ys (StandsAfter m p (λ s. IsMember s xs)) small a.to);
    to = λ t h. a.to t (in_post p xs h.from t h.before (meet_reached m at p h.from t h.path_leads));
    from = λ t h. (let j : StandsAfter m p (λ s. IsMember s xs) t = a.from t h in
        in_post (Meet at p) xs j.from t j.before (meet_reaches m at p j.from t j.path_leads));
    distinct = a.distinct;
  }

  pub sound_loop : (at : Site) (p : Plan) (xs ys : List S) → Turned m at p xs ys → Sound m (Loop at p) xs ys
  sound_loop at p xs ys a =
      let to : (t : S) → StandsAfter m (Loop at p) (λ s. IsMember s xs) t → IsMember t ys =
      λ t h. loop_reached m at p (λ s. IsMember s ys) a.closed h.from t (a.keeps h.from h.before) h.path_leads in
      record {
        good = (
          good_mono m p (StandsAfter m (Loop at p) (λ s. IsMember s xs)) (λ s. IsMember s ys) to a.good,
          few_from_list 16 ys (StandsAfter m (Loop at p) (λ s. IsMember s xs)) a.small to,
        );
        to = to;
        from = a.from;
        distinct = a.distinct;
      }

  end_each : (kind : Kind) (x : S) (xs : List S) (t : S) (b : Bool) → m.may_end kind x ≡ b
      → (if b then all_may_end m kind xs else false) ≡ true
      → (all_may_end m kind xs ≡ true → IsMember t xs → m.may_end kind t ≡ true) → IsMember t (x ∷ xs)
      → m.may_end kind t ≡ true
  end_each kind x xs t true e g f (inl j) = subst (λ u. m.may_end kind u ≡ true) (sym j) e
  end_each kind x xs t true e g f (inr j) = f g j
  end_each kind x xs t false e g f j = let no : ⊥ = cc in absurd no

  all_end_each : (kind : Kind) (xs : List S) → all_may_end m kind xs ≡ true → (t : S) → IsMember t xs
      → m.may_end kind t ≡ true
  all_end_each kind [] h t k = absurd k
  all_end_each kind (x ∷ xs) h t k = end_each kind x xs t (m.may_end kind x) refl h
      (λ g j. all_end_each kind xs g t j) k

  sound_block : (kind : Kind) (at : Site) (p : Plan) (xs ys : List S) → all_may_end m kind ys ≡ true
      → Sound m p (m.start kind ∷ []) ys → Sound m (Frame kind at p) xs xs
  sound_block kind at p xs ys ends a =
      let start : S → Type 0 = λ s. s ≡ m.start kind in
      record {
        good = (
          good_mono m p start (λ s. IsMember s (m.start kind ∷ [])) (λ s h. inl h) a.good,
          (λ t h. all_end_each kind ys ends t
              (a.to t (post_mono m p start (λ s. IsMember s (m.start kind ∷ [])) (λ s k. inl k) t h))),
        );
        to = λ t h. subst (λ u. IsMember u xs) (block_reached m kind at p h.from t h.path_leads) h.before;
        from = λ t h. in_post (Frame kind at p) xs t t h (block_reaches m kind at p t);
        distinct = λ d. d;
      }

  met_at_ok : {A : Type 0} (at : Site) (r : Result A Code) (a : A) → met_at at r ≡ Ok a → r ≡ Ok a
  met_at_ok at (Ok b) a h = ap Ok (ok_same b a h)
  met_at_ok at (Err e) a h = let no : ⊥ = cc in absurd no

  other_if : (b : Bool) (x : Placing) (o : Option Placing) → (if b then o else Some x) ≡ None → (b ≡ true) × (o ≡ None)
  other_if true x o h = (refl, h)
  other_if false x o h = let no : ⊥ = cc in absurd no

  none_differs : (pl : Placing) (xs : List S) → other_placing m pl xs ≡ None → (s : S) → IsMember s xs
      → m.placing s ≡ pl
  none_differs pl [] h s k = absurd k
  none_differs pl (x ∷ xs) h s (inl e) =
      let r : (is_same_placing (m.placing x) pl ≡ true) × (other_placing m pl xs ≡ None) =
      other_if (is_same_placing (m.placing x) pl) (m.placing x) (other_placing m pl xs) h in
      ap m.placing e ∙ same_placing (m.placing x) pl r.0
  none_differs pl (x ∷ xs) h s (inr k) =
      let r : (is_same_placing (m.placing x) pl ≡ true) × (other_placing m pl xs ≡ None) =
      other_if (is_same_placing (m.placing x) pl) (m.placing x) (other_placing m pl xs) h in
      none_differs pl xs r.1 s k

  taken_if : (b : Bool) (point : Place) (at : Site) (p : Place)
      → (if b then Ok point else Err (walk_fault at code.Place)) ≡ Ok p → (b ≡ true) × (point ≡ p)
  taken_if true point at p h = (refl, ok_same point p h)
  taken_if false point at p h = let no : ⊥ = cc in absurd no

  taken_ok : (at : Site) (classes : List ValueClass) (pl : Placing) (p : Place) → taken_place at classes pl ≡ Ok p
      → (pl ≡ Takes p) × (takes_classes pl classes ≡ true)
  taken_ok at classes (Refuses c) p h = let no : ⊥ = cc in absurd no
  taken_ok at classes (Takes point) p h =
      let r : (list_all (takes_class (Takes point)) classes ≡ true) × (point ≡ p) =
      taken_if (list_all (takes_class (Takes point)) classes) point at p h in (ap Takes r.1, r.0)

  agreed_ok : (at : Site) (classes : List ValueClass) (pl : Placing) (o : Option Placing) (p : Place)
      → agreed_place at classes pl o ≡ Ok p → (o ≡ None) × (pl ≡ Takes p) × (takes_classes pl classes ≡ true)
  agreed_ok at classes pl (Some c) p h = let no : ⊥ = cc in absurd no
  agreed_ok at classes pl None p h = let r : (pl ≡ Takes p) × (takes_classes pl classes ≡ true) =
      taken_ok at classes pl p h in (refl, r.0, r.1)

  pub all_placed : (at : Site) (classes : List ValueClass) (xs : List S) (p : Place) → place_of_hole m at classes xs
      ≡ Ok p → (s : S) → IsMember s xs → (m.placing s ≡ Takes p) × (takes_classes (m.placing s) classes ≡ true)
  all_placed at classes [] p h s k = absurd k
  all_placed at classes (x ∷ xs) p h s k =
      let r : (other_placing m (m.placing x) xs ≡ None) × (m.placing x ≡ Takes p)
      × (takes_classes (m.placing x) classes ≡ true) =
      agreed_ok at classes (m.placing x) (other_placing m (m.placing x) xs) p h in
      let here : m.placing s ≡ m.placing x =
      elim k [ inl e ↦ ap m.placing e | inr j ↦ none_differs (m.placing x) xs r.0 s j ] in
      (here ∙ r.1, subst (λ q. takes_classes q classes ≡ true) (sym here) r.2)

  one_placing : (at : Site) (classes : List ValueClass) (xs : List S) (p : Place) → place_of_hole m at classes xs
      ≡ Ok p → OnePlacing m classes (λ s. IsMember s xs)
  one_placing at classes xs p h = record {
    one = λ s t j k. (all_placed at classes xs p h s j).0 ∙ sym (all_placed at classes xs p h t k).0;
    takes = λ s j. (all_placed at classes xs p h s j).1;
  }

  limited_if : (b : Bool) (at : Site) (w v : Walked S) → (if b then Err (walk_fault at code.States) else Ok w) ≡ Ok v
      → (b ≡ false) × (w ≡ v)
  limited_if true at w v h = let no : ⊥ = cc in absurd no
  limited_if false at w v h = (refl, ok_same w v h)

  pub limited_ok : (at : Site) (w v : Walked S) → within_limit m at w ≡ Ok v → (length w.states ≤ 16) × (w ≡ v)
  limited_ok at w v h =
      let r : (nat_lt 16 (length w.states) ≡ false) × (w ≡ v) = limited_if (nat_lt 16 (length w.states)) at w v h in
      (ltb-false 16 (length w.states) r.0, r.1)

  pub ended_if : (b : Bool) (at : Site) (w v : Walked S) → (if b then Ok w else Err (walk_fault at code.EndState))
      ≡ Ok v → (b ≡ true) × (w ≡ v)
  ended_if true at w v h = (refl, ok_same w v h)
  ended_if false at w v h = let no : ⊥ = cc in absurd no

  pub turned_if : (b c : Bool) (at : Site) (stays v : Walked S) (again : Result (Walked S) WalkFault)
      → (if b then Err (walk_fault at code.States) else (if c then Ok stays else again)) ≡ Ok v → (b ≡ false)
      × (((c ≡ true) × (stays ≡ v)) ⊎ (again ≡ Ok v))
  turned_if true c at stays v again h = let no : ⊥ = cc in absurd no
  turned_if false true at stays v again h = (refl, inl (refl, ok_same stays v h))
  turned_if false false at stays v again h = (refl, inr h)

  turned_stops : (at : Site) (p : Plan) (xs us : List S) → length (joined_states m xs us) ≤ 16
      → length (joined_states m xs us) ≡ length xs → Sound m p xs us → Turned m at p xs xs
  turned_stops at p xs us small same a = record {
    good = a.good;
    keeps = λ t h. h;
    closed = λ s t h r. join_same m compares xs us same t (a.to t (in_post p xs s t h r));
    from = λ t h. in_post (Loop at p) xs t t h (loop_stops m at p t);
    small = omega (arith, small, same);
    distinct = λ d. d;
  }

  turned_again : (at : Site) (p : Plan) (xs us ys : List S) → Sound m p xs us
      → Turned m at p (joined_states m xs us) ys → Turned m at p xs ys
  turned_again at p xs us ys a b = record {
    good = b.good;
    keeps = λ t h. b.keeps t (join_old m compares t xs us h);
    closed = b.closed;
    from = λ t h. (let j : StandsAfter m (Loop at p) (λ s. IsMember s (joined_states m xs us)) t = b.from t h in
        elim (mem_join m compares j.from xs us j.before) [
          | inl k ↦ in_post (Loop at p) xs j.from t k j.path_leads
          | inr k ↦ (let i : StandsAfter m p (λ s. IsMember s xs) j.from = a.from j.from k in
              in_post (Loop at p) xs i.from t i.before (loop_goes m at p i.from j.from t i.path_leads j.path_leads))
        ]);
    small = b.small;
    distinct = λ d. b.distinct (distinct_join m compares xs us d);
  }

  pub sound_turns : (at : Site) (p : Plan) → ((w v : Walked S) → walk m p w ≡ Ok v → Sound m p w.states v.states)
      → (n : ℕ) (w v : Walked S) → turns m (λ u. walk m p u) at n w ≡ Ok v → Turned m at p w.states v.states
  unfolding turns
  sound_turns at p ih zero w v h = let no : ⊥ = cc in absurd no
  sound_turns at p ih (suc n) w v h =
      let r : (u : Walked S) × (walk m p w ≡ Ok u)
      × (after_turn m (λ u. turns m (λ z. walk m p z) at n u) at w u (joined_states m w.states u.states) ≡ Ok v) =
      followed_ok (walk m p w) (λ u. after_turn m (λ z. turns m (λ y. walk m p y) at n z) at w u
      (joined_states m w.states u.states)) v h in
      let more = joined_states m w.states r.0.states in
      let c : (nat_lt 16 (length more) ≡ false)
      × ((((length more == length w.states) ≡ true) × (record { states = w.states; places = r.0.places } ≡ v))
      ⊎ (turns m (λ z. walk m p z) at n (record { states = more; places = w.places }) ≡ Ok v)) =
      turned_if (nat_lt 16 (length more)) (length more == length w.states) at
      (record { states = w.states; places = r.0.places }) v
      (turns m (λ z. walk m p z) at n (record { states = more; places = w.places })) r.2 in
      elim c.1 [
        | inl k ↦ subst (λ (z : Walked S). Turned m at p w.states z.states) k.1
            (turned_stops at p w.states r.0.states (ltb-false 16 (length more) c.0)
            (eqb-true (length more) (length w.states) k.0) (ih w r.0 r.1))
        | inr k ↦ turned_again at p w.states r.0.states v.states (ih w r.0 r.1)
            (sound_turns at p ih n (record { states = more; places = w.places }) v k)
      ]

  to_answer : (p : Plan) (w u v : Walked S) → u ≡ v → Sound m p w.states u.states → Sound m p w.states v.states
  to_answer p w u v e h = subst (λ (z : Walked S). Sound m p w.states z.states) e h

  pub sound : (p : Plan) (w v : Walked S) → walk m p w ≡ Ok v → Sound m p w.states v.states
  sound Nothing w v h = to_answer Nothing w w v (ok_same w v h) (sound_nothing w.states)
  sound Nowhere w v h = to_answer Nowhere w (record { states = []; places = w.places }) v
      (ok_same (record { states = []; places = w.places }) v h) (sound_nowhere w.states)
  sound (StaticText at text) w v h =
      let r : (ts : List S) × (met_at at (states_after_text m text w.states) ≡ Ok ts)
      × (Ok (record { states = ts; places = w.places }) ≡ Ok v) =
      followed_ok (met_at at (states_after_text m text w.states))
      (λ ts. Ok (record { states = ts; places = w.places })) v h in
      to_answer (StaticText at text) w (record { states = r.0; places = w.places }) v
      (ok_same (record { states = r.0; places = w.places }) v r.2)
      (sound_static at text w.states r.0
      (follow_maps m compares text w.states r.0 (met_at_ok at (states_after_text m text w.states) r.0 r.1)))
  sound (Hole at classes) w v h =
      let r : (q : Place) × (place_of_hole m at classes w.states ≡ Ok q)
      × (Ok (record { states = states_after_value m w.states; places = w.places ++ (q ∷ []) }) ≡ Ok v) =
      followed_ok (place_of_hole m at classes w.states)
      (λ q. Ok (record { states = states_after_value m w.states; places = w.places ++ (q ∷ []) })) v h in
      to_answer (Hole at classes) w
      (record { states = states_after_value m w.states; places = w.places ++ (r.0 ∷ []) }) v
      (ok_same (record { states = states_after_value m w.states; places = w.places ++ (r.0 ∷ []) }) v r.2)
      (sound_hole at classes w.states (one_placing at classes w.states r.0 r.1))
  sound (Then p q) w v h =
      let r : (u : Walked S) × (walk m p w ≡ Ok u) × (walk m q u ≡ Ok v) = followed_ok (walk m p w) (λ u. walk m q u)
      v h in
      sound_then p q w.states r.0.states v.states (sound p w r.0 r.1) (sound q r.0 v r.2)
  sound (Either p q) w v h =
      let r : (u : Walked S) × (walk m p w ≡ Ok u)
      × (followed_by (walk m q (record { states = w.states; places = u.places }))
      (λ z. Ok (record { states = joined_states m u.states z.states; places = z.places })) ≡ Ok v) =
      followed_ok (walk m p w) (λ u. followed_by (walk m q (record { states = w.states; places = u.places }))
      (λ z. Ok (record { states = joined_states m u.states z.states; places = z.places }))) v h in
      let c : (z : Walked S) × (walk m q (record { states = w.states; places = r.0.places }) ≡ Ok z)
      × (Ok (record { states = joined_states m r.0.states z.states; places = z.places }) ≡ Ok v) =
      followed_ok (walk m q (record { states = w.states; places = r.0.places }))
      (λ z. Ok (record { states = joined_states m r.0.states z.states; places = z.places })) v r.2 in
      to_answer (Either p q) w (record { states = joined_states m r.0.states c.0.states; places = c.0.places }) v
      (ok_same (record { states = joined_states m r.0.states c.0.states; places = c.0.places }) v c.2)
      (sound_or p q w.states r.0.states c.0.states (sound p w r.0 r.1)
      (sound q (record { states = w.states; places = r.0.places }) c.0 c.1))
  sound (Meet at p) w v h =
      let r : (u : Walked S) × (walk m p w ≡ Ok u) × (within_limit m at u ≡ Ok v) =
      followed_ok (walk m p w) (λ u. within_limit m at u) v h in
      let c : (length r.0.states ≤ 16) × (r.0 ≡ v) = limited_ok at r.0 v r.2 in
      to_answer (Meet at p) w r.0 v c.1 (sound_meet at p w.states r.0.states c.0 (sound p w r.0 r.1))
  sound (Loop at p) w v h = sound_loop at p w.states v.states (sound_turns at p (λ w v h. sound p w v h) 17 w v h)
  sound (Frame kind at p) w v h =
      let r : (u : Walked S) × (walk m p (record { states = m.start kind ∷ []; places = w.places }) ≡ Ok u)
      × (frame_end m kind at w.states u ≡ Ok v) =
      followed_ok (walk m p (record { states = m.start kind ∷ []; places = w.places }))
      (λ u. frame_end m kind at w.states u) v h in
      let c : (all_may_end m kind r.0.states ≡ true) × (record { states = w.states; places = r.0.places } ≡ v) =
      ended_if (all_may_end m kind r.0.states) at (record { states = w.states; places = r.0.places }) v r.2 in
      to_answer (Frame kind at p) w (record { states = w.states; places = r.0.places }) v c.1
      (sound_block kind at p w.states r.0.states c.0
      (sound p (record { states = m.start kind ∷ []; places = w.places }) r.0 r.1))
