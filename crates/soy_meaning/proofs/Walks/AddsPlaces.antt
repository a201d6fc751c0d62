-- The walk keeps the places that were there, and adds those of the plan's holes.
use Rattle.std.proofs.Common.{◌≡◌, ℕ, zero, suc, ◌≤◌, true, false, List, [], ◌∷◌, ◌++◌, ◌⊎◌, inl, inr}
use Rattle.std.proofs.Common.{Ok, length, take, refl, sym, ap, ◌∙◌, subst}
use Rattle.std.proofs.Common.{append_assoc}
use Rattle.std.proofs.lemmas.List.{append-nil, take_at}
use Rattle.std.specs.Prelude.{nat_lt, ◌==◌}
use Rattle.soy_base.specs.declared.place.Place.{Place}
use Rattle.soy_rules.specs.Faults.{followed_by}
use Rattle.soy_meaning.proofs.Walks.HolePlaces.{HolePlaces, TwoLists}
use Rattle.soy_meaning.proofs.Walks.Moves.{followed_ok}
use Rattle.soy_base.proofs.Results.{ok_same}
use Rattle.soy_meaning.proofs.Walks.Sound.{Sound, all_placed, ended_if, limited_ok, post_mono, sound, turned_if}
use Rattle.soy_meaning.specs.Walks.Machine.{ComparesEqual, Machine}
use Rattle.soy_meaning.specs.Paths.Plan.{Either, Frame, Hole, Loop, Meet, Nothing, Nowhere, Plan, StaticText, Then}
use Rattle.soy_pieces.specs.Site.{Site}
use Rattle.soy_meaning.specs.Paths.PathParts.{StandsAfter}
use Rattle.soy_meaning.specs.Walks.States.{IsMember, joined_states}
use Rattle.soy_meaning.specs.Walks.Walk.{Walked, after_turn, all_may_end, frame_end, met_at, place_of_hole}
use Rattle.soy_meaning.specs.Walks.Walk.{states_after_text}
use Rattle.soy_meaning.specs.Walks.Walk.{states_after_value, turns, walk, within_limit}

module _ {S : Type 0} (m : Machine S) where
  both_mono : (X Y X' Y' : List Place → Type 0) → ((l : List Place) → X l → X' l) → ((l : List Place) → Y l → Y' l)
      → (l : List Place) → TwoLists X Y l → TwoLists X' Y' l
  both_mono X Y X' Y' f g l b = record {
    one = b.one;
    other = b.other;
    joined = b.joined;
    of_one = f b.one b.of_one;
    of_other = g b.other b.of_other;
  }

  pub places_mono : (p : Plan) (P Q : S → Type 0) → ((s : S) → P s → Q s) → (l : List Place) → HolePlaces m p Q l
      → HolePlaces m p P l
  places_mono Nothing P Q inside l h = h
  places_mono Nowhere P Q inside l h = h
  places_mono (StaticText at text) P Q inside l h = h
  places_mono (Hole at classes) P Q inside l h = (h.0, h.1, (λ s k. h.2 s (inside s k)))
  places_mono (Then p q) P Q inside l h =
      both_mono (HolePlaces m p Q) (HolePlaces m q (StandsAfter m p Q)) (HolePlaces m p P)
      (HolePlaces m q (StandsAfter m p P)) (places_mono p P Q inside)
      (places_mono q (StandsAfter m p P) (StandsAfter m p Q) (post_mono m p P Q inside)) l h
  places_mono (Either p q) P Q inside l h = both_mono (HolePlaces m p Q) (HolePlaces m q Q) (HolePlaces m p P)
      (HolePlaces m q P) (places_mono p P Q inside) (places_mono q P Q inside) l h
  places_mono (Meet at p) P Q inside l h = places_mono p P Q inside l h
  places_mono (Loop at p) P Q inside l h = places_mono p (StandsAfter m (Loop at p) P) (StandsAfter m (Loop at p) Q)
      (post_mono m (Loop at p) P Q inside) l h
  places_mono (Frame kind at p) P Q inside l h = h

-- places after those that were there
pub record AddsPlaces {S : Type 0} (m : Machine S) (p : Plan) (xs : List S) (old new : List Place) : Type 0 where
  pub more : List Place
  pub is : new ≡ old ++ more
  pub of_holes : HolePlaces m p (λ s. IsMember s xs) more

module _ {S : Type 0} (m : Machine S) (compares : ComparesEqual m) where
  none : (p : Plan) (xs : List S) (old new : List Place) → old ≡ new → HolePlaces m p (λ s. IsMember s xs) []
      → AddsPlaces m p xs old new
  none p xs old new e h = record { more = []; is = sym e ∙ sym (append-nil old); of_holes = h }

  two : (p q r : Plan) (xs ys : List S) (old mid new : List Place) (a : AddsPlaces m p xs old mid)
      (b : AddsPlaces m q ys mid new)
      → (HolePlaces m p (λ s. IsMember s xs) a.more → HolePlaces m q (λ s. IsMember s ys) b.more
      → HolePlaces m r (λ s. IsMember s xs) (a.more ++ b.more)) → AddsPlaces m r xs old new
  two p q r xs ys old mid new a b f = record {
    more = a.more ++ b.more;
    is = b.is ∙ (ap (λ l. l ++ b.more) a.is ∙ append_assoc old a.more b.more);
    of_holes = f a.of_holes b.of_holes;
  }

  -- a loop's places are those of its last turn
  turns_add_places : (at : Site) (p : Plan)
      → ((w v : Walked S) → walk m p w ≡ Ok v → AddsPlaces m p w.states w.places v.places) → (n : ℕ) (w v : Walked S)
      → turns m (λ u. walk m p u) at n w ≡ Ok v → AddsPlaces m p v.states w.places v.places
  unfolding turns
  turns_add_places at p ih zero w v h = let no : ⊥ = cc in absurd no
  turns_add_places at p ih (suc n) w v h =
      let r : (u : Walked S) × (walk m p w ≡ Ok u)
      × (after_turn m (λ u. turns m (λ z. walk m p z) at n u) at w u (joined_states m w.states u.states) ≡ Ok v) =
      followed_ok (walk m p w) (λ u. after_turn m (λ z. turns m (λ y. walk m p y) at n z) at w u
      (joined_states m w.states u.states)) v h in
      let more = joined_states m w.states r.0.states in
      let c : (nat_lt 16 (length more) ≡ false)
      × ((((length more == length w.states) ≡ true) × (record { states = w.states; places = r.0.places } ≡ v))
      ⊎ (turns m (λ z. walk m p z) at n (record { states = more; places = w.places }) ≡ Ok v)) =
      turned_if m compares (nat_lt 16 (length more)) (length more == length w.states) at
      (record { states = w.states; places = r.0.places }) v
      (turns m (λ z. walk m p z) at n (record { states = more; places = w.places })) r.2 in
      elim c.1 [
        | inl k ↦ subst (λ (z : Walked S). AddsPlaces m p z.states w.places z.places) k.1 (ih w r.0 r.1)
        | inr k ↦ turns_add_places at p ih n (record { states = more; places = w.places }) v k
      ]

  pub adds_places : (p : Plan) (w v : Walked S) → walk m p w ≡ Ok v → AddsPlaces m p w.states w.places v.places
  adds_places Nothing w v h =
      none Nothing w.states w.places v.places (ap (λ (z : Walked S). z.places) (ok_same w v h)) refl
  adds_places Nowhere w v h =
      none Nowhere w.states w.places v.places
      (ap (λ (z : Walked S). z.places) (ok_same (record { states = []; places = w.places }) v h)) refl
  adds_places (StaticText at text) w v h =
      let r : (ts : List S) × (met_at at (states_after_text m text w.states) ≡ Ok ts)
      × (Ok (record { states = ts; places = w.places }) ≡ Ok v) =
      followed_ok (met_at at (states_after_text m text w.states))
      (λ ts. Ok (record { states = ts; places = w.places })) v h in
      none (StaticText at text) w.states w.places v.places
      (ap (λ (z : Walked S). z.places) (ok_same (record { states = r.0; places = w.places }) v r.2)) refl
  adds_places (Hole at classes) w v h =
      let r : (q : Place) × (place_of_hole m at classes w.states ≡ Ok q)
      × (Ok (record { states = states_after_value m w.states; places = w.places ++ (q ∷ []) }) ≡ Ok v) =
      followed_ok (place_of_hole m at classes w.states)
      (λ q. Ok (record { states = states_after_value m w.states; places = w.places ++ (q ∷ []) })) v h in
      record {
        more = r.0 ∷ [];
        is = sym (ap (λ (z : Walked S). z.places)
            (ok_same (record { states = states_after_value m w.states; places = w.places ++ (r.0 ∷ []) }) v r.2));
        of_holes = (r.0, refl, (λ s k. (all_placed m compares at classes w.states r.0 r.1 s k).0));
      }
  adds_places (Then p q) w v h =
      let r : (u : Walked S) × (walk m p w ≡ Ok u) × (walk m q u ≡ Ok v) = followed_ok (walk m p w) (λ u. walk m q u)
      v h in
      let a : AddsPlaces m p w.states w.places r.0.places = adds_places p w r.0 r.1 in
      let b : AddsPlaces m q r.0.states r.0.places v.places = adds_places q r.0 v r.2 in
      let s : Sound m p w.states r.0.states = sound m compares p w r.0 r.1 in
      two p q (Then p q) w.states r.0.states w.places r.0.places v.places a b (λ x y. record {
        one = a.more;
        other = b.more;
        joined = refl;
        of_one = x;
        of_other = places_mono m q (StandsAfter m p (λ s. IsMember s w.states)) (λ s. IsMember s r.0.states) s.to
            b.more y;
      })
  adds_places (Either p q) w v h =
      let r : (u : Walked S) × (walk m p w ≡ Ok u)
      × (followed_by (walk m q (record { states = w.states; places = u.places }))
      (λ z. Ok (record { states = joined_states m u.states z.states; places = z.places })) ≡ Ok v) =
      followed_ok (walk m p w) (λ u. followed_by (walk m q (record { states = w.states; places = u.places }))
      (λ z. Ok (record { states = joined_states m u.states z.states; places = z.places }))) v h in
      let c : (z : Walked S) × (walk m q (record { states = w.states; places = r.0.places }) ≡ Ok z)
      × (Ok (record { states = joined_states m r.0.states z.states; places = z.places }) ≡ Ok v) =
      followed_ok (walk m q (record { states = w.states; places = r.0.places }))
      (λ z. Ok (record { states = joined_states m r.0.states z.states; places = z.places })) v r.2 in
      let a : AddsPlaces m p w.states w.places r.0.places = adds_places p w r.0 r.1 in
      let b : AddsPlaces m q w.states r.0.places c.0.places =
      adds_places q (record { states = w.states; places = r.0.places }) c.0 c.1 in
      let e : c.0.places ≡ v.places =
      ap (λ (z : Walked S). z.places)
      (ok_same (record { states = joined_states m r.0.states c.0.states; places = c.0.places }) v c.2) in
      subst (λ l. AddsPlaces m (Either p q) w.states w.places l) e
      (two p q (Either p q) w.states w.states w.places r.0.places c.0.places a b
      (λ x y. record { one = a.more; other = b.more; joined = refl; of_one = x; of_other = y }))
  adds_places (Meet at p) w v h =
      let r : (u : Walked S) × (walk m p w ≡ Ok u) × (within_limit m at u ≡ Ok v) =
      followed_ok (walk m p w) (λ u. within_limit m at u) v h in
      let c : (length r.0.states ≤ 16) × (r.0 ≡ v) = limited_ok m compares at r.0 v r.2 in
      let a : AddsPlaces m p w.states w.places r.0.places = adds_places p w r.0 r.1 in
      record { more = a.more; is = sym (ap (λ (z : Walked S). z.places) c.1) ∙ a.is; of_holes = a.of_holes }
  adds_places (Loop at p) w v h =
      let a : AddsPlaces m p v.states w.places v.places = turns_add_places at p (λ w v h. adds_places p w v h) 17 w v
      h in
      let s : Sound m (Loop at p) w.states v.states = sound m compares (Loop at p) w v h in
      record {
        more = a.more;
        is = a.is;
        of_holes = places_mono m p (StandsAfter m (Loop at p) (λ s. IsMember s w.states)) (λ s. IsMember s v.states)
            s.to a.more a.of_holes;
      }
  adds_places (Frame kind at p) w v h =
      let r : (u : Walked S) × (walk m p (record { states = m.start kind ∷ []; places = w.places }) ≡ Ok u)
      × (frame_end m kind at w.states u ≡ Ok v) =
      followed_ok (walk m p (record { states = m.start kind ∷ []; places = w.places }))
      (λ u. frame_end m kind at w.states u) v h in
      let c : (all_may_end m kind r.0.states ≡ true) × (record { states = w.states; places = r.0.places } ≡ v) =
      ended_if m compares (all_may_end m kind r.0.states) at (record { states = w.states; places = r.0.places }) v
      r.2 in
      let a : AddsPlaces m p (m.start kind ∷ []) w.places r.0.places =
      adds_places p (record { states = m.start kind ∷ []; places = w.places }) r.0 r.1 in
      record {
        more = a.more;
        is = sym (ap (λ (z : Walked S). z.places) c.1) ∙ a.is;
        of_holes = places_mono m p (λ s. s ≡ m.start kind) (λ s. IsMember s (m.start kind ∷ [])) (λ s k. inl k)
            a.more a.of_holes;
      }

  -- those that were there stand first
  pub places_kept : (p : Plan) (w v : Walked S) → walk m p w ≡ Ok v → take (length w.places) v.places ≡ w.places
  places_kept p w v h = let a : AddsPlaces m p w.states w.places v.places = adds_places p w v h in
      ap (λ l. take (length w.places) l) a.is ∙ take_at w.places a.more (length w.places) refl
