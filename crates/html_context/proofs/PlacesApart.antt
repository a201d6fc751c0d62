-- The walk does the same whatever places were there before.
use Rattle.std.proofs.Common.{◌≡◌, ℕ, zero, suc, Bool, true, false, List, [], ◌∷◌, ◌++◌, Result, Ok, Err, length, refl}
use Rattle.std.proofs.Common.{sym, ap, ◌∙◌}
use Rattle.std.proofs.Common.{append_assoc}
use Rattle.std.proofs.lemmas.List.{append-nil}
use Rattle.std.specs.Prelude.{nat_lt, ◌==◌, if◌then◌else◌}
use Rattle.soy_base.specs.declared.code.Code.TheVariants as code
use Rattle.soy_base.specs.declared.place.Place.{Place}
use Rattle.soy_rules.specs.Faults.{followed_by}
use Rattle.soy_meaning.specs.Walks.Machine.{Machine}
use Rattle.soy_meaning.specs.Paths.Plan.{Plan, Nothing, Nowhere, StaticText, Hole, Then, Either, Meet, Loop, Frame}
use Rattle.soy_pieces.specs.Site.{Site}
use Rattle.soy_meaning.specs.Walks.States.{joined_states}
use Rattle.soy_meaning.specs.Walks.Walk.{WalkFault, Walked, after_turn, all_may_end, frame_end, met_at, place_of_hole}
use Rattle.soy_meaning.specs.Walks.Walk.{states_after_text, states_after_value, turns, walk, walk_fault, walked}
use Rattle.soy_meaning.specs.Walks.Walk.{within_limit}

abbrev pub behind : {S : Type 0} → List Place → Walked S → Walked S
behind old w = walked w.states (old ++ w.places)

abbrev pub all_behind : {S : Type 0} → List Place → Result (Walked S) WalkFault → Result (Walked S) WalkFault
all_behind old (Ok w) = Ok (behind old w)
all_behind old (Err f) = Err f

module _ {S : Type 0} (m : Machine S) where
  then_behind : (old : List Place) (r : Result (Walked S) WalkFault) (f : Walked S → Result (Walked S) WalkFault)
      → ((v : Walked S) → f (behind old v) ≡ all_behind old (f v))
      → followed_by (all_behind old r) f ≡ all_behind old (followed_by r f)
  then_behind old (Ok v) f h = h v
  then_behind old (Err e) f h = refl

  -- along an equation of the first
  go : (old : List Place) (r s : Result (Walked S) WalkFault) (f : Walked S → Result (Walked S) WalkFault)
      → s ≡ all_behind old r → ((v : Walked S) → f (behind old v) ≡ all_behind old (f v))
      → followed_by s f ≡ all_behind old (followed_by r f)
  go old r s f e h = ap (λ x. followed_by x f) e ∙ then_behind old r f h

  states_behind : (old : List Place) (places : List Place) (r : Result (List S) WalkFault)
      → followed_by r (λ states. Ok (walked states (old ++ places)))
      ≡ all_behind old (followed_by r (λ states. Ok (walked states places)))
  states_behind old places (Ok ss) = refl
  states_behind old places (Err e) = refl

  place_behind : (old places : List Place) (ss : List S) (r : Result Place WalkFault)
      → followed_by r (λ point. Ok (walked ss ((old ++ places) ++ (point ∷ []))))
      ≡ all_behind old (followed_by r (λ point. Ok (walked ss (places ++ (point ∷ [])))))
  place_behind old places ss (Ok point) = ap (λ l. Ok (walked ss l)) (append_assoc old places (point ∷ []))
  place_behind old places ss (Err e) = refl

  if_behind : (b : Bool) (old : List Place) (f : WalkFault) (r s : Result (Walked S) WalkFault)
      → s ≡ all_behind old r → (if b then Err f else s) ≡ all_behind old (if b then Err f else r)
  if_behind true old f r s e = refl
  if_behind false old f r s e = e

  ok_behind : (b : Bool) (old : List Place) (f : WalkFault) (w : Walked S)
      → (if b then Ok (behind old w) else Err f) ≡ all_behind old (if b then Ok w else Err f)
  ok_behind true old f w = refl
  ok_behind false old f w = refl

  stop_behind : (b : Bool) (old : List Place) (w : Walked S) (r s : Result (Walked S) WalkFault)
      → s ≡ all_behind old r
      → (if b then Ok (behind old w) else s) ≡ all_behind old (if b then Ok w else r)
  stop_behind true old w r s e = refl
  stop_behind false old w r s e = e

  each_turn : (old : List Place) (at : Site) (head : Walked S) (again : Walked S → Result (Walked S) WalkFault)
      → ((v : Walked S) → again (behind old v) ≡ all_behind old (again v)) → (r : Result (Walked S) WalkFault)
      → followed_by (all_behind old r) (λ w. after_turn m again at (behind old head) w
      (joined_states m head.states w.states))
      ≡ all_behind old (followed_by r (λ w. after_turn m again at head w (joined_states m head.states w.states)))
  each_turn old at head again ih (Err e) = refl
  each_turn old at head again ih (Ok w) =
      let more = joined_states m head.states w.states in
      if_behind (nat_lt 16 (length more)) old (walk_fault at code.States)
      (if length more == length head.states then Ok (walked head.states w.places) else again (walked more head.places))
      (if length more == length head.states then Ok (walked head.states (old ++ w.places))
      else again (walked more (old ++ head.places)))
      (stop_behind (length more == length head.states) old (walked head.states w.places)
      (again (walked more head.places)) (again (walked more (old ++ head.places))) (ih (walked more head.places)))

  turns_behind : (body : Walked S → Result (Walked S) WalkFault) (at : Site) (old : List Place)
      → ((w : Walked S) → body (behind old w) ≡ all_behind old (body w)) → (n : ℕ) (head : Walked S)
      → turns m body at n (behind old head) ≡ all_behind old (turns m body at n head)
  unfolding turns
  turns_behind body at old h zero head = refl
  turns_behind body at old h (suc n) head =
      ap (λ x. followed_by x (λ w. after_turn m (λ u. turns m body at n u) at (behind old head) w
      (joined_states m head.states w.states))) (h head)
      ∙ each_turn old at head (λ u. turns m body at n u) (λ v. turns_behind body at old h n v) (body head)

  pub apart : (p : Plan) (old : List Place) (w : Walked S) → walk m p (behind old w) ≡ all_behind old (walk m p w)
  apart Nothing old w = refl
  apart Nowhere old w = refl
  apart (StaticText at text) old w = states_behind old w.places (met_at at (states_after_text m text w.states))
  apart (Hole at classes) old w =
      place_behind old w.places (states_after_value m w.states) (place_of_hole m at classes w.states)
  apart (Then p q) old w =
      go old (walk m p w) (walk m p (behind old w)) (λ v. walk m q v) (apart p old w) (λ v. apart q old v)
  apart (Either p q) old w =
      go old (walk m p w) (walk m p (behind old w))
      (λ v. followed_by (walk m q (walked w.states v.places))
      (λ u. Ok (walked (joined_states m v.states u.states) u.places)))
      (apart p old w)
      (λ v. go old (walk m q (walked w.states v.places)) (walk m q (walked w.states (old ++ v.places)))
      (λ u. Ok (walked (joined_states m v.states u.states) u.places)) (apart q old (walked w.states v.places))
      (λ u. refl))
  apart (Meet at p) old w =
      go old (walk m p w) (walk m p (behind old w)) (λ v. within_limit m at v) (apart p old w)
      (λ v. if_behind (nat_lt 16 (length v.states)) old (walk_fault at code.States) (Ok v) (Ok (behind old v)) refl)
  apart (Loop at p) old w = turns_behind (λ v. walk m p v) at old (λ v. apart p old v) 17 w
  apart (Frame kind at p) old w =
      go old (walk m p (walked (m.start kind ∷ []) w.places)) (walk m p (walked (m.start kind ∷ []) (old ++ w.places)))
      (λ v. frame_end m kind at w.states v) (apart p old (walked (m.start kind ∷ []) w.places))
      (λ v. ok_behind (all_may_end m kind v.states) old (walk_fault at code.EndState) (walked w.states v.places))

  -- what a walk from no place gives, behind those that are there
  pub apart_from_none : (p : Plan) (ss : List S) (old : List Place)
      → walk m p (walked ss old) ≡ all_behind old (walk m p (walked ss []))
  apart_from_none p ss old =
      ap (λ l. walk m p (walked ss l)) (sym (append-nil old)) ∙ apart p old (walked ss [])
