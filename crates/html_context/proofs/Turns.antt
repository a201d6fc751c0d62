-- One turn of a loop.
use Rattle.std.proofs.Common.{◌≡◌, ℕ, suc, ◌+◌, ◌-◌, ◌≤◌, ◌<◌, Bool, true, false, List, [], ◌∷◌, ◌++◌}
use Rattle.std.proofs.Common.{Result, Ok, Err, length, take, refl, sym, ap, ◌∙◌, subst, arith}
use Rattle.std.proofs.Common.{length-append, lt-ltb, le-ltb, eq-eqb}
use Rattle.std.proofs.lemmas.List.{length-take-le, length-take, take_at}
use Rattle.std.proofs.lemmas.Bool.{ne_eqb}
use Rattle.std.specs.Prelude.{nat_lt, ◌==◌, if◌then◌else◌}
use Rattle.soy_base.specs.declared.code.Code.TheVariants as code
use Rattle.soy_base.specs.declared.memory.Refusal.{Refusal}
use Rattle.soy_base.specs.declared.memory.Refusal.TheVariants.{Because, OutOfMemory}
use Rattle.soy_base.specs.declared.place.Place.{Place}
use Rattle.html_state.specs.declared.row.State.{State}
use Rattle.soy_rules.specs.Faults.{followed_by}
use Rattle.soy_meaning.specs.Walks.Machine.{Machine}
use Rattle.soy_meaning.specs.Walks.PageMachine.{page_machine}
use Rattle.soy_meaning.specs.Paths.Plan.{Plan}
use Rattle.soy_pieces.specs.Site.{Site}
use Rattle.soy_meaning.specs.Walks.States.{has_state, joined_states, with_state}
use Rattle.soy_meaning.specs.Walks.Walk.{WalkFault, Walked, after_turn, turns, walk, walk_fault, walked}
use Rattle.soy_meaning.proofs.Walks.AddsPlaces.{AddsPlaces, adds_places}
use Rattle.soy_meaning.proofs.Walks.PageStates.{page_compares}
use Rattle.html_context.specs.declared.fault.FirstFault.{FirstFault}
use Rattle.html_context.specs.Walks.{Walks}

module _ {S : Type 0} (m : Machine S) where
  kept_if : (b : Bool) (y : S) (xs : List S) → length (if b then xs else xs ++ (y ∷ [])) ≡ length xs
      → (if b then xs else xs ++ (y ∷ [])) ≡ xs
  kept_if true y xs h = refl
  kept_if false y xs h = let no : ⊥ = omega (arith, length-append xs (y ∷ []), h) in absurd no

  long_if : (b : Bool) (y : S) (xs : List S) → length xs ≤ length (if b then xs else xs ++ (y ∷ []))
  long_if true y xs = omega arith
  long_if false y xs = omega (arith, length-append xs (y ∷ []))

  long_join : (xs ys : List S) → length xs ≤ length (joined_states m xs ys)
  long_join xs [] = omega arith
  long_join xs (y ∷ ys) = omega (arith, long_if (has_state m y xs) y xs, long_join (with_state m xs y) ys)

  -- what adds nothing leaves the list
  pub join_unchanged : (xs ys : List S) → length (joined_states m xs ys) ≡ length xs → joined_states m xs ys ≡ xs
  join_unchanged xs [] h = refl
  join_unchanged xs (y ∷ ys) h =
      let short : length (with_state m xs y) ≡ length xs = omega (
        arith,
        h,
        long_if (has_state m y xs) y xs,
        long_join
            (with_state m xs y) ys,
      ) in
      let rest : length (joined_states m (with_state m xs y) ys) ≡ length (with_state m xs y) = omega
      (arith, h, short) in
      join_unchanged (with_state m xs y) ys rest ∙ kept_if (has_state m y xs) y xs short

  turns_deeper : (body : Walked S → Result (Walked S) WalkFault) (at : Site) (n : ℕ) (head : Walked S) → 0 < n
      → turns m body at n head ≡ followed_by (body head) (λ w. after_turn m (λ u. turns m body at (n - 1) u) at head w
      (joined_states m head.states w.states))
  unfolding turns
  turns_deeper body at n head some = let e : n ≡ suc (n - 1) = omega arith in ap (λ k. turns m body at k head) e

  pub turns_none : (body : Walked S → Result (Walked S) WalkFault) (at : Site) (n : ℕ) (head : Walked S) → n ≡ 0
      → turns m body at n head ≡ Err (walk_fault at code.States)
  unfolding turns
  turns_none body at n head e = ap (λ k. turns m body at k head) e

  step : (body : Walked S → Result (Walked S) WalkFault) (at : Site) (n : ℕ) (head w : Walked S) → 0 < n
      → body head ≡ Ok w
      → turns m body at n head ≡ after_turn m (λ u. turns m body at (n - 1) u) at head w
      (joined_states m head.states w.states)
  step body at n head w some e = turns_deeper body at n head some ∙ rw e refl

  turn_full : (body : Walked S → Result (Walked S) WalkFault) (at : Site) (n : ℕ) (head w : Walked S) → 0 < n
      → body head ≡ Ok w → 16 < length (joined_states m head.states w.states)
      → turns m body at n head ≡ Err (walk_fault at code.States)
  turn_full body at n head w some e big =
      let a : nat_lt 16 (length (joined_states m head.states w.states))
      ≡ true = lt-ltb 16 (length (joined_states m head.states w.states)) big in step body at n head w some e ∙ rw a refl

  turn_stops : (body : Walked S → Result (Walked S) WalkFault) (at : Site) (n : ℕ) (head w : Walked S) → 0 < n
      → body head ≡ Ok w → length (joined_states m head.states w.states) ≤ 16
      → length (joined_states m head.states w.states) ≡ length head.states
      → turns m body at n head ≡ Ok (walked (joined_states m head.states w.states) w.places)
  turn_stops body at n head w some e small same =
      let a : nat_lt 16 (length (joined_states m head.states w.states))
      ≡ false = le-ltb 16 (length (joined_states m head.states w.states)) small in
      let b : (length (joined_states m head.states w.states) == length head.states)
      ≡ true = eq-eqb (length (joined_states m head.states w.states)) (length head.states) same in
      let now : after_turn m (λ u. turns m body at (n - 1) u) at head w (joined_states m head.states w.states)
      ≡ Ok (walked head.states w.places) = rw (a, b) refl in
      step body at n head w some e ∙ (now ∙ ap (λ xs. Ok (walked xs w.places))
      (sym (join_unchanged head.states w.states same)))

  turn_again : (body : Walked S → Result (Walked S) WalkFault) (at : Site) (n : ℕ) (head w : Walked S) → 0 < n
      → body head ≡ Ok w → length (joined_states m head.states w.states) ≤ 16
      → (length (joined_states m head.states w.states) ≡ length head.states → ⊥)
      → turns m body at n head ≡ turns m body at (n - 1) (walked (joined_states m head.states w.states) head.places)
  turn_again body at n head w some e small more =
      let a : nat_lt 16 (length (joined_states m head.states w.states))
      ≡ false = le-ltb 16 (length (joined_states m head.states w.states)) small in
      let b : (length (joined_states m head.states w.states) == length head.states)
      ≡ false = ne_eqb (length (joined_states m head.states w.states)) (length head.states) more in
      step body at n head w some e ∙ rw (a, b) refl

stops : (r : Result (Walked State) WalkFault) (f : Walked State → Result (Walked State) WalkFault)
    (old new : List Place) (e : Refusal FirstFault) → Walks r old (Err e) → Walks (followed_by r f) new (Err e)
stops r f old new (Because x) h = rw h
stops r f old new OutOfMemory h = tt

-- along an equation of the whole
stops_at : (r whole : Result (Walked State) WalkFault) (f : Walked State → Result (Walked State) WalkFault)
    (old new : List Place) (e : Refusal FirstFault) → followed_by r f ≡ whole → Walks r old (Err e)
    → Walks whole new (Err e)
stops_at r whole f old new e is h = subst (λ (w : Result (Walked State) WalkFault). Walks w new (Err e)) is
    (stops r f old new e h)

turn_fails : (body : Walked State → Result (Walked State) WalkFault) (at : Site) (n : ℕ) (head : Walked State)
    (whole : Result (Walked State) WalkFault) (old new : List Place) (e : Refusal FirstFault) → 0 < n
    → turns page_machine body at n head ≡ whole → Walks (body head) old (Err e) → Walks whole new (Err e)
turn_fails body at n head whole old new e some is h =
    stops_at (body head) whole (λ w. after_turn page_machine (λ u. turns page_machine body at (n - 1) u) at head w
    (joined_states page_machine head.states w.states)) old new e (sym (turns_deeper page_machine body at n head some)
    ∙ is) h

-- the walk keeps the places that were there
places_kept : (p : Plan) (w v : Walked State) → walk page_machine p w ≡ Ok v
    → take (length w.places) v.places ≡ w.places
places_kept p w v h =
    let a : AddsPlaces page_machine p w.states w.places v.places = adds_places page_machine page_compares p w v h in
    ap (λ l. take (length w.places) l) a.is ∙ take_at w.places a.more (length w.places) refl

-- one turn of the loop in code: `ys` and `zs` are copies, and `js` is the joined list
module _ (p : Plan) (at : Site) (turn mark : ℕ) (xs : List State) (pl : List Place)
    (whole : Result (Walked State) WalkFault) (ys : List State) (zs : List Place) where
  abbrev pub Stays : Type 0
  Stays = (turn < 17) × (turns page_machine (λ v. walk page_machine p v) at (17 - turn) (walked xs (take mark pl))
      ≡ whole) × (ys ≡ xs) × (zs ≡ take mark pl)

  pub looped_fails : Stays → (old new : List Place) (e : Refusal FirstFault)
      → Walks (walk page_machine p (walked ys zs)) old (Err e) → Walks whole new (Err e)
  looped_fails s old new e h =
      turn_fails (λ v. walk page_machine p v) at (17 - turn) (walked xs (take mark pl)) whole old new e (omega arith)
      s.1
      (subst (λ (z : Walked State). Walks (walk page_machine p z) old (Err e))
      (ap (λ l. walked l zs) s.2 ∙ ap (λ l. walked xs l) s.3) h)

  went : Stays → (us : List State) (new : List Place) → walk page_machine p (walked ys zs) ≡ Ok (walked us new)
      → walk page_machine p (walked xs (take mark pl)) ≡ Ok (walked us new)
  went s us new h = subst (λ (z : Walked State). walk page_machine p z ≡ Ok (walked us new))
      (ap (λ l. walked l zs) s.2 ∙ ap (λ l. walked xs l) s.3) h

  pub looped_full : Stays → (us js : List State) (new : List Place)
      → walk page_machine p (walked ys zs) ≡ Ok (walked us new) → js ≡ joined_states page_machine xs us → 16 < length js
      → whole ≡ Err (walk_fault at code.States)
  looped_full s us js new h j big =
      sym s.1 ∙ turn_full page_machine (λ v. walk page_machine p v) at (17 - turn) (walked xs (take mark pl))
      (walked us new) (omega arith) (went s us new h) (subst (λ l. 16 < length l) j big)

  pub looped_stops : Stays → (us js : List State) (new : List Place)
      → walk page_machine p (walked ys zs) ≡ Ok (walked us new) → js ≡ joined_states page_machine xs us → length js ≤ 16
      → length js ≡ length xs → whole ≡ Ok (walked js new)
  looped_stops s us js new h j small same =
      sym s.1 ∙ (turn_stops page_machine (λ v. walk page_machine p v) at (17 - turn) (walked xs (take mark pl))
      (walked us new) (omega arith) (went s us new h) (subst (λ l. length l ≤ 16) j small)
      (subst (λ l. length l ≡ length xs) j same)
      ∙ ap (λ l. Ok (walked l new)) (sym j))

  kept : Stays → mark ≤ length pl → (us : List State) (new : List Place)
      → walk page_machine p (walked ys zs) ≡ Ok (walked us new) → take mark new ≡ take mark pl
  kept s fits us new h =
      let k : take (length (take mark pl)) new ≡ take mark pl = places_kept p (walked xs (take mark pl)) (walked us new)
      (went s us new h) in
      let e : length (take mark pl) ≡ mark = length-take-le mark pl fits in
      ap (λ n. take n new) (sym e) ∙ k

  pub looped_fits : Stays → mark ≤ length pl → (us : List State) (new : List Place)
      → walk page_machine p (walked ys zs) ≡ Ok (walked us new) → mark ≤ length new
  looped_fits s fits us new h =
      let k : length (take mark new) ≡ length (take mark pl) = ap length (kept s fits us new h) in
      omega (arith, k, length-take mark new, length-take mark pl)

  pub looped_again : Stays → mark ≤ length pl → (us js : List State) (new : List Place)
      → walk page_machine p (walked ys zs) ≡ Ok (walked us new) → js ≡ joined_states page_machine xs us → length js ≤ 16
      → (length js ≡ length xs → ⊥)
      → turns page_machine (λ v. walk page_machine p v) at (17 - (turn + 1)) (walked js (take mark new)) ≡ whole
  looped_again s fits us js new h j small more =
      let prefix : take mark new ≡ take mark pl = kept s fits us new h in
      let next : turns page_machine (λ v. walk page_machine p v) at (17 - turn) (walked xs (take mark pl))
      ≡ turns page_machine (λ v. walk page_machine p v) at (17 - turn - 1)
      (walked (joined_states page_machine xs us) (take mark pl)) =
      turn_again page_machine (λ v. walk page_machine p v) at (17 - turn) (walked xs (take mark pl)) (walked us new)
      (omega arith) (went s us new h) (subst (λ l. length l ≤ 16) j small) (λ e. more (ap length j ∙ e)) in
      let count : 17 - (turn + 1) ≡ 17 - turn - 1 = omega arith in
      ap (λ k. turns page_machine (λ v. walk page_machine p v) at k (walked js (take mark new))) count
      ∙ (ap (λ l. turns page_machine (λ v. walk page_machine p v) at (17 - turn - 1) (walked l (take mark new))) j
      ∙ (ap (λ l. turns page_machine (λ v. walk page_machine p v) at (17 - turn - 1)
      (walked (joined_states page_machine xs us) l)) prefix ∙ (sym next ∙ s.1)))
