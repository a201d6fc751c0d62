-- The arms of a command, one after the other, and the walk of their plan.
use Rattle.std.proofs.Common.{◌≡◌, ℕ, suc, ◌+◌, ◌<◌, ◌≤◌, List, [], ◌∷◌, ◌++◌, ◌⊎◌, inl, inr, Result, Ok, Err, true}
use Rattle.std.proofs.Common.{map, drop, get_or, length, take, refl, sym, ap, subst, ◌∙◌, drop-cons, arith, lt-ltb}
use Rattle.std.proofs.lemmas.List.{drop_all, length-take, take_all}
use Rattle.std.specs.Prelude.{nat_lt}
use Rattle.soy_base.specs.declared.code.Code.TheVariants as code
use Rattle.std.specs.declared.alloc.Global.{Global}
use Rattle.std.specs.declared.vec.Vec.{Vec}
use Rattle.soy_base.specs.declared.memory.Refusal.{Refusal}
use Rattle.soy_base.specs.declared.memory.Refusal.TheVariants.{Because, OutOfMemory}
use Rattle.soy_base.specs.declared.place.Place.{Place}
use Rattle.html_state.specs.declared.row.State.{State}
use Rattle.soy_rules.specs.Faults.{followed_by}
use Rattle.soy_meaning.specs.Walks.PageMachine.{page_machine}
use Rattle.soy_meaning.specs.Paths.Plan.{Plan, Nowhere, Either, any_of, arms_meet}
use Rattle.soy_pieces.specs.Site.{Site}
use Rattle.soy_meaning.specs.Walks.States.{joined_states}
use Rattle.soy_meaning.specs.Walks.Walk.{WalkFault, Walked, walk, walk_fault, walked, within_limit}
use Rattle.soy_meaning.proofs.Members.{length_join}
use Rattle.soy_meaning.proofs.Walks.PageStates.{page_compares}
use Rattle.html_context.specs.JoinedArms.{joined_arm, joined_arms}
use Rattle.html_context.specs.Walks.{Walks}
use Rattle.html_context.specs.declared.fault.FirstFault.{FirstFault}

itself : {A E : Type 0} (r : Result A E) → r ≡ followed_by r (λ a. Ok a)
itself (Ok a) = refl
itself (Err e) = refl

either_arms : (before : List State) (r : Result (Walked State) WalkFault) (q : Plan) (qs : List Plan)
    → followed_by (followed_by r (λ v. followed_by (walk page_machine q (walked before v.places))
    (λ u. Ok (walked (joined_states page_machine v.states u.states) u.places)))) (λ v. joined_arms before v qs)
    ≡ followed_by r (λ v. joined_arms before v (q ∷ qs))
either_arms before (Ok v) q qs = refl
either_arms before (Err e) q qs = refl

walk_any_of : (qs : List Plan) (p : Plan) (w : Walked State) → walk page_machine (any_of p qs) w
    ≡ followed_by (walk page_machine p w) (λ v. joined_arms w.states v qs)
walk_any_of [] p w = itself (walk page_machine p w)
walk_any_of (q ∷ qs) p w = walk_any_of qs (Either p q) w ∙ either_arms w.states (walk page_machine p w) q qs

more_arms : (before : List State) (r : Result (Walked State) WalkFault) (ps qs : List Plan)
    → ((u : Walked State) → joined_arms before u (ps ++ qs) ≡ followed_by (joined_arms before u ps)
    (λ z. joined_arms before z qs))
    → followed_by r (λ u. joined_arms before u (ps ++ qs)) ≡ followed_by (followed_by r (λ u. joined_arms before u ps))
    (λ z. joined_arms before z qs)
more_arms before (Ok u) ps qs ih = ih u
more_arms before (Err e) ps qs ih = refl

joined_append : (before : List State) (v : Walked State) (ps qs : List Plan)
    → joined_arms before v (ps ++ qs) ≡ followed_by (joined_arms before v ps) (λ u. joined_arms before u qs)
joined_append before v [] qs = refl
joined_append before v (p ∷ ps) qs = more_arms before (joined_arm before v p) ps qs (λ u. joined_append before u ps qs)

last_arm : (before : List State) (r : Result (Walked State) WalkFault) (q : Plan)
    → followed_by r (λ u. joined_arms before u (q ∷ [])) ≡ followed_by r (λ u. joined_arm before u q)
last_arm before (Ok v) q = sym (itself (joined_arm before v q))
last_arm before (Err e) q = refl

-- a command whose arms are these
pub list_meets : (at : Site) (qs : List Plan) (before : List State) (places : List Place)
    → walk page_machine (arms_meet at qs) (walked before places) ≡ followed_by
    (joined_arms before (walked [] places) qs) (λ v. within_limit page_machine at v)
list_meets at qs before places = ap (λ r. followed_by r (λ v. within_limit page_machine at v))
    (walk_any_of qs Nowhere (walked before places))

-- arms, and the way past them
pub choice_all : (at : Site) (arms : List Plan) (past : Plan) (before : List State) (places : List Place)
    → walk page_machine (arms_meet at (arms ++ (past ∷ []))) (walked before places)
    ≡ followed_by (followed_by (joined_arms before (walked [] places) arms) (λ u. joined_arm before u past))
    (λ v. within_limit page_machine at v)
choice_all at arms past before places =
    list_meets at (arms ++ (past ∷ [])) before places
    ∙ ap (λ r. followed_by r (λ v. within_limit page_machine at v))
    (joined_append before (walked [] places) arms (past ∷ []) ∙ last_arm before
    (joined_arms before (walked [] places) arms) past)

-- the arms of two lists
pub two_lists_meet : (at : Site) (ps qs : List Plan) (before : List State) (places : List Place)
    → walk page_machine (arms_meet at (ps ++ qs)) (walked before places)
    ≡ followed_by (followed_by (joined_arms before (walked [] places) ps) (λ u. joined_arms before u qs))
    (λ v. within_limit page_machine at v)
two_lists_meet at ps qs before places =
    list_meets at (ps ++ qs) before places
    ∙ ap (λ r. followed_by r (λ v. within_limit page_machine at v)) (joined_append before (walked [] places) ps qs)

-- the source of a message, and its translations
pub message_all : (at : Site) (q : Plan) (qs : List Plan) (before : List State) (places : List Place)
    → walk page_machine (arms_meet at (q ∷ qs)) (walked before places)
    ≡ followed_by (followed_by (joined_arm before (walked [] places) q) (λ u. joined_arms before u qs))
    (λ v. within_limit page_machine at v)
message_all at q qs before places = list_meets at (q ∷ qs) before places

pub two_lists : (at : Site) (before : List State) (v : Walked State) (ps qs : List Plan)
    → followed_by (joined_arms before v (ps ++ qs)) (λ u. within_limit page_machine at u)
    ≡ followed_by (followed_by (joined_arms before v ps) (λ u. joined_arms before u qs))
    (λ u. within_limit page_machine at u)
two_lists at before v ps qs = ap (λ r. followed_by r (λ u. within_limit page_machine at u))
    (joined_append before v ps qs)

pub one_arm : (before : List State) (v : Walked State) (p : Plan) → joined_arms before v (p ∷ [])
    ≡ joined_arm before v p
one_arm before v p = sym (itself (joined_arm before v p))

-- ---- more states than may meet

abbrev limited : Site → Result (Walked State) WalkFault → Result (Walked State) WalkFault
limited at r = followed_by r (λ v. within_limit page_machine at v)

too_many : (at : Site) (w : Walked State) → 16 < length w.states
    → within_limit page_machine at w ≡ Err (walk_fault at code.States)
too_many at w h = let e : nat_lt 16 (length w.states) ≡ true = lt-ltb 16 (length w.states) h in rw e refl

-- which states they are says nothing
long_arm : (at : Site) (before : List State) (qs : List Plan) (xs ys : List State) (r : Result (Walked State) WalkFault)
    → ((u : Walked State) → limited at
    (joined_arms before (walked (joined_states page_machine xs u.states) u.places) qs)
    ≡ limited at (joined_arms before (walked (joined_states page_machine ys u.states) u.places) qs))
    → limited at (followed_by (followed_by r (λ u. Ok (walked (joined_states page_machine xs u.states) u.places)))
    (λ v. joined_arms before v qs))
    ≡ limited at (followed_by (followed_by r (λ u. Ok (walked (joined_states page_machine ys u.states) u.places)))
    (λ v. joined_arms before v qs))
long_arm at before qs xs ys (Err e) ih = refl
long_arm at before qs xs ys (Ok u) ih = ih u

long_arms : (at : Site) (before : List State) (qs : List Plan) (xs ys : List State) (places : List Place)
    → 16 < length xs → 16 < length ys
    → limited at (joined_arms before (walked xs places) qs) ≡ limited at (joined_arms before (walked ys places) qs)
long_arms at before [] xs ys places h k = too_many at (walked xs places) h ∙ sym (too_many at (walked ys places) k)
long_arms at before (q ∷ qs) xs ys places h k =
    long_arm at before qs xs ys (walk page_machine q (walked before places))
    (λ u. long_arms at before qs (joined_states page_machine xs u.states) (joined_states page_machine ys u.states)
    u.places (omega (arith, h, length_join page_machine page_compares xs u.states))
    (omega (arith, k, length_join page_machine page_compares ys u.states)))

few_or_long : (n : ℕ) → (n ≤ 17) ⊎ (17 < n)
few_or_long n = grind arith

-- the first 17 of them are as good
cut_arms : (at : Site) (before : List State) (qs : List Plan) (xs : List State) (places : List Place)
    → limited at (joined_arms before (walked (take 17 xs) places) qs)
    ≡ limited at (joined_arms before (walked xs places) qs)
cut_arms at before qs xs places = elim (few_or_long (length xs)) [
  | inl h ↦ ap (λ l. limited at (joined_arms before (walked l places) qs)) (take_all 17 xs h)
  | inr h ↦ long_arms at before qs (take 17 xs) xs places (omega (arith, h, length-take 17 xs)) (omega (arith, h))
]

-- ---- arms of a table

module _ (at : Site) (f : ℕ → Plan) (ns : List ℕ) (i : ℕ) (before : List State) (start : List Place)
    (joined : List State) (places : List Place) where
  -- some of them were walked
  abbrev pub SomeArms : Type 0
  SomeArms = followed_by (joined_arms before (walked joined places) (map f (drop i ns)))
      (λ v. within_limit page_machine at v)
      ≡ followed_by (joined_arms before (walked [] start) (map f ns)) (λ v. within_limit page_machine at v)

  pub meet_fails : i < length ns → SomeArms → (mid new : List Place) (e : Refusal FirstFault)
      → Walks (joined_arm before (walked joined places) (f (get_or ns i 0))) mid (Err e)
      → Walks (walk page_machine (arms_meet at (map f ns)) (walked before start)) new (Err e)
  meet_fails within is mid new (Because x) h =
      list_meets at (map f ns) before start
      ∙ (sym is ∙ ap (λ r. limited at r) (ap (λ l. joined_arms before (walked joined places) (map f l))
      (drop-cons ns i 0 within)
      ∙ ap (λ r. followed_by r (λ u. joined_arms before u (map f (drop (suc i) ns)))) h))
  meet_fails within is mid new OutOfMemory h = tt

  -- one more of them, of whose states the first 17 are kept
  pub meet_more : i < length ns → SomeArms → (after : List State) (new : List Place)
      → joined_arm before (walked joined places) (f (get_or ns i 0)) ≡ Ok (walked after new)
      → followed_by (joined_arms before (walked (take 17 after) new) (map f (drop (i + 1) ns)))
      (λ v. within_limit page_machine at v)
      ≡ followed_by (joined_arms before (walked [] start) (map f ns)) (λ v. within_limit page_machine at v)
  meet_more within is after new h =
      let next : suc i ≡ i + 1 = omega arith in
      let one : joined_arms before (walked joined places) (map f (drop i ns))
      ≡ joined_arms before (walked after new) (map f (drop (suc i) ns)) =
      ap (λ l. joined_arms before (walked joined places) (map f l)) (drop-cons ns i 0 within)
      ∙ ap (λ r. followed_by r (λ u. joined_arms before u (map f (drop (suc i) ns)))) h in
      ap (λ k. limited at (joined_arms before (walked (take 17 after) new) (map f (drop k ns)))) (sym next)
      ∙ (cut_arms at before (map f (drop (suc i) ns)) after new ∙ (sym (ap (λ r. limited at r) one) ∙ is))

  pub meet_ends : length ns ≤ i → SomeArms → (r : Result (Vec State Global) (Refusal FirstFault))
      → Walks (within_limit page_machine at (walked joined places)) places r
      → Walks (walk page_machine (arms_meet at (map f ns)) (walked before start)) places r
  meet_ends past is r h =
      subst (λ (z : Result (Walked State) WalkFault). Walks z places r)
      (sym (list_meets at (map f ns) before start
      ∙ (sym is ∙ ap (λ l. limited at (joined_arms before (walked joined places) (map f l))) (drop_all i ns past)))) h
