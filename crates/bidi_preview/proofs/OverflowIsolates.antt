-- Any matched isolate of a line gives back the status before it. What stands inside has higher levels, or, where the
-- isolate overflows, all of it has the same level.
use Rattle.std.proofs.Common.{◌≡◌, ℕ, suc, ◌+◌, ◌-◌, Bool, true, false, ◌==◌, ◌&&◌, nat_le, inl, inr, List, [], ◌∷◌}
use Rattle.std.proofs.Common.{◌++◌, map, length, refl, ap, ◌∙◌, arith, Option, Some, None}
use Rattle.std.proofs.lemmas.Bool.{cond-true, cond-false, cases_Bool, lt-ltb, ne_eqb}
use Rattle.bidi_class.specs.Class.{bidi_class}
use Rattle.bidi_class.specs.Pairs.{is_initiator, is_closing}
use Rattle.bidi_order.specs.DirectionalStatus.{DirectionalStatus, top_entry, next_level, ExplicitAct, has_room}
use Rattle.bidi_order.specs.DirectionalStatus.{status_after}
use Rattle.bidi_order.specs.DirectionalStatus.ExplicitAct.{Isolates, EndsIsolate}
use Rattle.bidi_order.specs.Explicit.{KeptCharacter, explicit_character, act_of_character, explicit_from}
use Rattle.bidi_order.proofs.RestoredStatus.{Matched, Other, act_of_class-begins, act_of_class-ends}
use Rattle.bidi_order.proofs.RestoredStatus.{act_of_class-other}
use Rattle.bidi_order.proofs.RestoredStatus.{opening, closing, Value, valid}
use Rattle.bidi_order.proofs.RestoredStatus.Matched.{matched_end, matched_opens, matched_ends, matched_plain}
use Rattle.bidi_order.proofs.RestoredStatus.Other.{other_embeds, other_pops, other_drops, other_stands}

-- each kept character has the level
pub data AllAt (level : ℕ) : List (Option KeptCharacter) → Type 0 where
  at_end : AllAt level []
  at_none : {V : List (Option KeptCharacter)} → AllAt level V → AllAt level (None ∷ V)
  at_some : {k : KeptCharacter} {V : List (Option KeptCharacter)} → k.level ≡ level → AllAt level V
      → AllAt level (Some k ∷ V)

-- a status with so many more overflow isolates
abbrev pub overflowed : DirectionalStatus → ℕ → DirectionalStatus
overflowed s n = record s { overflow_isolates = s.overflow_isolates + n }

has_room-overflowed : (level n : ℕ) (s : DirectionalStatus) → has_room level (overflowed s (suc n)) ≡ false
has_room-overflowed level n s = go (nat_le level 125) (s.overflow_isolates + suc n == 0) (s.overflow_embeddings == 0)
    (ne_eqb (s.overflow_isolates + suc n) 0 (λ e. omega arith))
  where
    go : (a b c : Bool) → b ≡ false → (a && (b && c)) ≡ false
    go true b c e = ap (λ b. b && c) e
    go false b c e = refl

same_count : (s : DirectionalStatus) (m n : ℕ) → m ≡ n → record s { overflow_isolates = m }
    ≡ record s { overflow_isolates = n }
same_count s m n e = ap (λ (k : ℕ). record s { overflow_isolates = k }) e

status_after-overflowed : (a : ExplicitAct) (n : ℕ) (s : DirectionalStatus) → Other a
    → status_after a (overflowed s (suc n)) ≡ overflowed s (suc n)
status_after-overflowed a n s (other_embeds b o) =
    cond-false _ _ _ (has_room-overflowed (next_level b (top_entry s).level) n s)
    ∙ cond-false _ _ _ (ne_eqb (s.overflow_isolates + suc n) 0 (λ e. omega arith))
status_after-overflowed a n s other_pops = cond-true _ _ _ (lt-ltb 0 (s.overflow_isolates + suc n) (omega arith))
status_after-overflowed a n s other_drops = refl
status_after-overflowed a n s other_stands = refl

isolates-overflowed : (b : Bool) (n : ℕ) (s : DirectionalStatus) → status_after (Isolates b) (overflowed s (suc n))
    ≡ overflowed s (suc (suc n))
isolates-overflowed b n s = cond-false _ _ _ (has_room-overflowed (next_level b (top_entry s).level) n s)
    ∙ same_count s (s.overflow_isolates + suc n + 1) (s.overflow_isolates + suc (suc n)) (omega arith)

ends-overflowed : (n : ℕ) (s : DirectionalStatus) → status_after EndsIsolate (overflowed s (suc n)) ≡ overflowed s n
ends-overflowed n s = cond-true _ _ _ (lt-ltb 0 (s.overflow_isolates + suc n) (omega arith))
    ∙ same_count s (s.overflow_isolates + suc n - 1) (s.overflow_isolates + n) (omega arith)

overflowed-none : (s : DirectionalStatus) → overflowed s 0 ≡ s
overflowed-none s = same_count s (s.overflow_isolates + 0) s.overflow_isolates (omega arith)

-- what a text inside an overflow isolate gives
record Flat (d : ℕ) (s : DirectionalStatus) (v rest : List ℕ) : Type 0 where
  slots : List (Option KeptCharacter)
  is : explicit_from (overflowed s (suc d)) (v ++ rest) ≡ slots ++ explicit_from (overflowed s 1) rest
  flat : AllAt (top_entry s).level slots
  long : length slots ≡ length v

flat-more : (d e : ℕ) (s : DirectionalStatus) (c : ℕ) (cs rest : List ℕ) (a : ExplicitAct)
    → act_of_character c (cs ++ rest) ≡ a → status_after a (overflowed s (suc d)) ≡ overflowed s (suc e)
    → Flat e s cs rest
    → ((V : List (Option KeptCharacter)) → AllAt (top_entry s).level V
    → AllAt (top_entry s).level (explicit_character c a (overflowed s (suc d)) ∷ V)) → Flat d s (c ∷ cs) rest
flat-more d e s c cs rest a is to more level = record {
  slots = explicit_character c a (overflowed s (suc d)) ∷ more.slots;
  is = ap (λ a. explicit_character c a (overflowed s (suc d)) ∷ explicit_from (status_after a (overflowed s (suc d)))
      (cs ++ rest)) is
      ∙ ap (λ t. explicit_character c a (overflowed s (suc d)) ∷ explicit_from t (cs ++ rest)) to
      ∙ ap (λ l. explicit_character c a (overflowed s (suc d)) ∷ l) more.is;
  flat = level more.slots more.flat;
  long = ap suc more.long;
}

level-other : (c d : ℕ) (s : DirectionalStatus) (a : ExplicitAct) → Other a → (V : List (Option KeptCharacter))
    → AllAt (top_entry s).level V → AllAt (top_entry s).level (explicit_character c a (overflowed s (suc d)) ∷ V)
level-other c d s a (other_embeds b o) V l = at_none l
level-other c d s a other_pops V l = at_none l
level-other c d s a other_drops V l = at_none l
level-other c d s a other_stands V l = at_some refl l

flat_content : (d : ℕ) (s : DirectionalStatus) (v rest : List ℕ) → Matched d v → Flat d s v rest
flat_content d s v rest matched_end = record { slots = []; is = refl; flat = at_end; long = refl }
flat_content d s v rest (matched_opens {c = c} {cs = cs} b m) =
    let does = act_of_class-begins (bidi_class c) (map bidi_class (cs ++ rest)) b in
    flat-more d (suc d) s c cs rest (Isolates does.0) does.1 (isolates-overflowed does.0 d s)
    (flat_content (suc d) s cs rest m) (λ V l. at_some refl l)
flat_content d s v rest (matched_ends {d = e} {c = c} {cs = cs} b m) =
    flat-more (suc e) e s c cs rest EndsIsolate (act_of_class-ends (bidi_class c) (map bidi_class (cs ++ rest)) b)
    (ends-overflowed (suc e) s) (flat_content e s cs rest m)
    (λ V l. at_some (ap (λ t. (top_entry t).level) (ends-overflowed (suc e) s)) l)
flat_content d s v rest (matched_plain {c = c} {cs = cs} b e m) =
    let other = act_of_class-other (bidi_class c) (map bidi_class (cs ++ rest)) b e in
    flat-more d d s c cs rest (act_of_character c (cs ++ rest)) refl
    (status_after-overflowed (act_of_character c (cs ++ rest)) d s other) (flat_content d s cs rest m)
    (level-other c d s (act_of_character c (cs ++ rest)) other)

-- an isolate in overflow
pub record Overflow (s : DirectionalStatus) (i p : ℕ) (v back : List ℕ) : Type 0 where
  pub slots : List (Option KeptCharacter)
  pub is : explicit_from s (i ∷ (v ++ p ∷ back)) ≡ Some (opening s) ∷ (slots ++ Some (closing s) ∷ explicit_from s back)
  pub flat : AllAt (top_entry s).level slots
  pub long : length slots ≡ length v

pub overflow : (s : DirectionalStatus) (i p : ℕ) (v back : List ℕ) (b : Bool) → act_of_character i (v ++ p ∷ back)
    ≡ Isolates b → has_room (next_level b (top_entry s).level) s ≡ false → is_closing p ≡ true → Matched 0 v
    → Overflow s i p v back
unfolding opening closing
overflow s i p v back b does full ep m =
    let inside : Flat 0 s v (p ∷ back) = flat_content 0 s v (p ∷ back) m in
    let restored : status_after EndsIsolate (overflowed s 1) ≡ s = ends-overflowed 0 s ∙ overflowed-none s in
    record {
      slots = inside.slots;
      is = ap (λ a. explicit_character i a s ∷ explicit_from (status_after a s) (v ++ p ∷ back)) does
          ∙ ap (λ t. Some (opening s) ∷ explicit_from t (v ++ p ∷ back)) (cond-false _ _ _ full)
          ∙ ap (λ l. Some (opening s) ∷ l) (inside.is ∙ ap (λ l. inside.slots ++ l) (
          ap (λ a. explicit_character p a (overflowed s 1) ∷ explicit_from (status_after a (overflowed s 1)) back)
          (act_of_class-ends (bidi_class p) (map bidi_class back) ep)
          ∙ ap (λ t. Some (closing t) ∷ explicit_from t back) restored));
      flat = inside.flat;
      long = inside.long;
    }

-- any matched isolate of a line: in it the levels are higher, or in overflow all the same
pub data Isolate (s : DirectionalStatus) (i p : ℕ) (v back : List ℕ) : Type 0 where
  of_valid : Value s i p v back → Isolate s i p v back
  of_overflow : Overflow s i p v back → Isolate s i p v back

pub isolate : (s : DirectionalStatus) (i p : ℕ) (v back : List ℕ) → is_initiator i ≡ true → is_closing p ≡ true
    → Matched 0 v → Isolate s i p v back
isolate s i p v back bi ep m =
    let does = act_of_class-begins (bidi_class i) (map bidi_class (v ++ p ∷ back)) bi in
    elim (cases_Bool (has_room (next_level does.0 (top_entry s).level) s)) [
      | inl has ↦ of_valid (valid s i p v back does.0 does.1 has ep m)
      | inr full ↦ of_overflow (overflow s i p v back does.0 does.1 full ep m)
    ]
