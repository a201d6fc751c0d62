-- The PDIs that wait for an initiator, from the end of a line on (UAX #9, BD9).
use Rattle.std.proofs.Common.{◌≡◌, ℕ, zero, suc, ◌+◌, ◌<◌, ◌≤◌, true, List, [], ◌∷◌, drop, get_or}
use Rattle.std.proofs.Common.{length, refl}
use Rattle.std.proofs.Common.{sym, ap, subst, ◌∙◌, ◌==◌, arith, inl, inr, Option, Some, None}
use Rattle.std.proofs.lemmas.Bool.{both_ways, cases_Bool, eq-eqb, eqb-true}
use Rattle.std.proofs.lemmas.List.{get_or-set_other, get_or-set_same, length-replicate, length-set}
use Rattle.std.proofs.Math.ListN.{drop_of_length-le, replicate, set}
use Rattle.std.proofs.Math.Seq.{drop-cons}
use Rattle.soy_base.specs.Stacks.{Pops}
use Rattle.bidi_order.specs.Explicit.{KeptCharacter}
use Rattle.bidi_order.specs.Explicit.IsolateRole.{Initiates, Terminates, Neither}
use Rattle.bidi_order.specs.Sequences.{enters_isolate, step_past_isolate}
use Rattle.bidi_order.specs.Sequences.SequenceStep.{Take, Pass}
use Rattle.bidi_preview.specs.NextCharacter.{character_at, closing_from, matching_end}
use Rattle.bidi_preview.specs.SequenceSteps.{HasEnds, MatchedFrom, waiting_at}
use Rattle.bidi_preview.proofs.Following.{closing_from-step}
use Rattle.bidi_preview.proofs.Written.{kept-within}

-- for each number of open isolates the PDI that ends one more
abbrev pub AreWaiting : List ℕ → ℕ → List (Option KeptCharacter) → Type 0
AreWaiting waiting i rest = (n : ℕ) → waiting_at waiting n ≡ closing_from i n rest

pub waiting_none : (i : ℕ) → AreWaiting [] i []
waiting_none i n = refl

pub waiting_removed : (waiting : List ℕ) (i : ℕ) (rest : List (Option KeptCharacter)) → AreWaiting waiting (suc i) rest
    → AreWaiting waiting i (None ∷ rest)
waiting_removed waiting i rest h n = h n

pub waiting_neither : (waiting : List ℕ) (i : ℕ) (k : KeptCharacter) (rest : List (Option KeptCharacter))
    → k.role ≡ Neither → AreWaiting waiting (suc i) rest → AreWaiting waiting i (Some k ∷ rest)
waiting_neither waiting i k rest is h n = h n
    ∙ sym (closing_from-step i n k rest (Pass n) (ap (step_past_isolate n) is))

pub waiting_pushed : (waiting : List ℕ) (i : ℕ) (k : KeptCharacter) (rest : List (Option KeptCharacter))
    → k.role ≡ Terminates → AreWaiting waiting (suc i) rest → AreWaiting (i ∷ waiting) i (Some k ∷ rest)
waiting_pushed waiting i k rest is h zero = sym (closing_from-step i 0 k rest Take (ap (step_past_isolate 0) is))
waiting_pushed waiting i k rest is h (suc n) = h n
    ∙ sym (closing_from-step i (suc n) k rest (Pass n) (ap (step_past_isolate (suc n)) is))

pub waiting_popped : (top : ℕ) (waiting : List ℕ) (i : ℕ) (k : KeptCharacter) (rest : List (Option KeptCharacter))
    → k.role ≡ Initiates → AreWaiting (top ∷ waiting) (suc i) rest → AreWaiting waiting i (Some k ∷ rest)
waiting_popped top waiting i k rest is h n = h (suc n)
    ∙ sym (closing_from-step i n k rest (Pass (suc n)) (ap (step_past_isolate n) is))

pub waiting_empty : (i : ℕ) (k : KeptCharacter) (rest : List (Option KeptCharacter)) → k.role ≡ Initiates
    → AreWaiting [] (suc i) rest → AreWaiting [] i (Some k ∷ rest)
waiting_empty i k rest is h n = h (suc n)
    ∙ sym (closing_from-step i n k rest (Pass (suc n)) (ap (step_past_isolate n) is))

-- ---- by indexes

up : (i : ℕ) → i + 1 ≡ suc i
up i = omega arith

-- the rest of a line from an index on
rest_is : (line : List (Option KeptCharacter)) (i : ℕ) (x : Option KeptCharacter) → i < length line
    → character_at line i ≡ x → drop i line ≡ x ∷ drop (suc i) line
rest_is line i x h e = drop-cons line i None h ∙ ap (λ y. y ∷ drop (suc i) line) e

waits-next : (line : List (Option KeptCharacter)) (i : ℕ) (waiting : List ℕ)
    → ((n : ℕ) → waiting_at waiting n ≡ closing_from (i + 1) n (drop (i + 1) line))
    → AreWaiting waiting (suc i) (drop (suc i) line)
waits-next line i waiting h n = h n ∙ ap (λ m. closing_from m n (drop m line)) (up i)

-- what isn't an initiator needs no end
found-more : (line : List (Option KeptCharacter)) (i : ℕ) (waiting : List ℕ) (ends : List (Option ℕ))
    → MatchedFrom line (i + 1) waiting ends
    → ((k : KeptCharacter) → character_at line i ≡ Some k → enters_isolate k.role ≡ true → ⊥) → (j : ℕ)
    (k : KeptCharacter) → i ≤ j → character_at line j ≡ Some k → enters_isolate k.role ≡ true
    → get_or ends j None ≡ matching_end line j
found-more line i waiting ends m no_more j k h here enters =
    elim (cases_Bool (j == i)) [
      | inl same ↦ absurd (no_more k (subst (λ n. character_at line n ≡ Some k) (eqb-true j i same) here) enters)
      | inr other ↦ m.found j k (above (λ e. both_ways (j == i) other (eq-eqb j i e))) here enters
    ]
  where
    above : (j ≡ i → ⊥) → i + 1 ≤ j
    above differs = omega arith

of_some : {x y : KeptCharacter} → Some x ≡ Some y → x ≡ y
of_some e = cc

pub matched_removed : (line : List (Option KeptCharacter)) (i : ℕ) (waiting : List ℕ) (ends : List (Option ℕ))
    → i < length line → character_at line i ≡ None → MatchedFrom line (i + 1) waiting ends
    → MatchedFrom line i waiting ends
matched_removed line i waiting ends h gone m = record {
  long = m.long;
  waits = subst (AreWaiting waiting i) (sym (rest_is line i None h gone))
      (waiting_removed waiting i (drop (suc i) line) (waits-next line i waiting m.waits));
  found = found-more line i waiting ends m (λ k here enters. never (sym gone ∙ here));
}
  where
    never : {k : KeptCharacter} → None ≡ Some k → ⊥
    never e = cc

pub matched_neither : (line : List (Option KeptCharacter)) (i : ℕ) (waiting : List ℕ) (ends : List (Option ℕ))
    (k : KeptCharacter) → i < length line → character_at line i ≡ Some k → Neither ≡ k.role
    → MatchedFrom line (i + 1) waiting ends → MatchedFrom line i waiting ends
matched_neither line i waiting ends k h here role m = record {
  long = m.long;
  waits = subst (AreWaiting waiting i) (sym (rest_is line i (Some k) h here))
      (waiting_neither waiting i k (drop (suc i) line) (sym role) (waits-next line i waiting m.waits));
  found = found-more line i waiting ends m (λ q there enters. both_ways (enters_isolate q.role)
      (ap (λ (q : KeptCharacter). enters_isolate q.role) (of_some (sym there ∙ here))
      ∙ ap enters_isolate (sym role)) enters);
}

pub matched_pushed : (line : List (Option KeptCharacter)) (i : ℕ) (waiting : List ℕ) (ends : List (Option ℕ))
    (k : KeptCharacter) → i < length line → character_at line i ≡ Some k → Terminates ≡ k.role
    → MatchedFrom line (i + 1) waiting ends → MatchedFrom line i (i ∷ waiting) ends
matched_pushed line i waiting ends k h here role m = record {
  long = m.long;
  waits = subst (AreWaiting (i ∷ waiting) i) (sym (rest_is line i (Some k) h here))
      (waiting_pushed waiting i k (drop (suc i) line) (sym role) (waits-next line i waiting m.waits));
  found = found-more line i waiting ends m (λ q there enters. both_ways (enters_isolate q.role)
      (ap (λ (q : KeptCharacter). enters_isolate q.role) (of_some (sym there ∙ here))
      ∙ ap enters_isolate (sym role)) enters);
}

popped-waits : (old new : List ℕ) (popped : Option ℕ) (i : ℕ) (k : KeptCharacter) (rest : List (Option KeptCharacter))
    → Pops old new popped → k.role ≡ Initiates → AreWaiting old (suc i) rest → AreWaiting new i (Some k ∷ rest)
popped-waits old new None i k rest p role w =
    subst (λ l. AreWaiting l i (Some k ∷ rest)) (sym p.1)
    (waiting_empty i k rest role (subst (λ l. AreWaiting l (suc i) rest) p.0 w))
popped-waits old new (Some top) i k rest p role w =
    waiting_popped top new i k rest role (subst (λ l. AreWaiting l (suc i) rest) p w)

popped-top : (old new : List ℕ) (popped : Option ℕ) (i : ℕ) (rest : List (Option KeptCharacter))
    → Pops old new popped → AreWaiting old (suc i) rest → popped ≡ closing_from (suc i) 0 rest
popped-top old new None i rest p w = ap (λ l. waiting_at l 0) (sym p.0) ∙ w 0
popped-top old new (Some top) i rest p w = ap (λ l. waiting_at l 0) (sym p) ∙ w 0

pub matched_popped : (line : List (Option KeptCharacter)) (i : ℕ) (old new : List ℕ) (popped : Option ℕ)
    (ends : List (Option ℕ)) (k : KeptCharacter) → i < length line → character_at line i ≡ Some k
    → Initiates ≡ k.role → Pops old new popped → MatchedFrom line (i + 1) old ends
    → MatchedFrom line i new (set ends i popped)
matched_popped line i old new popped ends k h here role p m = record {
  long = length-set ends i popped ∙ m.long;
  waits = subst (AreWaiting new i) (sym (rest_is line i (Some k) h here))
      (popped-waits old new popped i k (drop (suc i) line) p (sym role) (waits-next line i old m.waits));
  found = λ j q low there enters. elim (cases_Bool (j == i)) [
    | inl same ↦ subst (λ n. get_or (set ends i popped) n None ≡ matching_end line n) (sym (eqb-true j i same))
        (get_or-set_same ends i popped None (omega (arith, m.long))
        ∙ popped-top old new popped i (drop (suc i) line) p (waits-next line i old m.waits))
    | inr other ↦ get_or-set_other ends i j popped None (λ e. both_ways (j == i) other (eq-eqb j i e))
        ∙ m.found j q (above low (λ e. both_ways (j == i) other (eq-eqb j i e))) there enters
  ];
}
  where
    above : {j : ℕ} → i ≤ j → (j ≡ i → ⊥) → i + 1 ≤ j
    above low differs = omega arith

pub matched_start : (line : List (Option KeptCharacter)) (i n : ℕ) → i ≡ length line → n ≡ length line
    → MatchedFrom line i [] (replicate n None)
matched_start line i n e long = record {
  long = length-replicate n None ∙ long;
  waits = λ m. sym (ap (closing_from i m) (drop_of_length-le line (omega arith)));
  found = λ j k low here enters. absurd (omega (arith, kept-within line j k here));
}

pub matched_end : (line : List (Option KeptCharacter)) (i : ℕ) (waiting : List ℕ) (ends : List (Option ℕ)) → i ≡ 0
    → MatchedFrom line i waiting ends → HasEnds line ends
matched_end line i waiting ends e m = record {
  long = m.long;
  match = λ j k here enters. m.found j k (omega arith) here enters;
}
