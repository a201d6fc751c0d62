-- The next kept character, one index at a time, and where a sequence goes on by it.
use Rattle.std.proofs.Common.{◌≡◌, ℕ, zero, suc, ◌+◌, ◌<◌, ◌≤◌, Bool, true, false, List, [], ◌∷◌, drop, get_or}
use Rattle.std.proofs.Common.{length}
use Rattle.std.proofs.Common.{refl, sym, ap, ◌∙◌, ◌==◌, if◌then◌else◌, arith, inl, inr, Option, Some, None}
use Rattle.std.proofs.lemmas.Bool.{both_ways, cases_Bool}
use Rattle.std.proofs.Math.ListN.{drop_of_length-le}
use Rattle.std.proofs.Math.Seq.{drop-cons}
use Rattle.std.specs.Option.{is_some}
use Rattle.bidi_order.specs.Explicit.{KeptCharacter}
use Rattle.bidi_order.specs.Sequences.{enters_isolate}
use Rattle.bidi_preview.specs.NextCharacter.{character_at, goes_past, leading_removed, matching_end}
use Rattle.bidi_preview.specs.NextCharacter.{next_character, next_from, next_kept}
use Rattle.bidi_preview.specs.NextCharacter.NextCharacter.{GoesOn, Ends}
use Rattle.bidi_preview.specs.SequenceSteps.{HasEnds}

pub kept_index : (X : List (Option KeptCharacter)) (i : ℕ) → is_some (get_or X i None) ≡ true → i < length X
kept_index [] i e = absurd (both_ways false refl e)
kept_index (x ∷ X) zero e = omega arith
kept_index (x ∷ X) (suc i) e = omega (arith, kept_index X i e)

leading-kept : (x : Option KeptCharacter) (rest : List (Option KeptCharacter)) → is_some x ≡ true
    → leading_removed (x ∷ rest) ≡ 0
leading-kept None rest e = absurd (both_ways false refl e)
leading-kept (Some k) rest e = refl

leading-later : (x : Option KeptCharacter) (rest : List (Option KeptCharacter)) → is_some x ≡ false
    → leading_removed (x ∷ rest) ≡ suc (leading_removed rest)
leading-later None rest e = refl
leading-later (Some k) rest e = absurd (both_ways true e refl)

pub kept_here : (X : List (Option KeptCharacter)) (i : ℕ) → is_some (get_or X i None) ≡ true → next_kept X i ≡ i
kept_here X i e =
    let first : leading_removed (drop i X) ≡ 0 = ap leading_removed (drop-cons X i None (kept_index X i e))
    ∙ leading-kept (get_or X i None) (drop (suc i) X) e in
    omega arith

pub kept_later : (X : List (Option KeptCharacter)) (i : ℕ) → i < length X → is_some (get_or X i None) ≡ false
    → next_kept X (i + 1) ≡ next_kept X i
kept_later X i within e =
    let first : leading_removed (drop i X) ≡ suc (leading_removed (drop (suc i) X)) =
    ap leading_removed (drop-cons X i None within) ∙ leading-later (get_or X i None) (drop (suc i) X) e in
    let up : i + 1 ≡ suc i = omega arith in
    ap (next_kept X) up ∙ count i (leading_removed (drop i X)) (leading_removed (drop (suc i) X)) first
  where
    count : (i a b : ℕ) → a ≡ suc b → suc i + b ≡ i + a
    count i a b e = omega arith

pub kept_end : (X : List (Option KeptCharacter)) (i : ℕ) → length X ≤ i → next_kept X i ≡ i
kept_end X i h =
    let none : leading_removed (drop i X) ≡ 0 = ap leading_removed (drop_of_length-le X h) in omega arith

from_alike : (base : ℕ) (k : KeptCharacter) (m n : Option ℕ) (i : ℕ) (q : KeptCharacter)
    → (enters_isolate k.role ≡ true → m ≡ n) → next_from base k m i (Some q) ≡ next_from base k n i (Some q)
from_alike base k m n i q e =
    elim (cases_Bool (enters_isolate k.role)) [
      | inl enters ↦ ap (λ o. next_from base k o i (Some q)) (e enters)
      | inr stays ↦ by (q.level == k.level) (enters_isolate k.role) stays
    ]
  where
    by : (same enters : Bool) → enters ≡ false
        → (if same then GoesOn i else if enters then goes_past m base else Ends q.level)
        ≡ (if same then GoesOn i else if enters then goes_past n base else Ends q.level)
    by true enters e = refl
    by false true e = absurd (both_ways true e refl)
    by false false e = refl

pub next_by : (base : ℕ) (X : List (Option KeptCharacter)) (ends : List (Option ℕ)) (i : ℕ) (k q : KeptCharacter)
    → HasEnds X ends → character_at X i ≡ Some k → character_at X (next_kept X (i + 1)) ≡ Some q
    → next_from base k (get_or ends i None) (next_kept X (i + 1)) (Some q) ≡ next_character base X i k
next_by base X ends i k q has here there =
    from_alike base k (get_or ends i None) (matching_end X i) (next_kept X (i + 1)) q (has.match i k here)
    ∙ ap (next_from base k (matching_end X i) (next_kept X (i + 1))) (sym there)
    ∙ ap (λ n. next_from base k (matching_end X i) (next_kept X n) (character_at X (next_kept X n))) (up i)
  where
    up : (n : ℕ) → n + 1 ≡ suc n
    up n = omega arith

past : (X : List (Option KeptCharacter)) (j : ℕ) → length X ≤ j → get_or X j None ≡ None
past [] j h = refl
past (x ∷ X) zero h = absurd (omega (arith, h))
past (x ∷ X) (suc j) h = past X j (omega (arith, h))

pub next_none : (base : ℕ) (X : List (Option KeptCharacter)) (i : ℕ) (k : KeptCharacter)
    → length X ≤ next_kept X (i + 1) → Ends base ≡ next_character base X i k
next_none base X i k h =
    sym (ap (λ n. next_from base k (matching_end X i) (next_kept X n) (character_at X (next_kept X n))) (sym (up i))
    ∙ ap (next_from base k (matching_end X i) (next_kept X (i + 1))) (past X (next_kept X (i + 1)) h))
  where
    up : (n : ℕ) → n + 1 ≡ suc n
    up n = omega arith
