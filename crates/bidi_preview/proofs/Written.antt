-- Levels written for a whole sequence: all that is written is right, and nothing is lost.
use Rattle.std.proofs.Common.{◌≡◌, ℕ, zero, suc, ◌<◌, Bool, true, ◌⊎◌, inl, inr, List, [], ◌∷◌}
use Rattle.std.proofs.Common.{length, get_or, refl, sym, ap, subst, ◌∙◌, arith, Option, Some, None}
use Rattle.std.proofs.lemmas.List.{get_or-set_same, length-set}
use Rattle.std.proofs.Math.ListN.{set}
use Rattle.std.specs.Option.{is_some}
use Rattle.bidi_order.specs.Explicit.{KeptCharacter}
use Rattle.bidi_preview.specs.NextCharacter.{character_at, next_character}
use Rattle.bidi_preview.specs.NextCharacter.NextCharacter.{GoesOn, Ends}
use Rattle.bidi_preview.specs.SequenceSteps.{AreLevels, Chain, HasLevel, IsInProgress, written}
use Rattle.bidi_preview.specs.SequenceSteps.AreLevels.{levels_end, levels_more}
use Rattle.bidi_preview.specs.SequenceSteps.Chain.{chain_end, chain_more}

-- a level at an index
abbrev has_level : List (Option ℕ) → ℕ → Bool
has_level levels i = is_some (get_or levels i None)

written-long : (is vs : List ℕ) (levels : List (Option ℕ)) → length (written is vs levels) ≡ length levels
written-long [] vs levels = refl
written-long (i ∷ is) [] levels = refl
written-long (i ∷ is) (v ∷ vs) levels = written-long is vs (set levels i (Some v)) ∙ length-set levels i (Some v)

-- what has a level keeps one
set-stays : (levels : List (Option ℕ)) (i v j : ℕ) → has_level levels j ≡ true
    → has_level (set levels i (Some v)) j ≡ true
set-stays [] i v j h = h
set-stays (x ∷ levels) zero v zero h = refl
set-stays (x ∷ levels) zero v (suc j) h = h
set-stays (x ∷ levels) (suc i) v zero h = h
set-stays (x ∷ levels) (suc i) v (suc j) h = set-stays levels i v j h

pub written-stays : (is vs : List ℕ) (levels : List (Option ℕ)) (j : ℕ) → has_level levels j ≡ true
    → has_level (written is vs levels) j ≡ true
written-stays [] vs levels j h = h
written-stays (i ∷ is) [] levels j h = h
written-stays (i ∷ is) (v ∷ vs) levels j h = written-stays is vs (set levels i (Some v)) j (set-stays levels i v j h)

set-here : (levels : List (Option ℕ)) (i v : ℕ) → i < length levels → has_level (set levels i (Some v)) i ≡ true
set-here levels i v h = ap is_some (get_or-set_same levels i (Some v) None h)

-- what a list with one value set holds
set-value : (levels : List (Option ℕ)) (i v j level : ℕ) → get_or (set levels i (Some v)) j None ≡ Some level
    → ((j ≡ i) × (v ≡ level)) ⊎ (get_or levels j None ≡ Some level)
set-value [] i v j level e = inr e
set-value (x ∷ levels) zero v zero level e = let same : v ≡ level = cc in inl (refl, same)
set-value (x ∷ levels) zero v (suc j) level e = inr e
set-value (x ∷ levels) (suc i) v zero level e = inr e
set-value (x ∷ levels) (suc i) v (suc j) level e = elim (set-value levels i v j level e) [
  | inl same ↦ inl (ap suc same.0, same.1)
  | inr old ↦ inr old
]

set-before : (levels : List (Option ℕ)) (i v j : ℕ) → has_level (set levels i (Some v)) j ≡ true
    → (j ≡ i) ⊎ (has_level levels j ≡ true)
set-before [] i v j h = inr h
set-before (x ∷ levels) zero v zero h = inl refl
set-before (x ∷ levels) zero v (suc j) h = inr h
set-before (x ∷ levels) (suc i) v zero h = inr h
set-before (x ∷ levels) (suc i) v (suc j) h = elim (set-before levels i v j h) [
  | inl same ↦ inl (ap suc same)
  | inr old ↦ inr old
]

-- the index of a character is within the line
pub kept-within : (line : List (Option KeptCharacter)) (i : ℕ) (k : KeptCharacter) → get_or line i None ≡ Some k
    → i < length line
kept-within [] i k e = absurd (cc)
kept-within (x ∷ line) zero k e = omega arith
kept-within (x ∷ line) (suc i) k e = omega (arith, kept-within line i k e)

module _ (base : ℕ) (line : List (Option KeptCharacter)) where
  abbrev AreRight : List (Option ℕ) → Type 0
  AreRight levels = (i level : ℕ) → get_or levels i None ≡ Some level → HasLevel base line i level

  set-right : (levels : List (Option ℕ)) (i v : ℕ) → HasLevel base line i v → AreRight levels
      → AreRight (set levels i (Some v))
  set-right levels i v has right j level e =
      elim (set-value levels i v j level e) [
        | inl same ↦ subst (λ n. HasLevel base line n level) (sym same.0) (subst (HasLevel base line i) same.1 has)
        | inr old ↦ right j level old
      ]

  written-right : (is vs : List ℕ) (levels : List (Option ℕ)) → AreLevels base line is vs → AreRight levels
      → AreRight (written is vs levels)
  written-right is vs levels levels_end right = right
  written-right is vs levels (levels_more {i = i} {v = v} {indexes = is'} {values = vs'} has more) right =
      written-right is' vs' (set levels i (Some v)) more (set-right levels i v has right)

  first-within : (i : ℕ) (is : List ℕ) (level : ℕ) → Chain base line i is level → i < length line
  first-within i is level (chain_end {k = k} here next) = kept-within line i k here
  first-within i is level (chain_more {k = k} here next c) = kept-within line i k here

  -- the first index of a chain gets a level
  first-written : (i level : ℕ) (is vs : List ℕ) (levels : List (Option ℕ)) → Chain base line i is level
      → AreLevels base line is vs → i < length levels → has_level (written is vs levels) i ≡ true
  first-written i level is vs levels (chain_end here next) (levels_more {v = v} {values = vs'} has more) h =
      written-stays [] vs' (set levels i (Some v)) i (set-here levels i v h)
  first-written i level is vs levels (chain_more {indexes = is'} here next c)
      (levels_more {v = v} {values = vs'} has more) h =
      written-stays is' vs' (set levels i (Some v)) i (set-here levels i v h)

  -- an index after which its sequence doesn't go on without a level
  abbrev ClosedAt : List (Option ℕ) → ℕ → Type 0
  ClosedAt levels i = (j : ℕ) (k : KeptCharacter) → character_at line i ≡ Some k
      → next_character base line i k ≡ GoesOn j → has_level levels j ≡ true

  same_character : (i : ℕ) (k q : KeptCharacter) → character_at line i ≡ Some k → character_at line i ≡ Some q → k ≡ q
  same_character i k q e f = some_is (sym e ∙ f)
    where
      some_is : Some k ≡ Some q → k ≡ q
      some_is e = cc

  -- what has a level after a chain is written had one before, or is closed
  written-closed : (i level : ℕ) (is vs : List ℕ) (levels : List (Option ℕ)) → length levels ≡ length line
      → Chain base line i is level → AreLevels base line is vs → (j : ℕ) → has_level (written is vs levels) j ≡ true
      → (has_level levels j ≡ true) ⊎ ClosedAt (written is vs levels) j
  written-closed i level is vs levels long (chain_end {k = q} here next)
      (levels_more {v = v} {values = vs'} has more) j h =
      elim (set-before levels i v j h) [
        | inl same ↦ inr (λ m k there goes. absurd
            (never (sym (subst (λ n. next_character base line n k ≡ GoesOn m) same
            goes) ∙ ap (next_character base line i) (same_character i k q
            (subst (λ n. character_at line n ≡ Some k) same there) here) ∙ next)))
        | inr old ↦ inl old
      ]
    where
      never : {m l : ℕ} → GoesOn m ≡ Ends l → ⊥
      never e = cc
  written-closed i level is vs levels long (chain_more {j = n} {k = q} {indexes = is'} here next c)
      (levels_more {v = v} {values = vs'} has more) j h =
      elim (written-closed n level is' vs' (set levels i (Some v)) (length-set levels i (Some v) ∙ long) c more j h) [
        | inr closed ↦ inr closed
        | inl before ↦
            elim (set-before levels i v j before) [
              | inr old ↦ inl old
              | inl same ↦ inr (λ m k there goes.
                  let next_is : GoesOn n ≡ GoesOn m = sym next
                  ∙ ap (next_character base line i) (same_character i q k here
                  (subst (λ n. character_at line n ≡ Some k) same there))
                  ∙ subst (λ n. next_character base line n k ≡ GoesOn m) same goes in
                  subst (λ n. has_level (written is' vs' (set levels i (Some v))) n ≡ true) (goes_is next_is)
                  (first-written n level is' vs' (set levels i (Some v)) c more
                  (subst (λ l. n < l) (sym (length-set levels i (Some v) ∙ long)) (first-within n is' level c))))
            ]
      ]
    where
      goes_is : {a b : ℕ} → GoesOn a ≡ GoesOn b → a ≡ b
      goes_is e = cc

  -- levels in progress after a sequence is written
  pub written-progress : (i level : ℕ) (is vs : List ℕ) (levels : List (Option ℕ)) → Chain base line i is level
      → AreLevels base line is vs → IsInProgress base line levels → IsInProgress base line (written is vs levels)
  written-progress i level is vs levels c a p = record {
    long = written-long is vs levels ∙ p.long;
    right = written-right is vs levels a p.right;
    closed = λ j m k here h goes. elim (written-closed i level is vs levels p.long c a j h) [
      | inl old ↦ written-stays is vs levels m (p.closed j m k here old goes)
      | inr closed ↦ closed m k here goes
    ];
  }

  pub written-first : (i level : ℕ) (is vs : List ℕ) (levels : List (Option ℕ)) → Chain base line i is level
      → AreLevels base line is vs → IsInProgress base line levels → has_level (written is vs levels) i ≡ true
  written-first i level is vs levels c a p =
      first-written i level is vs levels c a (subst (λ n. i < n) (sym p.long) (first-within i is level c))
