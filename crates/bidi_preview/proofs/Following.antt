-- How a sequence is followed over removed characters, and over the end of an isolate that is sought.
use Rattle.std.proofs.Common.{◌≡◌, ℕ, zero, suc, List, [], ◌∷◌, ◌++◌, reverse}
use Rattle.std.proofs.Common.{length, refl, sym, ap, subst, ◌∙◌, ◌⊎◌, inl, inr, Option, Some}
use Rattle.std.proofs.Common.{None}
use Rattle.std.proofs.lemmas.List.{reverse-append}
use Rattle.bidi_order.specs.Explicit.{IsolateRole, KeptCharacter}
use Rattle.bidi_order.specs.Explicit.IsolateRole.{Initiates, Terminates, Neither}
use Rattle.bidi_order.specs.Sequences.{Scan, Following, SequenceStep}
use Rattle.bidi_order.specs.Sequences.{sequence_along, step_past_isolate}
use Rattle.bidi_order.specs.Sequences.Scan.{Forward}
use Rattle.bidi_order.specs.Sequences.Following.{Passing}
use Rattle.bidi_order.specs.Sequences.SequenceStep.{Take, Pass, Stop}
use Rattle.bidi_order.proofs.FollowedSequences.{sequence_along-sequence_step}
use Rattle.bidi_preview.specs.NextCharacter.{leading_removed, closing_from}

-- nothing is kept
pub data AllRemoved : List (Option KeptCharacter) → Type 0 where
  removed_end : AllRemoved []
  removed_more : {U : List (Option KeptCharacter)} → AllRemoved U → AllRemoved (None ∷ U)

-- the first character of a list is kept
pub record FirstKept (X : List (Option KeptCharacter)) : Type 0 where
  pub first : KeptCharacter
  pub others : List (Option KeptCharacter)
  pub is : X ≡ Some first ∷ others

-- a line from its first kept character on
pub record Led (X : List (Option KeptCharacter)) : Type 0 where
  pub front : List (Option KeptCharacter)
  pub rest : List (Option KeptCharacter)
  pub is : X ≡ front ++ rest
  pub removed : AllRemoved front
  pub long : length front ≡ leading_removed X
  pub first : (rest ≡ []) ⊎ FirstKept rest

pub led : (X : List (Option KeptCharacter)) → Led X
led [] = record { front = []; rest = []; is = refl; removed = removed_end; long = refl; first = inl refl }
led (None ∷ X) =
    let more : Led X = led X in
    record {
      front = None ∷ more.front;
      rest = more.rest;
      is = ap (λ l. None ∷ l) more.is;
      removed = removed_more more.removed;
      long = ap suc more.long;
      first = more.first;
    }
led (Some k ∷ X) = record {
  front = [];
  rest = Some k ∷ X;
  is = refl;
  removed = removed_end;
  long = refl;
  first = inr (record { first = k; others = X; is = refl });
}

module _ (scan : Scan) (base level : ℕ) where
  pub along-removed : (w : Following) (U R : List (Option KeptCharacter)) → AllRemoved U
      → sequence_along scan base level w (U ++ R) ≡ sequence_along scan base level w R
  along-removed w U R removed_end = refl
  along-removed w U R (removed_more {U = V} h) = along-removed w V R h

pub AllRemoved-append : (U V : List (Option KeptCharacter)) → AllRemoved U → AllRemoved V → AllRemoved (U ++ V)
AllRemoved-append U V removed_end h = h
AllRemoved-append U V (removed_more {U = T} g) h = removed_more (AllRemoved-append T V g h)

pub AllRemoved-reverse : (U : List (Option KeptCharacter)) → AllRemoved U → AllRemoved (reverse U)
AllRemoved-reverse U removed_end = removed_end
AllRemoved-reverse U (removed_more {U = T} h) = subst AllRemoved (sym (reverse-append (None ∷ []) T))
    (AllRemoved-append (reverse T) (None ∷ []) (AllRemoved-reverse T h) (removed_more removed_end))

-- what a step makes of the search for the end of an isolate
abbrev pub closed_after : ℕ → List (Option KeptCharacter) → SequenceStep → Option ℕ
closed_after i X t = elim t [
  | Take ↦ Some i
  | Pass m ↦ closing_from (suc i) m X
  | Stop ↦ None
]

pub closing_from-step : (i n : ℕ) (k : KeptCharacter) (X : List (Option KeptCharacter)) (t : SequenceStep)
    → step_past_isolate n k.role ≡ t → closing_from i n (Some k ∷ X) ≡ closed_after i X t
closing_from-step i n k X t e = ap (closed_after i X) e

never_stops : (n : ℕ) (role : IsolateRole) → step_past_isolate n role ≡ Stop → ⊥
never_stops n Initiates e = cc
never_stops zero Terminates e = cc
never_stops (suc n) Terminates e = cc
never_stops n Neither e = cc

never_some : {A : Type 0} (x : A) → Some x ≡ None → ⊥
never_some x e = cc

passing-none-step : (base level i n o : ℕ) (k : KeptCharacter) (X : List (Option KeptCharacter))
    → closing_from i n (Some k ∷ X) ≡ None → (t : SequenceStep) → step_past_isolate n k.role ≡ t
    → ((m : ℕ) → closing_from (suc i) m X ≡ None → sequence_along Forward base level (Passing m o) X ≡ ([], o))
    → sequence_along Forward base level (Passing n o) (Some k ∷ X) ≡ ([], o)
passing-none-step base level i n o k X h Take e more = absurd
    (never_some i (sym (closing_from-step i n k X Take e) ∙ h))
passing-none-step base level i n o k X h (Pass m) e more =
    sequence_along-sequence_step Forward base level (Passing n o) k X (Pass m) e
    ∙ more m (sym (closing_from-step i n k X (Pass m) e) ∙ h)
passing-none-step base level i n o k X h Stop e more = absurd (never_stops n k.role e)

-- the end of an isolate that isn't there
pub passing-none : (base level i n o : ℕ) (X : List (Option KeptCharacter)) → closing_from i n X ≡ None
    → sequence_along Forward base level (Passing n o) X ≡ ([], o)
passing-none base level i n o [] h = refl
passing-none base level i n o (None ∷ X) h = passing-none base level (suc i) n o X h
passing-none base level i n o (Some k ∷ X) h =
    passing-none-step base level i n o k X h (step_past_isolate n k.role) refl
    (λ m g. passing-none base level (suc i) m o X g)
