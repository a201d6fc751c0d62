-- A sequence that passes over an isolate is the same without what stands inside.
use Rattle.std.proofs.Common.{◌≡◌, ℕ, suc, ◌+◌, ◌<◌, Bool, true, false, ◌==◌, inl, inr, List, [], ◌∷◌, ◌++◌, reverse}
use Rattle.std.proofs.Common.{refl, sym, ap, subst, ◌∙◌, append_assoc, arith, Option, Some, None}
use Rattle.std.proofs.lemmas.Bool.{cases_Bool, eq-eqb, ne_eqb, eqb-true}
use Rattle.std.proofs.lemmas.List.{reverse-append}
use Rattle.bidi_order.specs.Explicit.{SequenceCharacter, KeptCharacter}
use Rattle.bidi_order.specs.Explicit.IsolateRole.{Initiates, Terminates, Neither}
use Rattle.bidi_order.specs.Sequences.{Scan, scanned_role, enters_isolate, Following, SequenceStep, step_past_isolate}
use Rattle.bidi_order.specs.Sequences.{step_in_sequence, unmatched_level, sequence_step, unmatched_level_at}
use Rattle.bidi_order.specs.Sequences.{sequence_along}
use Rattle.bidi_order.specs.Sequences.Scan.{Forward, Backward}
use Rattle.bidi_order.specs.Sequences.Following.{Taking, Passing}
use Rattle.bidi_order.specs.Sequences.SequenceStep.{Take, Pass, Stop}

-- what stands inside an isolate: so many PDIs are still to come, and each level is higher
pub data Within (level : ℕ) : ℕ → List (Option KeptCharacter) → Type 0 where
  within_end : Within level 0 []
  within_none : {d : ℕ} {V : List (Option KeptCharacter)} → Within level d V → Within level d (None ∷ V)
  within_plain : {d : ℕ} {k : KeptCharacter} {V : List (Option KeptCharacter)} → level < k.level → k.role ≡ Neither
      → Within level d V → Within level d (Some k ∷ V)
  within_opens : {d : ℕ} {k : KeptCharacter} {V : List (Option KeptCharacter)} → level < k.level → k.role ≡ Initiates
      → Within level (suc d) V → Within level d (Some k ∷ V)
  within_ends : {d : ℕ} {k : KeptCharacter} {V : List (Option KeptCharacter)} → level < k.level → k.role ≡ Terminates
      → Within level d V → Within level (suc d) (Some k ∷ V)

-- each level is higher
pub data Above (level : ℕ) : List (Option KeptCharacter) → Type 0 where
  above_end : Above level []
  above_none : {V : List (Option KeptCharacter)} → Above level V → Above level (None ∷ V)
  above_some : {k : KeptCharacter} {V : List (Option KeptCharacter)} → level < k.level → Above level V
      → Above level (Some k ∷ V)

pub Above-Within : {level d : ℕ} {V : List (Option KeptCharacter)} → Within level d V → Above level V
Above-Within within_end = above_end
Above-Within (within_none h) = above_none (Above-Within h)
Above-Within (within_plain l r h) = above_some l (Above-Within h)
Above-Within (within_opens l r h) = above_some l (Above-Within h)
Above-Within (within_ends l r h) = above_some l (Above-Within h)

Above-append : {level : ℕ} (a b : List (Option KeptCharacter)) → Above level a → Above level b → Above level (a ++ b)
Above-append a b above_end k = k
Above-append a b (above_none {V = v} h) k = above_none (Above-append v b h k)
Above-append a b (above_some {V = v} l h) k = above_some l (Above-append v b h k)

pub Above-reverse : {level : ℕ} (V : List (Option KeptCharacter)) → Above level V → Above level (reverse V)
Above-reverse V above_end = above_end
Above-reverse V (above_none {V = v} h) = subst (Above _) (sym (reverse-append (None ∷ []) v))
    (Above-append (reverse v) (None ∷ []) (Above-reverse v h) (above_none above_end))
Above-reverse V (above_some {k = k} {V = v} l h) = subst (Above _) (sym (reverse-append (Some k ∷ []) v))
    (Above-append (reverse v) (Some k ∷ []) (Above-reverse v h) (above_some l above_end))

module _ (scan : Scan) (base level : ℕ) where
  -- what follows a step
  abbrev pub follows : Following → KeptCharacter → List (Option KeptCharacter) → SequenceStep → List SequenceCharacter
      × ℕ
  follows w k rest t = elim t [
    | Take ↦ let more = sequence_along scan base level (Taking (enters_isolate (scanned_role scan k.role))) rest in
        (k.resolved ∷ more.0, more.1)
    | Pass n ↦ sequence_along scan base level (Passing n (unmatched_level_at scan base level w k)) rest
    | Stop ↦ ([], k.level)
  ]

  pub sequence_along-sequence_step : (w : Following) (k : KeptCharacter) (rest : List (Option KeptCharacter))
      (t : SequenceStep) → sequence_step scan base level w k ≡ t → sequence_along scan base level w (Some k ∷ rest)
      ≡ follows w k rest t
  sequence_along-sequence_step w k rest t e = ap (follows w k rest) e

  follows-same : (w : Following) (k : KeptCharacter) (X Y : List (Option KeptCharacter))
      → ((w : Following) → sequence_along scan base level w X ≡ sequence_along scan base level w Y)
      → (t : SequenceStep) → follows w k X t ≡ follows w k Y t
  follows-same w k X Y same Take = ap (λ (more : List SequenceCharacter × ℕ). (k.resolved ∷ more.0, more.1))
      (same (Taking (enters_isolate (scanned_role scan k.role))))
  follows-same w k X Y same (Pass n) = same (Passing n (unmatched_level_at scan base level w k))
  follows-same w k X Y same Stop = refl

  -- one more character before what is followed alike
  pub sequence_along-more : (s : Option KeptCharacter) (X Y : List (Option KeptCharacter))
      → ((w : Following) → sequence_along scan base level w X ≡ sequence_along scan base level w Y) → (w : Following)
      → sequence_along scan base level w (s ∷ X) ≡ sequence_along scan base level w (s ∷ Y)
  sequence_along-more None X Y same w = same w
  sequence_along-more (Some k) X Y same w =
      sequence_along-sequence_step w k X (sequence_step scan base level w k) refl
      ∙ follows-same w k X Y same (sequence_step scan base level w k)
      ∙ sym (sequence_along-sequence_step w k Y (sequence_step scan base level w k) refl)

  module _ (near far : KeptCharacter) (U : List (Option KeptCharacter))
      (opens : scanned_role scan near.role ≡ Initiates) (ends : scanned_role scan far.role ≡ Terminates)
      (same : near.level ≡ far.level)
      (passing : (n o : ℕ) (T : List (Option KeptCharacter)) → sequence_along scan base level (Passing n o) (U ++ T)
      ≡ sequence_along scan base level (Passing n o) T) where
    far_taken : (o : ℕ) (rest : List (Option KeptCharacter)) → near.level ≡ level
        → sequence_along scan base level (Passing 0 o) (Some far ∷ rest) ≡ sequence_along scan base level
        (Taking true) (Some far ∷ rest)
    far_taken o rest at =
        sequence_along-sequence_step (Passing 0 o) far rest Take (ap (step_past_isolate 0) ends)
        ∙ sym (sequence_along-sequence_step (Taking true) far rest Take
        (ap (λ b. step_in_sequence b true (scanned_role scan far.role)) (eq-eqb far.level level (sym same ∙ at))))

    -- after the initiator, read either way
    entered_from : (V T : List (Option KeptCharacter)) → Above level V
        → ((o : ℕ) → sequence_along scan base level (Passing 0 o) (V ++ T) ≡ sequence_along scan base level
        (Passing 0 o) T)
        → ((o : ℕ) → sequence_along scan base level (Passing 0 o) T ≡ sequence_along scan base level (Taking true) T)
        → sequence_along scan base level (Taking true) (V ++ T) ≡ sequence_along scan base level (Taking true) T
    entered_from V T above_end pass taken = refl
    entered_from V T (above_none {V = v} h) pass taken = entered_from v T h pass taken
    entered_from V T (above_some {k = k} {V = v} high h) pass taken =
        first ∙ pass (unmatched_level scan base k.level) ∙ taken (unmatched_level scan base k.level)
      where
        other : (k.level == level) ≡ false
        other = ne_eqb k.level level (λ e. omega arith)

        first : sequence_along scan base level (Taking true) (Some k ∷ (v ++ T)) ≡ sequence_along scan base level
            (Passing 0 (unmatched_level scan base k.level)) (Some k ∷ (v ++ T))
        first =
            sequence_along-sequence_step (Taking true) k (v ++ T) (step_past_isolate 0 (scanned_role scan k.role))
            (ap (λ b. step_in_sequence b true (scanned_role scan k.role)) other)
            ∙ sym (sequence_along-sequence_step (Passing 0 (unmatched_level scan base k.level)) k (v ++ T)
            (step_past_isolate 0 (scanned_role scan k.role)) refl)

    pub entered : (rest : List (Option KeptCharacter)) → near.level ≡ level → Above level U
        → sequence_along scan base level (Taking true) (U ++ Some far ∷ rest) ≡ sequence_along scan base level
        (Taking true) (Some far ∷ rest)
    entered rest at high = entered_from U (Some far ∷ rest) high (λ o. passing 0 o (Some far ∷ rest))
        (λ o. far_taken o rest at)

    pub isolate_passed : (rest : List (Option KeptCharacter)) → Above near.level U → (w : Following)
        → sequence_along scan base level w (Some near ∷ (U ++ Some far ∷ rest)) ≡ sequence_along scan base level w
        (Some near ∷ Some far ∷ rest)
    isolate_passed rest high (Passing n o) =
        sequence_along-sequence_step (Passing n o) near (U ++ Some far ∷ rest) (Pass (suc n))
        (ap (step_past_isolate n) opens) ∙ passing (suc n) o (Some far ∷ rest)
        ∙ sym (sequence_along-sequence_step (Passing n o) near (Some far ∷ rest) (Pass (suc n))
        (ap (step_past_isolate n) opens))
    isolate_passed rest high (Taking b) =
        elim (cases_Bool (near.level == level)) [
          | inl is ↦
              let taken : sequence_step scan base level (Taking b) near ≡ Take =
              ap (λ t. step_in_sequence t b (scanned_role scan near.role)) is in
              sequence_along-sequence_step (Taking b) near (U ++ Some far ∷ rest) Take taken
              ∙ ap (λ (more : List SequenceCharacter × ℕ). (near.resolved ∷ more.0, more.1))
              (subst (λ r. sequence_along scan base level (Taking (enters_isolate r)) (U ++ Some far ∷ rest)
              ≡ sequence_along scan base level (Taking (enters_isolate r)) (Some far ∷ rest)) (sym opens)
              (inside (eqb-true near.level level is)))
              ∙ sym (sequence_along-sequence_step (Taking b) near (Some far ∷ rest) Take taken)
          | inr isn't ↦ apart b isn't
        ]
      where
        inside : near.level ≡ level → sequence_along scan base level (Taking true) (U ++ Some far ∷ rest)
            ≡ sequence_along scan base level (Taking true) (Some far ∷ rest)
        inside at = entered rest at (subst (λ l. Above l U) at high)

        apart : (b : Bool) → (near.level == level) ≡ false
            → sequence_along scan base level (Taking b) (Some near ∷ (U ++ Some far ∷ rest)) ≡ sequence_along scan
            base level (Taking b) (Some near ∷ Some far ∷ rest)
        apart true isn't =
            let o : ℕ = unmatched_level scan base near.level in
            let passed : sequence_step scan base level (Taking true) near ≡ Pass 1 =
            ap (λ t. step_in_sequence t true (scanned_role scan near.role)) isn't
            ∙ ap (step_past_isolate 0) opens in
            sequence_along-sequence_step (Taking true) near (U ++ Some far ∷ rest) (Pass 1) passed
            ∙ passing 1 o (Some far ∷ rest)
            ∙ sym (sequence_along-sequence_step (Taking true) near (Some far ∷ rest) (Pass 1) passed)
        apart false isn't =
            let stopped : sequence_step scan base level (Taking false) near ≡ Stop =
            ap (λ t. step_in_sequence t false (scanned_role scan near.role)) isn't in
            sequence_along-sequence_step (Taking false) near (U ++ Some far ∷ rest) Stop stopped
            ∙ sym (sequence_along-sequence_step (Taking false) near (Some far ∷ rest) Stop stopped)

-- an isolate is passed over forward
pub passing_ahead : (base level : ℕ) {low d : ℕ} {V : List (Option KeptCharacter)} → Within low d V
    → (n m o : ℕ) (T : List (Option KeptCharacter)) → m ≡ n + d
    → sequence_along Forward base level (Passing m o) (V ++ T) ≡ sequence_along Forward base level (Passing n o) T
passing_ahead base level within_end n m o T e = let same : m ≡ n = omega arith in
    ap (λ m. sequence_along Forward base level (Passing m o) T) same
passing_ahead base level (within_none h) n m o T e = passing_ahead base level h n m o T e
passing_ahead base level (within_plain {k = k} {V = v} l r h) n m o T e =
    sequence_along-sequence_step Forward base level (Passing m o) k (v ++ T) (Pass m)
    (ap (λ r. step_past_isolate m (scanned_role Forward r)) r) ∙ passing_ahead base level h n m o T e
passing_ahead base level (within_opens {k = k} {V = v} l r h) n m o T e =
    sequence_along-sequence_step Forward base level (Passing m o) k (v ++ T) (Pass (suc m))
    (ap (λ r. step_past_isolate m (scanned_role Forward r)) r) ∙ passing_ahead base level h n (suc m) o T
    (omega arith)
passing_ahead base level (within_ends {d = d} {k = k} {V = v} l r h) n m o T e =
    let down : m ≡ suc (n + d) = omega arith in
    sequence_along-sequence_step Forward base level (Passing m o) k (v ++ T) (Pass (n + d))
    (ap (λ r. step_past_isolate m (scanned_role Forward r)) r ∙ ap (λ m. step_past_isolate m Terminates) down)
    ∙ passing_ahead base level h n (n + d) o T refl

-- a list read from its end on, before others
pub reverse-prefix : (s : Option KeptCharacter) (V T : List (Option KeptCharacter))
    → reverse (s ∷ V) ++ T ≡ reverse V ++ (s ∷ T)
reverse-prefix s V T = ap (λ l. l ++ T) (reverse-append (s ∷ []) V) ∙ append_assoc (reverse V) (s ∷ []) T

-- an isolate is passed over backward
pub passing_behind : (base level : ℕ) {low d : ℕ} {V : List (Option KeptCharacter)} → Within low d V
    → (n m o : ℕ) (T : List (Option KeptCharacter)) → m ≡ n + d
    → sequence_along Backward base level (Passing n o) (reverse V ++ T) ≡ sequence_along Backward base level
    (Passing m o) T
passing_behind base level within_end n m o T e = let same : n ≡ m = omega arith in
    ap (λ m. sequence_along Backward base level (Passing m o) T) same
passing_behind base level (within_none {V = v} h) n m o T e =
    ap (sequence_along Backward base level (Passing n o)) (reverse-prefix None v T)
    ∙ passing_behind base level h n m o (None ∷ T) e
passing_behind base level (within_plain {k = k} {V = v} l r h) n m o T e =
    ap (sequence_along Backward base level (Passing n o)) (reverse-prefix (Some k) v T)
    ∙ passing_behind base level h n m o (Some k ∷ T) e
    ∙ sequence_along-sequence_step Backward base level (Passing m o) k T (Pass m)
    (ap (λ r. step_past_isolate m (scanned_role Backward r)) r)
passing_behind base level (within_opens {k = k} {V = v} l r h) n m o T e =
    ap (sequence_along Backward base level (Passing n o)) (reverse-prefix (Some k) v T)
    ∙ passing_behind base level h n (suc m) o (Some k ∷ T) (omega arith)
    ∙ sequence_along-sequence_step Backward base level (Passing (suc m) o) k T (Pass m)
    (ap (λ r. step_past_isolate (suc m) (scanned_role Backward r)) r)
passing_behind base level (within_ends {d = d} {k = k} {V = v} l r h) n m o T e =
    let up : suc (n + d) ≡ m = omega arith in
    ap (sequence_along Backward base level (Passing n o)) (reverse-prefix (Some k) v T)
    ∙ passing_behind base level h n (n + d) o (Some k ∷ T) refl
    ∙ sequence_along-sequence_step Backward base level (Passing (n + d) o) k T (Pass (suc (n + d)))
    (ap (λ r. step_past_isolate (n + d) (scanned_role Backward r)) r)
    ∙ ap (λ m. sequence_along Backward base level (Passing m o) T) up
