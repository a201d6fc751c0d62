-- Where a sequence comes from: a character that is the first of its sequence has before it the level of the last kept
-- character; any other is the next one of a character before it.
use Rattle.std.proofs.Common.{◌≡◌, ℕ, zero, suc, ◌+◌, true, false, ◌==◌, ◌⊎◌, inl, inr, List, [], ◌∷◌}
use Rattle.std.proofs.Common.{◌++◌}
use Rattle.std.proofs.Common.{reverse, length, refl, sym, ap, ◌∙◌, arith, Option, Some, None}
use Rattle.std.proofs.lemmas.Bool.{both_ways, cases_Bool, eq-eqb, eqb-true}
use Rattle.bidi_order.specs.Explicit.{IsolateRole, KeptCharacter}
use Rattle.bidi_order.specs.Explicit.IsolateRole.{Initiates, Terminates, Neither}
use Rattle.bidi_order.specs.Sequences.{Scan, scanned_role, enters_isolate, step_in_sequence}
use Rattle.bidi_order.specs.Sequences.{sequence_along, step_past_isolate, unmatched_level}
use Rattle.bidi_order.specs.Sequences.Scan.{Backward}
use Rattle.bidi_order.specs.Sequences.Following.{Taking, Passing}
use Rattle.bidi_order.specs.Sequences.SequenceStep.{Pass, Stop}
use Rattle.bidi_order.proofs.FollowedSequences.{sequence_along-sequence_step, reverse-prefix}
use Rattle.bidi_preview.specs.NextCharacter.{closing_from, level_behind}
use Rattle.bidi_preview.proofs.Following.{AllRemoved, closing_from-step}
use Rattle.bidi_preview.proofs.Following.AllRemoved.{removed_end, removed_more}
use Rattle.bidi_preview.proofs.Neighbours.{before_in}

-- in a list read backward, the initiator that ends so many isolates and one more
pub record Opened (B : List (Option KeptCharacter)) (n : ℕ) : Type 0 where
  pub inside : List (Option KeptCharacter)
  pub begin : KeptCharacter
  pub back : List (Option KeptCharacter)
  pub is : B ≡ inside ++ Some begin ∷ back
  pub opens : begin.role ≡ Initiates
  pub closes : (a : ℕ) (T : List (Option KeptCharacter))
      → closing_from a 0 (reverse inside ++ T) ≡ closing_from (a + length inside) n T

-- the same list after one more character, over which the search goes on with another number
opened-more : (s : Option KeptCharacter) (B : List (Option KeptCharacter)) (n m : ℕ)
    → ((a : ℕ) (T : List (Option KeptCharacter)) → closing_from a m (s ∷ T) ≡ closing_from (suc a) n T) → Opened B m
    → Opened (s ∷ B) n
opened-more s B n m step o = record {
  inside = s ∷ o.inside;
  begin = o.begin;
  back = o.back;
  is = ap (λ l. s ∷ l) o.is;
  opens = o.opens;
  closes = λ a T. ap (closing_from a 0) (reverse-prefix s o.inside T) ∙ o.closes a (s ∷ T)
      ∙ step (a + length o.inside) T
      ∙ ap (λ i. closing_from i n T) (count a (length o.inside));
}
  where
    count : (a l : ℕ) → suc (a + l) ≡ a + suc l
    count a l = omega arith

abbrev Found : ℕ → ℕ → ℕ → ℕ → List (Option KeptCharacter) → Type 0
Found base level o n B = (sequence_along Backward base level (Passing n o) B ≡ ([], o)) ⊎ Opened B n

found-more : (base level o n m : ℕ) (k : KeptCharacter) (B : List (Option KeptCharacter))
    → step_past_isolate n (scanned_role Backward k.role) ≡ Pass m → step_past_isolate m k.role ≡ Pass n
    → Found base level o m B → Found base level o n (Some k ∷ B)
found-more base level o n m k B behind ahead (inl h) =
    inl (sequence_along-sequence_step Backward base level (Passing n o) k B (Pass m) behind ∙ h)
found-more base level o n m k B behind ahead (inr h) =
    inr (opened-more (Some k) B n m (λ a T. closing_from-step a m k T (Pass n) ahead) h)

found-by : (base level o n : ℕ) (k : KeptCharacter) (B : List (Option KeptCharacter)) (role : IsolateRole)
    → k.role ≡ role → ((m : ℕ) → Found base level o m B) → Found base level o n (Some k ∷ B)
found-by base level o n k B Terminates is more =
    found-more base level o n (suc n) k B (ap (λ r. step_past_isolate n (scanned_role Backward r)) is)
    (ap (step_past_isolate (suc n)) is) (more (suc n))
found-by base level o zero k B Initiates is more = inr (record {
  inside = [];
  begin = k;
  back = B;
  is = refl;
  opens = is;
  closes = λ a T. ap (λ i. closing_from i 0 T) (none a);
})
  where
    none : (a : ℕ) → a ≡ a + 0
    none a = omega arith
found-by base level o (suc n) k B Initiates is more =
    found-more base level o (suc n) n k B (ap (λ r. step_past_isolate (suc n) (scanned_role Backward r)) is)
    (ap (step_past_isolate n) is) (more n)
found-by base level o n k B Neither is more =
    found-more base level o n n k B (ap (λ r. step_past_isolate n (scanned_role Backward r)) is)
    (ap (step_past_isolate n) is) (more n)

pub find : (base level o : ℕ) (B : List (Option KeptCharacter)) (n : ℕ) → Found base level o n B
find base level o [] n = inl refl
find base level o (None ∷ B) n = elim (find base level o B n) as (λ v. Found base level o n (None ∷ B)) [
  | inl h ↦ inl h
  | inr h ↦ inr (opened-more None B n n (λ a T. refl) h)
]
find base level o (Some k ∷ B) n = found-by base level o n k B k.role refl (find base level o B)

-- what stands before a character: its sequence begins with it, or goes on from the kept character before it, or that
-- has another level and an isolate is open that the character ends
pub record SameBefore (back : List (Option KeptCharacter)) (k : KeptCharacter) : Type 0 where
  pub between : List (Option KeptCharacter)
  pub near : KeptCharacter
  pub rest : List (Option KeptCharacter)
  pub is : back ≡ between ++ Some near ∷ rest
  pub removed : AllRemoved between
  pub same : near.level ≡ k.level

pub record EndsIsolateOf (base : ℕ) (back : List (Option KeptCharacter)) (k : KeptCharacter) : Type 0 where
  pub opened : Opened back 0
  pub ends : k.role ≡ Terminates
  pub differs : level_behind base back ≡ k.level → ⊥

pub data Before (base : ℕ) (back : List (Option KeptCharacter)) (k : KeptCharacter) : Type 0 where
  is_first : before_in base back k ≡ ([], level_behind base back) → Before base back k
  is_beside : SameBefore back k → Before base back k
  is_end : EndsIsolateOf base back k → Before base back k

before-removed : (base : ℕ) (B : List (Option KeptCharacter)) (k : KeptCharacter) → Before base B k
    → Before base (None ∷ B) k
before-removed base B k (is_first h) = is_first h
before-removed base B k (is_beside h) = is_beside (record {
  between = None ∷ h.between;
  near = h.near;
  rest = h.rest;
  is = ap (λ l. None ∷ l) h.is;
  removed = removed_more h.removed;
  same = h.same;
})
before-removed base B k (is_end h) = is_end (record {
  opened = opened-more None B 0 0 (λ a T. refl) h.opened;
  ends = h.ends;
  differs = h.differs;
})

-- a character that enters an isolate backward, beside one of another level
taking-passing : (scan : Scan) (base level : ℕ) (q : KeptCharacter) (B : List (Option KeptCharacter))
    → (q.level == level) ≡ false → sequence_along scan base level (Taking true) (Some q ∷ B)
    ≡ sequence_along scan base level (Passing 0 (unmatched_level scan base q.level)) (Some q ∷ B)
taking-passing scan base level q B other =
    sequence_along-sequence_step scan base level (Taking true) q B (step_past_isolate 0 (scanned_role scan q.role))
    (ap (λ b. step_in_sequence b true (scanned_role scan q.role)) other)
    ∙ sym (sequence_along-sequence_step scan base level (Passing 0 (unmatched_level scan base q.level)) q B
    (step_past_isolate 0 (scanned_role scan q.role)) refl)

pub passes_into : (scan : Scan) (base level : ℕ) (q : KeptCharacter) (B : List (Option KeptCharacter))
    → (q.level == level) ≡ false → sequence_along scan base level (Taking true) (Some q ∷ B)
    ≡ sequence_along scan base level (Passing 0 (unmatched_level scan base q.level)) (Some q ∷ B)
passes_into scan base level q B other = taking-passing scan base level q B other

pub stops : (scan : Scan) (base level : ℕ) (q : KeptCharacter) (B : List (Option KeptCharacter))
    → (q.level == level) ≡ false → sequence_along scan base level (Taking false) (Some q ∷ B) ≡ ([], q.level)
stops scan base level q B other = sequence_along-sequence_step scan base level (Taking false) q B Stop
    (ap (λ b. step_in_sequence b false (scanned_role scan q.role)) other)

before-other : (base : ℕ) (q : KeptCharacter) (B : List (Option KeptCharacter)) (k : KeptCharacter)
    → (q.level == k.level) ≡ false → (role : IsolateRole) → k.role ≡ role → Before base (Some q ∷ B) k
before-other base q B k other Terminates is =
    let entered : before_in base (Some q ∷ B) k
    ≡ sequence_along Backward base k.level (Passing 0 q.level) (Some q ∷ B) =
    ap (λ r. sequence_along Backward base k.level (Taking (enters_isolate (scanned_role Backward r))) (Some q ∷ B)) is
    ∙ taking-passing Backward base k.level q B other in
    elim (find base k.level q.level (Some q ∷ B) 0) [
      | inl h ↦ is_first (entered ∙ h)
      | inr h ↦ is_end (record {
        opened = h;
        ends = is;
        differs = λ e. both_ways (q.level == k.level) other (eq-eqb q.level k.level e);
      })
    ]
before-other base q B k other Initiates is = is_first
    (ap (λ r. sequence_along Backward base k.level (Taking (enters_isolate (scanned_role Backward r))) (Some q ∷ B)) is
    ∙ stops Backward base k.level q B other)
before-other base q B k other Neither is = is_first
    (ap (λ r. sequence_along Backward base k.level (Taking (enters_isolate (scanned_role Backward r))) (Some q ∷ B)) is
    ∙ stops Backward base k.level q B other)

pub before : (base : ℕ) (back : List (Option KeptCharacter)) (k : KeptCharacter) → Before base back k
before base [] k = is_first refl
before base (None ∷ B) k = before-removed base B k (before base B k)
before base (Some q ∷ B) k =
    elim (cases_Bool (q.level == k.level)) [
      | inl same ↦ is_beside (record {
        between = [];
        near = q;
        rest = B;
        is = refl;
        removed = removed_end;
        same = eqb-true q.level k.level same;
      })
      | inr other ↦ before-other base q B k other k.role refl
    ]
