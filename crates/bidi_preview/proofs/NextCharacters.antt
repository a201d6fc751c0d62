-- Where a sequence goes on in a line, by indexes: the next character and the one before it are neighbours; where it
-- ends, nothing follows; and a character that isn't the first of its sequence is the next one of another.
use Rattle.std.proofs.Common.{◌≡◌, ℕ, suc, ◌+◌, ◌<◌, true, false, ◌==◌, ◌⊎◌, inl, inr, List, [], ◌∷◌}
use Rattle.std.proofs.Common.{◌++◌}
use Rattle.std.proofs.Common.{reverse, drop, get_or, length, refl, sym, ap, subst, ◌∙◌, append_assoc, arith}
use Rattle.std.proofs.Common.{length-append, Option, Some, None, if◌then◌else◌}
use Rattle.std.proofs.lemmas.Bool.{both_ways, cases_Bool, cond-true, cond-false, eq-eqb, eqb-true, ne_eqb}
use Rattle.std.proofs.lemmas.List.{get_or-append-add, length-reverse, reverse-append, reverse-reverse}
use Rattle.std.proofs.Math.Seq.{drop-append-add}
use Rattle.bidi_order.specs.DirectionalStatus.{DirectionalStatus}
use Rattle.bidi_order.specs.Explicit.{IsolateRole, KeptCharacter, explicit_from}
use Rattle.bidi_order.specs.Explicit.IsolateRole.{Initiates, Terminates, Neither}
use Rattle.bidi_order.specs.Sequences.{enters_isolate, scanned_role, sequence_along, step_past_isolate}
use Rattle.bidi_order.specs.Sequences.Scan.{Forward}
use Rattle.bidi_order.specs.Sequences.Following.{Taking, Passing}
use Rattle.bidi_order.specs.Sequences.SequenceStep.{Take}
use Rattle.bidi_order.proofs.FollowedSequences.{Above, Above-Within}
use Rattle.bidi_order.proofs.FollowedSequences.Above.{above_end, above_none, above_some}
use Rattle.bidi_preview.specs.NextCharacter.{closing_from, goes_past, leading_removed, level_behind}
use Rattle.bidi_preview.specs.NextCharacter.{next_character, next_from}
use Rattle.bidi_preview.specs.NextCharacter.NextCharacter.{GoesOn, Ends}
use Rattle.bidi_preview.proofs.Following.{AllRemoved, AllRemoved-reverse, Led, along-removed, closing_from-step, led}
use Rattle.bidi_preview.proofs.Following.{passing-none}
use Rattle.bidi_preview.proofs.Following.AllRemoved.{removed_end, removed_more}
use Rattle.bidi_preview.proofs.OverflowIsolates.{AllAt}
use Rattle.bidi_preview.proofs.OverflowIsolates.AllAt.{at_end, at_none, at_some}
use Rattle.bidi_preview.proofs.Isolates.{Pair, pair_at}
use Rattle.bidi_preview.proofs.Neighbours.{Neighbours, after_in, before_in, neighbours-isolate, neighbours-removed}
use Rattle.bidi_preview.proofs.Behind.{Opened, SameBefore, before, passes_into, stops}
use Rattle.bidi_preview.proofs.Behind.Before.{is_first, is_beside, is_end}

-- ---- the next character, by the parts of a line

dropped : {A : Type 0} (xs : List A) (x : A) (ys : List A) → drop (suc (length xs)) (xs ++ x ∷ ys) ≡ ys
dropped xs x ys = ap (λ n. drop n (xs ++ x ∷ ys)) (one (length xs)) ∙ drop-append-add xs (x ∷ ys) 1
  where
    one : (n : ℕ) → suc n ≡ n + 1
    one n = omega arith

leading-removed : (U R : List (Option KeptCharacter)) → AllRemoved U
    → leading_removed (U ++ R) ≡ length U + leading_removed R
leading-removed U R removed_end = omega arith
leading-removed U R (removed_more {U = V} h) = ap suc (leading-removed V R h) ∙ count (length V) (leading_removed R)
  where
    count : (a b : ℕ) → suc (a + b) ≡ suc a + b
    count a b = omega arith

add-none : (n : ℕ) → n + 0 ≡ n
add-none n = omega arith

-- the head of a list of characters
abbrev head_of : List (Option KeptCharacter) → Option KeptCharacter
head_of [] = None
head_of (x ∷ xs) = x

get_or-head : (A R : List (Option KeptCharacter)) → get_or (A ++ R) (length A + 0) None ≡ head_of R
get_or-head A [] = get_or-append-add A [] 0 None
get_or-head A (x ∷ R) = get_or-append-add A (x ∷ R) 0 None

next-parts : (base : ℕ) (A : List (Option KeptCharacter)) (k : KeptCharacter) (U R : List (Option KeptCharacter))
    → AllRemoved U → leading_removed R ≡ 0 → next_character base (A ++ Some k ∷ (U ++ R)) (length A) k
    ≡ next_from base k (closing_from (suc (length A)) 0 (U ++ R)) (suc (length A) + length U) (head_of R)
next-parts base A k U R removed first =
    ap (λ l. next_from base k (closing_from (suc (length A)) 0 l) (suc (length A) + leading_removed l)
    (get_or line (suc (length A) + leading_removed l) None)) (dropped A (Some k) (U ++ R))
    ∙ ap (λ n. next_from base k (closing_from (suc (length A)) 0 (U ++ R)) (suc (length A) + n)
    (get_or line (suc (length A) + n) None)) count
    ∙ ap (next_from base k (closing_from (suc (length A)) 0 (U ++ R)) (suc (length A) + length U)) here
  where
    line : List (Option KeptCharacter)
    line = A ++ Some k ∷ (U ++ R)

    count : leading_removed (U ++ R) ≡ length U
    count = leading-removed U R removed ∙ ap (λ n. length U + n) first ∙ add-none (length U)

    place : (a u : ℕ) → suc a + u ≡ a + suc (u + 0)
    place a u = omega arith

    here : get_or line (suc (length A) + length U) None ≡ head_of R
    here = ap (λ n. get_or line n None) (place (length A) (length U))
        ∙ get_or-append-add A (Some k ∷ (U ++ R)) (suc (length U + 0)) None ∙ get_or-head U R

-- ---- levels at one number

AllAt-removed : (l : ℕ) (U : List (Option KeptCharacter)) → AllRemoved U → AllAt l U
AllAt-removed l U removed_end = at_end
AllAt-removed l U (removed_more {U = V} h) = at_none (AllAt-removed l V h)

AllAt-append : (l : ℕ) (U V : List (Option KeptCharacter)) → AllAt l U → AllAt l V → AllAt l (U ++ V)
AllAt-append l U V at_end h = h
AllAt-append l U V (at_none {V = T} g) h = at_none (AllAt-append l T V g h)
AllAt-append l U V (at_some {V = T} e g) h = at_some e (AllAt-append l T V g h)

AllAt-reverse : (l : ℕ) (U : List (Option KeptCharacter)) → AllAt l U → AllAt l (reverse U)
AllAt-reverse l U at_end = at_end
AllAt-reverse l U (at_none {V = T} h) = subst (AllAt l) (sym (reverse-append (None ∷ []) T))
    (AllAt-append l (reverse T) (None ∷ []) (AllAt-reverse l T h) (at_none at_end))
AllAt-reverse l U (at_some {k = k} {V = T} e h) = subst (AllAt l) (sym (reverse-append (Some k ∷ []) T))
    (AllAt-append l (reverse T) (Some k ∷ []) (AllAt-reverse l T h) (at_some e at_end))

level_behind-at : (base l : ℕ) (W : List (Option KeptCharacter)) (p : KeptCharacter)
    (B : List (Option KeptCharacter)) → AllAt l W → p.level ≡ l → level_behind base (W ++ Some p ∷ B) ≡ l
level_behind-at base l W p B at_end e = e
level_behind-at base l W p B (at_none {V = V} h) e = level_behind-at base l V p B h e
level_behind-at base l W p B (at_some g h) e = g

-- the first kept character of a list at one level
first-at : (l : ℕ) (M : List (Option KeptCharacter)) (e : KeptCharacter) (T : List (Option KeptCharacter))
    (U : List (Option KeptCharacter)) (q : KeptCharacter) (R : List (Option KeptCharacter)) → AllAt l M → e.level ≡ l
    → AllRemoved U → M ++ Some e ∷ T ≡ U ++ Some q ∷ R → q.level ≡ l
first-at l M e T U q R at_end at removed_end is =
    let same : e ≡ q = cc in sym (ap (λ (k : KeptCharacter). k.level) same) ∙ at
first-at l M e T U q R at_end at (removed_more {U = V} h) is = absurd (cc)
first-at l M e T U q R (at_none {V = V} g) at removed_end is = absurd (cc)
first-at l M e T U q R (at_none {V = V} g) at (removed_more {U = W} h) is =
    let rest : V ++ Some e ∷ T ≡ W ++ Some q ∷ R = cc in first-at l V e T W q R g at h rest
first-at l M e T U q R (at_some {k = k} g h) at removed_end is =
    let same : k ≡ q = cc in sym (ap (λ (k : KeptCharacter). k.level) same) ∙ g
first-at l M e T U q R (at_some {k = k} g h) at (removed_more r) is = absurd (cc)

-- two lists cut alike
cut_alike : {A : Type 0} (a b x y : List A) → a ++ x ≡ b ++ y → length a ≡ length b → (a ≡ b) × (x ≡ y)
cut_alike [] [] x y is long = (refl, is)
cut_alike [] (c ∷ b) x y is long = absurd (omega arith)
cut_alike (c ∷ a) [] x y is long = absurd (omega arith)
cut_alike (c ∷ a) (d ∷ b) x y is long =
    let first : c ≡ d = cc in
    let rest : a ++ x ≡ b ++ y = cc in
    let more = cut_alike a b x y rest (omega arith) in
    (ap (λ z. z ∷ a) first ∙ ap (λ l. d ∷ l) more.0, more.1)

-- ---- where the sequence goes on

pub record NextAt (base : ℕ) (A : List (Option KeptCharacter)) (k : KeptCharacter)
    (R : List (Option KeptCharacter)) (j : ℕ) : Type 0 where
  pub between : List (Option KeptCharacter)
  pub next : KeptCharacter
  pub rest : List (Option KeptCharacter)
  pub is : R ≡ between ++ Some next ∷ rest
  pub index : j ≡ suc (length A) + length between
  pub neighbours : Neighbours base (reverse A) k between next rest

enters_is : (role : IsolateRole) → enters_isolate role ≡ true → role ≡ Initiates
enters_is Initiates e = refl
enters_is Terminates e = absurd (both_ways false refl e)
enters_is Neither e = absurd (both_ways false refl e)

goes_is : (i j : ℕ) → GoesOn i ≡ GoesOn j → i ≡ j
goes_is i j e = cc

never_goes : (l j : ℕ) → Ends l ≡ GoesOn j → ⊥
never_goes l j e = cc

ends_are : (i j : ℕ) → Ends i ≡ Ends j → i ≡ j
ends_are i j e = cc

-- by the first kept character after it
next-led : (base : ℕ) (A : List (Option KeptCharacter)) (k : KeptCharacter) (R : List (Option KeptCharacter))
    (l : Led R) (rest : List (Option KeptCharacter)) → l.rest ≡ rest → leading_removed rest ≡ 0
    → next_character base (A ++ Some k ∷ R) (length A) k
    ≡ next_from base k (closing_from (suc (length A)) 0 R) (suc (length A) + length l.front) (head_of rest)
next-led base A k R l rest e first =
    let parts : R ≡ l.front ++ rest = l.is ∙ ap (λ t. l.front ++ t) e in
    ap (λ r. next_character base (A ++ Some k ∷ r) (length A) k) parts
    ∙ next-parts base A k l.front rest l.removed first
    ∙ ap (λ r. next_from base k (closing_from (suc (length A)) 0 r) (suc (length A) + length l.front) (head_of rest))
    (sym parts)

module _ (base : ℕ) (s : DirectionalStatus) (line : List ℕ) (A : List (Option KeptCharacter)) (k : KeptCharacter)
    (R : List (Option KeptCharacter)) (is : explicit_from s line ≡ A ++ Some k ∷ R) where
  -- past an isolate
  goes-past : (j : ℕ) (U : List (Option KeptCharacter)) (q : KeptCharacter) (T : List (Option KeptCharacter))
      → AllRemoved U → R ≡ U ++ Some q ∷ T → (q.level ≡ k.level → ⊥) → k.role ≡ Initiates → (m : Option ℕ)
      → closing_from (suc (length A)) 0 R ≡ m → goes_past m base ≡ GoesOn j → NextAt base A k R j
  goes-past j U q T removed parts differs opens None found h = absurd (never_goes base j h)
  goes-past j U q T removed parts differs opens (Some m) found h =
      let pair : Pair k R (suc (length A)) m = pair_at s line A k R (suc (length A)) m is opens found in
      elim pair.within [
        | inl within ↦ record {
          between = pair.inside;
          next = pair.end;
          rest = pair.after;
          is = pair.is;
          index = sym (goes_is m j h) ∙ pair.index;
          neighbours = neighbours-isolate base (reverse A) k pair.end pair.inside pair.after pair.opens pair.ends
              pair.same within;
        }
        | inr flat ↦ absurd (differs (first-at k.level pair.inside pair.end pair.after U q T flat (sym pair.same)
            removed (sym pair.is ∙ parts)))
      ]

  goes-kept : (j : ℕ) (U : List (Option KeptCharacter)) (q : KeptCharacter) (T : List (Option KeptCharacter))
      → AllRemoved U → R ≡ U ++ Some q ∷ T
      → next_from base k (closing_from (suc (length A)) 0 R) (suc (length A) + length U) (Some q) ≡ GoesOn j
      → NextAt base A k R j
  goes-kept j U q T removed parts h =
      elim (cases_Bool (q.level == k.level)) [
        | inl same ↦ record {
          between = U;
          next = q;
          rest = T;
          is = parts;
          index = sym (goes_is (suc (length A) + length U) j (sym (cond-true _ _ _ same) ∙ h));
          neighbours = neighbours-removed base (reverse A) k q U T removed (sym (eqb-true q.level k.level same));
        }
        | inr other ↦
            elim (cases_Bool (enters_isolate k.role)) [
              | inl enters ↦ goes-past j U q T removed parts
                  (λ e. both_ways (q.level == k.level) other (eq-eqb q.level k.level e)) (enters_is k.role enters)
                  (closing_from (suc (length A)) 0 R) refl
                  (sym (cond-false _ _ _ other ∙ cond-true _ _ _ enters) ∙ h)
              | inr stays ↦ absurd (never_goes q.level j
                  (sym (cond-false _ _ _ other ∙ cond-false _ _ _ stays) ∙ h))
            ]
      ]

  pub goes_on : (j : ℕ) → next_character base (A ++ Some k ∷ R) (length A) k ≡ GoesOn j → NextAt base A k R j
  goes_on j h =
      let l : Led R = led R in
      elim l.first [
        | inl none ↦ absurd (never_goes base j (sym (next-led base A k R l [] none refl) ∙ h))
        | inr some ↦ goes-kept j l.front some.first some.others l.removed (l.is ∙ ap (λ t. l.front ++ t) some.is)
            (sym (next-led base A k R l (Some some.first ∷ some.others) some.is refl) ∙ h)
      ]

  -- where the sequence ends
  ends-past : (l : ℕ) (q : KeptCharacter) (T U : List (Option KeptCharacter)) → AllRemoved U → R ≡ U ++ Some q ∷ T
      → (q.level == k.level) ≡ false → k.role ≡ Initiates → (m : Option ℕ) → closing_from (suc (length A)) 0 R ≡ m
      → goes_past m base ≡ Ends l → after_in base k R ≡ ([], l)
  ends-past l q T U removed parts other opens (Some m) found h = absurd (never_goes l m (sym h))
  ends-past l q T U removed parts other opens None found h =
      let level_is : base ≡ l = ends_are base l h in
      ap (λ r. sequence_along Forward base k.level (Taking (enters_isolate (scanned_role Forward r))) R) opens
      ∙ ap (sequence_along Forward base k.level (Taking true)) parts
      ∙ along-removed Forward base k.level (Taking true) U (Some q ∷ T) removed
      ∙ passes_into Forward base k.level q T other
      ∙ sym (along-removed Forward base k.level (Passing 0 base) U (Some q ∷ T) removed)
      ∙ sym (ap (sequence_along Forward base k.level (Passing 0 base)) parts)
      ∙ passing-none base k.level (suc (length A)) 0 base R found
      ∙ ap (λ (n : ℕ). ([], n)) level_is

  stays_out : (role : IsolateRole) → enters_isolate role ≡ false → enters_isolate (scanned_role Forward role) ≡ false
  stays_out role e = e

  ends-kept : (l : ℕ) (U : List (Option KeptCharacter)) (q : KeptCharacter) (T : List (Option KeptCharacter))
      → AllRemoved U → R ≡ U ++ Some q ∷ T
      → next_from base k (closing_from (suc (length A)) 0 R) (suc (length A) + length U) (Some q) ≡ Ends l
      → after_in base k R ≡ ([], l)
  ends-kept l U q T removed parts h =
      elim (cases_Bool (q.level == k.level)) [
        | inl same ↦ absurd (never_goes l (suc (length A) + length U) (sym (sym (cond-true _ _ _ same) ∙ h)))
        | inr other ↦
            elim (cases_Bool (enters_isolate k.role)) [
              | inl enters ↦ ends-past l q T U removed parts other (enters_is k.role enters)
                  (closing_from (suc (length A)) 0 R) refl
                  (sym (cond-false _ _ _ other ∙ cond-true _ _ _ enters) ∙ h)
              | inr stays ↦
                  ap (λ b. sequence_along Forward base k.level (Taking b) R) (stays_out k.role stays)
                  ∙ ap (sequence_along Forward base k.level (Taking false)) parts
                  ∙ along-removed Forward base k.level (Taking false) U (Some q ∷ T) removed
                  ∙ stops Forward base k.level q T other
                  ∙ ap (λ (n : ℕ). ([], n)) (ends_are q.level l
                  (sym (cond-false _ _ _ other ∙ cond-false _ _ _ stays) ∙ h))
            ]
      ]

  ends-removed : (U : List (Option KeptCharacter)) → AllRemoved U → R ≡ U ++ [] → after_in base k R ≡ ([], base)
  ends-removed U removed parts =
      ap (sequence_along Forward base k.level (Taking (enters_isolate (scanned_role Forward k.role)))) parts
      ∙ along-removed Forward base k.level (Taking (enters_isolate (scanned_role Forward k.role))) U [] removed

  pub ends_at : (l : ℕ) → next_character base (A ++ Some k ∷ R) (length A) k ≡ Ends l → after_in base k R ≡ ([], l)
  ends_at n h =
      let l : Led R = led R in
      elim l.first [
        | inl none ↦ ends-removed l.front l.removed (l.is ∙ ap (λ t. l.front ++ t) none)
            ∙ ap (λ (n : ℕ). ([], n)) (ends_are base n (sym (next-led base A k R l [] none refl) ∙ h))
        | inr some ↦ ends-kept n l.front some.first some.others l.removed (l.is ∙ ap (λ t. l.front ++ t) some.is)
            (sym (next-led base A k R l (Some some.first ∷ some.others) some.is refl) ∙ h)
      ]

  -- ---- where it comes from

  -- the character before, whose next one it is
  pub record ComesFrom : Type 0 where
    pub prefix : List (Option KeptCharacter)
    pub near : KeptCharacter
    pub between : List (Option KeptCharacter)
    pub before_is : A ≡ prefix ++ Some near ∷ between
    pub goes : next_character base (A ++ Some k ∷ R) (length prefix) near ≡ GoesOn (length A)

  turned : (W B : List (Option KeptCharacter)) (q : KeptCharacter) → reverse A ≡ W ++ Some q ∷ B
      → A ≡ reverse B ++ Some q ∷ reverse W
  turned W B q e =
      sym (reverse-reverse A) ∙ ap reverse e ∙ reverse-append W (Some q ∷ B)
      ∙ ap (λ l. l ++ reverse W) (reverse-append (Some q ∷ []) B)
      ∙ append_assoc (reverse B) (Some q ∷ []) (reverse W)

  joined : (P M : List (Option KeptCharacter)) (q : KeptCharacter) → A ≡ P ++ Some q ∷ M
      → A ++ Some k ∷ R ≡ P ++ Some q ∷ (M ++ Some k ∷ R)
  joined P M q e = ap (λ l. l ++ Some k ∷ R) e ∙ append_assoc P (Some q ∷ M) (Some k ∷ R)

  long : (P M : List (Option KeptCharacter)) (q : KeptCharacter) → A ≡ P ++ Some q ∷ M
      → suc (length P) + length M ≡ length A
  long P M q e = omega (arith, ap length e, length-append P (Some q ∷ M))

  from_beside : SameBefore (reverse A) k → ComesFrom
  from_beside b =
      let parts : A ≡ reverse b.rest ++ Some b.near ∷ reverse b.between = turned b.between b.rest b.near b.is in
      record {
        prefix = reverse b.rest;
        near = b.near;
        between = reverse b.between;
        before_is = parts;
        goes = ap (λ l. next_character base l (length (reverse b.rest)) b.near)
            (joined (reverse b.rest) (reverse b.between) b.near parts)
            ∙ next-parts base (reverse b.rest) b.near (reverse b.between) (Some k ∷ R)
            (AllRemoved-reverse b.between b.removed) refl
            ∙ cond-true _ _ _ (eq-eqb k.level b.near.level (sym b.same))
            ∙ ap GoesOn (long (reverse b.rest) (reverse b.between) b.near parts);
      }

  -- the matching initiator, with what stands in the isolate
  module _ (o : Opened (reverse A) 0) (ends : k.role ≡ Terminates)
      (differs : level_behind base (reverse A) ≡ k.level → ⊥) where
    prefix_is : A ≡ reverse o.back ++ Some o.begin ∷ reverse o.inside
    prefix_is = turned o.inside o.back o.begin o.is

    reversed_long : length (reverse o.inside) ≡ length o.inside
    reversed_long = length-reverse o.inside

    matches : closing_from (suc (length (reverse o.back))) 0 (reverse o.inside ++ Some k ∷ R)
        ≡ Some (length A)
    matches = o.closes (suc (length (reverse o.back))) (Some k ∷ R)
        ∙ closing_from-step (suc (length (reverse o.back)) + length o.inside) 0 k R Take (ap (step_past_isolate 0) ends)
        ∙ ap Some (ap (λ n. suc (length (reverse o.back)) + n) (sym reversed_long)
        ∙ long (reverse o.back) (reverse o.inside) o.begin prefix_is)

    line_is : explicit_from s line ≡ reverse o.back ++ Some o.begin ∷ (reverse o.inside ++ Some k ∷ R)
    line_is = is ∙ joined (reverse o.back) (reverse o.inside) o.begin prefix_is

    the_pair : Pair o.begin (reverse o.inside ++ Some k ∷ R) (suc (length (reverse o.back))) (length A)
    the_pair = pair_at s line (reverse o.back) o.begin (reverse o.inside ++ Some k ∷ R)
        (suc (length (reverse o.back))) (length A) line_is o.opens matches

    parts_alike : (reverse o.inside ≡ the_pair.inside) × (Some k ∷ R ≡ Some the_pair.end ∷ the_pair.after)
    parts_alike = cut_alike (reverse o.inside) the_pair.inside (Some k ∷ R) (Some the_pair.end ∷ the_pair.after)
        the_pair.is (omega (arith, the_pair.index, long (reverse o.back) (reverse o.inside) o.begin prefix_is))

    same_level : o.begin.level ≡ k.level
    same_level = let e : the_pair.end ≡ k = end_is (sym parts_alike.1) in
        the_pair.same ∙ ap (λ (q : KeptCharacter). q.level) e
      where
        end_is : {q : KeptCharacter} {T : List (Option KeptCharacter)} → Some q ∷ T ≡ Some k ∷ R → q ≡ k
        end_is h = cc

    never_flat : AllAt o.begin.level (reverse o.inside) → ⊥
    never_flat flat = differs
        (ap (level_behind base) o.is
        ∙ level_behind-at base o.begin.level o.inside o.begin o.back
        (subst (AllAt o.begin.level) (reverse-reverse o.inside) (AllAt-reverse o.begin.level (reverse o.inside) flat))
        refl ∙ same_level)

    -- the first kept character in the isolate is higher
    first_above : (M : List (Option KeptCharacter)) → Above o.begin.level M → (U : List (Option KeptCharacter))
        (r : KeptCharacter) (V : List (Option KeptCharacter)) → AllRemoved U → M ≡ U ++ Some r ∷ V
        → o.begin.level < r.level
    first_above M above_end U r V removed e = absurd (omega (arith, ap length e, length-append U (Some r ∷ V)))
    first_above M (above_none {V = T} h) [] r V removed e = absurd (cc)
    first_above M (above_none {V = T} h) (None ∷ U) r V (removed_more g) e =
        let rest : T ≡ U ++ Some r ∷ V = cc in first_above T h U r V g rest
    first_above M (above_none {V = T} h) (Some x ∷ U) r V removed e = absurd (cc)
    first_above M (above_some {k = x} {V = T} l h) [] r V removed e =
        let same : x ≡ r = cc in subst (λ (q : KeptCharacter). o.begin.level < q.level) same l
    first_above M (above_some {k = x} {V = T} l h) (None ∷ U) r V removed e = absurd (cc)
    first_above M (above_some {k = x} {V = T} l h) (Some y ∷ U) r V removed e = absurd (some_removed removed)
      where
        some_removed : {y : KeptCharacter} {U : List (Option KeptCharacter)} → AllRemoved (Some y ∷ U) → ⊥
        some_removed h = elim h [ ]

    from_inside : (U : List (Option KeptCharacter)) (r : KeptCharacter) (V : List (Option KeptCharacter))
        → AllRemoved U → reverse o.inside ≡ U ++ Some r ∷ V → o.begin.level < r.level → ComesFrom
    from_inside U r V removed e high = record {
      prefix = reverse o.back;
      near = o.begin;
      between = reverse o.inside;
      before_is = prefix_is;
      goes = ap (λ l. next_character base l (length (reverse o.back)) o.begin)
          (joined (reverse o.back) (reverse o.inside) o.begin prefix_is)
          ∙ ap (λ l. next_character base (reverse o.back ++ Some o.begin ∷ l) (length (reverse o.back)) o.begin) tail
          ∙ next-parts base (reverse o.back) o.begin U (Some r ∷ (V ++ Some k ∷ R)) removed refl
          ∙ cond-false _ _ _ (ne_eqb r.level o.begin.level (λ h. omega arith))
          ∙ ap (λ role. if enters_isolate role
          then goes_past (closing_from (suc (length (reverse o.back))) 0 (U ++ Some r ∷ (V ++ Some k ∷ R))) base
          else Ends r.level) o.opens
          ∙ ap (λ l. goes_past (closing_from (suc (length (reverse o.back))) 0 l) base) (sym tail)
          ∙ ap (λ m. goes_past m base) matches;
    }
      where
        tail : reverse o.inside ++ Some k ∷ R ≡ U ++ Some r ∷ (V ++ Some k ∷ R)
        tail = ap (λ l. l ++ Some k ∷ R) e ∙ append_assoc U (Some r ∷ V) (Some k ∷ R)

    from_end : ComesFrom
    from_end =
        elim the_pair.within [
          | inr flat ↦ absurd (never_flat (subst (AllAt o.begin.level) (sym parts_alike.0) flat))
          | inl within ↦
              let l : Led (reverse o.inside) = led (reverse o.inside) in
              elim l.first [
                | inl none ↦ absurd (never_flat (subst (AllAt o.begin.level)
                    (sym (l.is ∙ ap (λ t. l.front ++ t) none))
                    (AllAt-append o.begin.level l.front [] (AllAt-removed o.begin.level l.front l.removed) at_end)))
                | inr some ↦
                    let parts : reverse o.inside ≡ l.front ++ Some some.first ∷ some.others =
                    l.is ∙ ap (λ t. l.front ++ t) some.is in
                    from_inside l.front some.first some.others l.removed parts
                    (first_above (reverse o.inside)
                    (subst (Above o.begin.level) (sym parts_alike.0) (Above-Within within)) l.front some.first
                    some.others l.removed parts)
              ]
        ]

  -- a character is the first of its sequence, or the next one of another
  pub begins : (before_in base (reverse A) k ≡ ([], level_behind base (reverse A))) ⊎ ComesFrom
  begins = elim (before base (reverse A) k) [
    | is_first h ↦ inl h
    | is_beside h ↦ inr (from_beside h)
    | is_end h ↦ inr (from_end h.opened h.ends h.differs)
  ]
