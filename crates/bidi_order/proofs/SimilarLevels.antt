-- Lines that differ in what their values hold: the same levels outside, and the same least level between two indexes
-- outside.
use Rattle.std.proofs.Common.{◌≡◌, ℕ, ◌+◌, ◌<◌, ◌≤◌, min, max, true, List, [], ◌∷◌, ◌++◌, reverse, map, length, refl}
use Rattle.std.proofs.Common.{sym, ap, subst, ◌∙◌, append_assoc, length-append, arith, Option, Some, None}
use Rattle.std.proofs.lemmas.List.{length-reverse}
use Rattle.bidi_order.specs.Explicit.{SequenceCharacter, KeptCharacter}
use Rattle.bidi_order.specs.Explicit.IsolateRole.{Initiates, Terminates}
use Rattle.bidi_order.specs.Sequences.{scanned_role, enters_isolate, sequence_along, side_class, resolved_level}
use Rattle.bidi_order.specs.Sequences.Scan.{Forward, Backward}
use Rattle.bidi_order.specs.Sequences.Following.{Taking}
use Rattle.bidi_order.specs.VisualOrder.{least_level}
use Rattle.bidi_order.proofs.FollowedSequences.{Within, Above, Above-Within}
use Rattle.bidi_order.proofs.FollowedSequences.Above.{above_end, above_none, above_some}
use Rattle.bidi_order.proofs.DeletedContent.{Same, Same-more, resolved_level-same, levels_in, past, past-reverse, ahead}
use Rattle.bidi_order.proofs.DeletedContent.{ahead_inside, behind, behind_inside}
use Rattle.bidi_order.proofs.LevelBounds.{is_steady, Steady, resolve-ge, resolve-le}
use Rattle.bidi_order.proofs.LevelBounds.Steady.{steady_here, steady_later}

-- the bounds of a character's level
in_sequence : (b : List SequenceCharacter) (s : SequenceCharacter) (a : List SequenceCharacter)
    → length b < length (reverse b ++ s ∷ a)
in_sequence b s a = omega (arith, length-append (reverse b) (s ∷ a), length-reverse b)

pub resolved_level-ge : (base : ℕ) (back : List (Option KeptCharacter)) (k : KeptCharacter)
    (rest : List (Option KeptCharacter)) → k.level ≤ resolved_level base back k rest
resolved_level-ge base back k rest =
    let before : List SequenceCharacter × ℕ =
    sequence_along Backward base k.level (Taking (enters_isolate (scanned_role Backward k.role))) back in
    let after : List SequenceCharacter × ℕ =
    sequence_along Forward base k.level (Taking (enters_isolate (scanned_role Forward k.role))) rest in
    resolve-ge k.level (side_class (max k.level before.1)) (side_class (max k.level after.1))
    (reverse before.0 ++ k.resolved ∷ after.0) (length before.0) (in_sequence before.0 k.resolved after.0)

steady-at : (b : List SequenceCharacter) (s : SequenceCharacter) (a : List SequenceCharacter)
    → is_steady s.class ≡ true → Steady (length b) (map (λ (s : SequenceCharacter). s.class) (b ++ s ∷ a))
steady-at [] s a h = steady_here h
steady-at (t ∷ b) s a h = steady_later (steady-at b s a h)

pub resolved_level-le : (base : ℕ) (back : List (Option KeptCharacter)) (k : KeptCharacter)
    (rest : List (Option KeptCharacter)) → is_steady k.resolved.class ≡ true
    → resolved_level base back k rest ≤ k.level + 1
resolved_level-le base back k rest steady =
    let before : List SequenceCharacter × ℕ =
    sequence_along Backward base k.level (Taking (enters_isolate (scanned_role Backward k.role))) back in
    let after : List SequenceCharacter × ℕ =
    sequence_along Forward base k.level (Taking (enters_isolate (scanned_role Forward k.role))) rest in
    resolve-le k.level (side_class (max k.level before.1)) (side_class (max k.level after.1))
    (reverse before.0 ++ k.resolved ∷ after.0) (length before.0) (in_sequence before.0 k.resolved after.0)
    (subst (λ n. Steady n (map (λ (s : SequenceCharacter). s.class) (reverse before.0 ++ k.resolved ∷ after.0)))
    (length-reverse before.0) (steady-at (reverse before.0) k.resolved after.0 steady))

-- an isolate of a value
pub record IsValue (i p : KeptCharacter) (V : List (Option KeptCharacter)) : Type 0 where
  pub opens : i.role ≡ Initiates
  pub ends : p.role ≡ Terminates
  pub same : i.level ≡ p.level
  pub within : Within i.level 0 V
  pub steady : is_steady i.resolved.class ≡ true
  pub steady_end : is_steady p.resolved.class ≡ true

-- two lists that differ in what values hold
pub data Similar : List (Option KeptCharacter) → List (Option KeptCharacter) → Type 0 where
  similar_end : Similar [] []
  similar_shared : {s : Option KeptCharacter} {X Y : List (Option KeptCharacter)} → Similar X Y
      → Similar (s ∷ X) (s ∷ Y)
  similar_value : {i p : KeptCharacter} {U V X Y : List (Option KeptCharacter)} → IsValue i p U → IsValue i p V
      → Similar X Y → Similar (Some i ∷ (U ++ Some p ∷ X)) (Some i ∷ (V ++ Some p ∷ Y))

-- a value's isolate, passed over forward and backward
pub over_ahead : (base : ℕ) (i p : KeptCharacter) (V X R : List (Option KeptCharacter)) → IsValue i p V
    → Same Forward base ((Some i ∷ (V ++ Some p ∷ X)) ++ R) (Some i ∷ Some p ∷ (X ++ R))
over_ahead base i p V X R v level w =
    ap (λ l. sequence_along Forward base level w (Some i ∷ l)) (append_assoc V (Some p ∷ X) R)
    ∙ ahead base [] i p V (X ++ R) v.opens v.ends v.same v.within level w

pub Same-Similar : (base : ℕ) (X Y R S : List (Option KeptCharacter)) → Similar X Y → Same Forward base R S
    → Same Forward base (X ++ R) (Y ++ S)
Same-Similar base X Y R S similar_end same = same
Same-Similar base X Y R S (similar_shared {s = s} {X = X'} {Y = Y'} h) same =
    Same-more Forward base s (X' ++ R) (Y' ++ S) (Same-Similar base X' Y' R S h same)
Same-Similar base X Y R S (similar_value {i = i} {p = p} {U = U} {V = V} {X = X'} {Y = Y'} u v h) same =
    λ level w. over_ahead base i p U X' R u level w
    ∙ Same-more Forward base (Some i) (Some p ∷ (X' ++ R)) (Some p ∷ (Y' ++ S))
    (Same-more Forward base (Some p) (X' ++ R) (Y' ++ S) (Same-Similar base X' Y' R S h same)) level w
    ∙ sym (over_ahead base i p V Y' S v level w)

pub past-append : (back A B : List (Option KeptCharacter)) → past back (A ++ B) ≡ past (past back A) B
unfolding past
past-append back [] B = refl
past-append back (s ∷ A) B = past-append (s ∷ back) A B

-- what stands behind a value
pub behind_value : (i p : KeptCharacter) (V X back : List (Option KeptCharacter))
    → past back (Some i ∷ (V ++ Some p ∷ X)) ≡ past (Some p ∷ (reverse V ++ Some i ∷ back)) X
unfolding past
behind_value i p V X back = past-append (Some i ∷ back) V (Some p ∷ X)
    ∙ ap (λ b. past (Some p ∷ b) X) (past-reverse (Some i ∷ back) V)

pub over_behind : (base : ℕ) (i p : KeptCharacter) (U V back back' : List (Option KeptCharacter)) → IsValue i p U
    → IsValue i p V → Same Backward base back back'
    → Same Backward base (Some p ∷ (reverse U ++ Some i ∷ back)) (Some p ∷ (reverse V ++ Some i ∷ back'))
over_behind base i p U V back back' u v same level w =
    behind base [] i p U [] u.opens u.ends u.same u.within back level w
    ∙ Same-more Backward base (Some p) (Some i ∷ back) (Some i ∷ back')
    (Same-more Backward base (Some i) back back' same) level w
    ∙ sym (behind base [] i p V [] v.opens v.ends v.same v.within back' level w)

pub Same-past : (base : ℕ) (X Y back back' : List (Option KeptCharacter)) → Similar X Y
    → Same Backward base back back' → Same Backward base (past back X) (past back' Y)
unfolding past
Same-past base X Y back back' similar_end same = same
Same-past base X Y back back' (similar_shared {s = s} {X = X'} {Y = Y'} h) same =
    Same-past base X' Y' (s ∷ back) (s ∷ back') h (Same-more Backward base s back back' same)
Same-past base X Y back back' (similar_value {i = i} {p = p} {U = U} {V = V} {X = X'} {Y = Y'} u v h) same =
    λ level w. ap (sequence_along Backward base level w) (behind_value i p U X' back)
    ∙ Same-past base X' Y' (Some p ∷ (reverse U ++ Some i ∷ back)) (Some p ∷ (reverse V ++ Some i ∷ back')) h
    (over_behind base i p U V back back' u v same) level w
    ∙ sym (ap (sequence_along Backward base level w) (behind_value i p V Y' back'))

-- the least level of two lists one after the other
pub least_level-append : (n : ℕ) (a b : List (Option ℕ)) → least_level n (a ++ b) ≡ least_level (least_level n a) b
least_level-append n [] b = refl
least_level-append n (None ∷ a) b = least_level-append n a b
least_level-append n (Some l ∷ a) b = least_level-append (min n l) a b

pub levels_in-append : (base : ℕ) (back A B rest : List (Option KeptCharacter)) → levels_in base back (A ++ B) rest
    ≡ levels_in base back A (B ++ rest) ++ levels_in base (past back A) B rest
unfolding levels_in past
levels_in-append base back [] B rest = refl
levels_in-append base back (None ∷ A) B rest = ap (λ l. None ∷ l) (levels_in-append base (None ∷ back) A B rest)
levels_in-append base back (Some k ∷ A) B rest =
    ap (λ r. Some (resolved_level base back k r) ∷ levels_in base (Some k ∷ back) (A ++ B) rest) (append_assoc A B rest)
    ∙ ap (λ l. Some (resolved_level base back k (A ++ (B ++ rest))) ∷ l)
    (levels_in-append base (Some k ∷ back) A B rest)

-- what stands in a value is no lower than its initiator
pub least-inside : (base n low : ℕ) (back V rest : List (Option KeptCharacter)) → Above low V → n ≤ low + 1
    → least_level n (levels_in base back V rest) ≡ n
unfolding levels_in
least-inside base n low back V rest above_end h = refl
least-inside base n low back V rest (above_none {V = V'} a) h = least-inside base n low (None ∷ back) V' rest a h
least-inside base n low back V rest (above_some {k = k} {V = V'} l a) h =
    let same : min n (resolved_level base back k (V' ++ rest)) ≡ n =
    omega (arith, resolved_level-ge base back k (V' ++ rest)) in
    ap (λ m. least_level m (levels_in base (Some k ∷ back) V' rest)) same ∙ least-inside base n low (Some k ∷ back) V'
    rest a h

-- the least level over a value is that of its initiator and its PDI
least-value : (base n : ℕ) (back : List (Option KeptCharacter)) (i p : KeptCharacter)
    (V X rest : List (Option KeptCharacter)) → IsValue i p V
    → least_level n (levels_in base back (Some i ∷ (V ++ Some p ∷ X)) rest)
    ≡ least_level (min (min n (resolved_level base back i (Some p ∷ (X ++ rest))))
    (resolved_level base (Some i ∷ back) p (X ++ rest)))
    (levels_in base (Some p ∷ (reverse V ++ Some i ∷ back)) X rest)
unfolding levels_in past
least-value base n back i p V X rest v =
    let after : (V ++ Some p ∷ X) ++ rest ≡ V ++ Some p ∷ (X ++ rest) = append_assoc V (Some p ∷ X) rest in
    let at_i : resolved_level base back i ((V ++ Some p ∷ X) ++ rest) ≡ resolved_level base back i
    (Some p ∷ (X ++ rest)) =
    ap (resolved_level base back i) after ∙ resolved_level-same base back back i (V ++ Some p ∷ (X ++ rest))
    (Some p ∷ (X ++ rest)) refl (ahead_inside base [] i p V (X ++ rest) v.opens v.ends v.same v.within) in
    let low : ℕ = min n (resolved_level base back i (Some p ∷ (X ++ rest))) in
    let at_most : low ≤ i.level + 1 = omega (arith, resolved_level-le base back i (Some p ∷ (X ++ rest)) v.steady) in
    let behind_p : past (Some i ∷ back) V ≡ reverse V ++ Some i ∷ back = past-reverse (Some i ∷ back) V in
    ap (λ m. least_level (min n m) (levels_in base (Some i ∷ back) (V ++ Some p ∷ X) rest)) at_i
    ∙ ap (least_level low) (levels_in-append base (Some i ∷ back) V (Some p ∷ X) rest)
    ∙ least_level-append low (levels_in base (Some i ∷ back) V (Some p ∷ (X ++ rest)))
    (levels_in base (past (Some i ∷ back) V) (Some p ∷ X) rest)
    ∙ ap (λ m. least_level m (levels_in base (past (Some i ∷ back) V) (Some p ∷ X) rest))
    (least-inside base low i.level (Some i ∷ back) V (Some p ∷ (X ++ rest)) (Above-Within v.within) at_most)
    ∙ ap (λ b. least_level (min low (resolved_level base b p (X ++ rest))) (levels_in base (Some p ∷ b) X rest))
    behind_p
    ∙ ap (λ m. least_level (min low m) (levels_in base (Some p ∷ (reverse V ++ Some i ∷ back)) X rest))
    (resolved_level-same base (reverse V ++ Some i ∷ back) (Some i ∷ back) p (X ++ rest) (X ++ rest)
    (behind_inside base [] i p V [] v.opens v.ends v.same v.within back) refl)

-- the least level between two indexes outside is the same
pub least-Similar : (base n : ℕ) (X Y back back' rest rest' : List (Option KeptCharacter)) → Similar X Y
    → Same Backward base back back' → Same Forward base rest rest'
    → least_level n (levels_in base back X rest) ≡ least_level n (levels_in base back' Y rest')
unfolding levels_in
least-Similar base n X Y back back' rest rest' similar_end b a = refl
least-Similar base n X Y back back' rest rest' (similar_shared {s = None} {X = X'} {Y = Y'} h) b a =
    least-Similar base n X' Y' (None ∷ back) (None ∷ back') rest rest' h (Same-more Backward base None back back' b) a
least-Similar base n X Y back back' rest rest' (similar_shared {s = Some k} {X = X'} {Y = Y'} h) b a =
    ap (λ m. least_level (min n m) (levels_in base (Some k ∷ back) X' rest))
    (resolved_level-same base back back' k (X' ++ rest) (Y' ++ rest')
    (b k.level (Taking (enters_isolate (scanned_role Backward k.role))))
    (Same-Similar base X' Y' rest rest' h a k.level (Taking (enters_isolate (scanned_role Forward k.role)))))
    ∙ least-Similar base (min n (resolved_level base back' k (Y' ++ rest'))) X' Y' (Some k ∷ back) (Some k ∷ back')
    rest rest' h (Same-more Backward base (Some k) back back' b) a
least-Similar base n X Y back back' rest rest' (similar_value {i = i} {p = p} {U = U} {V = V} {X = X'} {Y = Y'} u v h)
    b a =
    let same : Same Forward base (X' ++ rest) (Y' ++ rest') = Same-Similar base X' Y' rest rest' h a in
    let at_i : resolved_level base back i (Some p ∷ (X' ++ rest)) ≡ resolved_level base back' i
    (Some p ∷ (Y' ++ rest')) =
    resolved_level-same base back back' i (Some p ∷ (X' ++ rest)) (Some p ∷ (Y' ++ rest'))
    (b i.level (Taking (enters_isolate (scanned_role Backward i.role))))
    (Same-more Forward base (Some p) (X' ++ rest) (Y' ++ rest') same i.level
    (Taking (enters_isolate (scanned_role Forward i.role)))) in
    let at_p : resolved_level base (Some i ∷ back) p (X' ++ rest) ≡ resolved_level base (Some i ∷ back') p
    (Y' ++ rest') =
    resolved_level-same base (Some i ∷ back) (Some i ∷ back') p (X' ++ rest) (Y' ++ rest')
    (Same-more Backward base (Some i) back back' b p.level
    (Taking (enters_isolate (scanned_role Backward p.role))))
    (same p.level (Taking (enters_isolate (scanned_role Forward p.role)))) in
    least-value base n back i p U X' rest u
    ∙ ap (λ m. least_level (min (min n m) (resolved_level base (Some i ∷ back) p (X' ++ rest)))
    (levels_in base (Some p ∷ (reverse U ++ Some i ∷ back)) X' rest)) at_i
    ∙ ap (λ m. least_level (min (min n (resolved_level base back' i (Some p ∷ (Y' ++ rest')))) m)
    (levels_in base (Some p ∷ (reverse U ++ Some i ∷ back)) X' rest)) at_p
    ∙ least-Similar base (min (min n (resolved_level base back' i (Some p ∷ (Y' ++ rest'))))
    (resolved_level base (Some i ∷ back') p (Y' ++ rest'))) X' Y'
    (Some p ∷ (reverse U ++ Some i ∷ back)) (Some p ∷ (reverse V ++ Some i ∷ back')) rest rest' h
    (over_behind base i p U V back back' u v b) a
    ∙ sym (least-value base n back' i p V Y' rest' v)
