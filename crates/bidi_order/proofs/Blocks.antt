-- A character of a value stands to what stands around as the value's initiator or PDI does.
use Rattle.std.proofs.Common.{◌≡◌, ℕ, ◌+◌, ◌<◌, ◌≤◌, min, true, List, [], ◌∷◌, ◌++◌, reverse, refl, sym, ap, subst, ◌∙◌}
use Rattle.std.proofs.Common.{append_assoc, arith, Option, Some, None}
use Rattle.bidi_order.specs.Explicit.{KeptCharacter}
use Rattle.bidi_order.specs.Sequences.{scanned_role, enters_isolate, resolved_level}
use Rattle.bidi_order.specs.Sequences.Scan.{Forward, Backward}
use Rattle.bidi_order.specs.Sequences.Following.{Taking}
use Rattle.bidi_order.specs.VisualOrder.{least_level}
use Rattle.bidi_order.proofs.FollowedSequences.{Above, Above-Within}
use Rattle.bidi_order.proofs.FollowedSequences.Above.{above_end, above_none, above_some}
use Rattle.bidi_order.proofs.DeletedContent.{Same, Same-more, resolved_level-same, levels_in, past, past-reverse}
use Rattle.bidi_order.proofs.DeletedContent.{ahead_inside, behind_inside}
use Rattle.bidi_order.proofs.LevelBounds.{is_steady}
use Rattle.bidi_order.proofs.SimilarLevels.{IsValue, Similar, resolved_level-ge, resolved_level-le, least_level-append}
use Rattle.bidi_order.proofs.SimilarLevels.{levels_in-append, least-inside, past-append}
use Rattle.bidi_order.proofs.SimilarLevels.Similar.{similar_end, similar_shared, similar_value}

Above-left : (low : ℕ) (A T : List (Option KeptCharacter)) → Above low (A ++ T) → Above low A
Above-left low [] T h = above_end
Above-left low (None ∷ A) T (above_none h) = above_none (Above-left low A T h)
Above-left low (Some k ∷ A) T (above_some l h) = above_some l (Above-left low A T h)

Above-right : (low : ℕ) (A T : List (Option KeptCharacter)) → Above low (A ++ T) → Above low T
Above-right low [] T h = h
Above-right low (None ∷ A) T (above_none h) = Above-right low A T h
Above-right low (Some k ∷ A) T (above_some l h) = Above-right low A T h

Above-first : (low : ℕ) (k : KeptCharacter) (T : List (Option KeptCharacter)) → Above low (Some k ∷ T) → low < k.level
Above-first low k T (above_some l h) = l

Above-rest : (low : ℕ) (k : KeptCharacter) (T : List (Option KeptCharacter)) → Above low (Some k ∷ T) → Above low T
Above-rest low k T (above_some l h) = h

least-ge : (base low n : ℕ) (back V rest : List (Option KeptCharacter)) → Above low V → low < n
    → low < least_level n (levels_in base back V rest)
unfolding levels_in
least-ge base low n back V rest above_end h = h
least-ge base low n back V rest (above_none {V = V'} a) h = least-ge base low n (None ∷ back) V' rest a h
least-ge base low n back V rest (above_some {k = k} {V = V'} l a) h =
    least-ge base low (min n (resolved_level base back k (V' ++ rest))) (Some k ∷ back) V' rest a
    (omega (arith, resolved_level-ge base back k (V' ++ rest)))

-- up to a character of a value the least level is that up to its initiator
up_to : (base n : ℕ) (back prefix R : List (Option KeptCharacter)) (i k : KeptCharacter) → Above i.level prefix
    → i.level < k.level → is_steady i.resolved.class ≡ true
    → min (least_level n (levels_in base back (Some i ∷ prefix) (Some k ∷ R)))
    (resolved_level base (past back (Some i ∷ prefix)) k R) ≡ min n (resolved_level base back i (prefix ++ Some k ∷ R))
unfolding levels_in
up_to base n back prefix R i k above higher steady =
    let at_i : ℕ = resolved_level base back i (prefix ++ Some k ∷ R) in
    let low : at_i ≤ i.level + 1 = resolved_level-le base back i (prefix ++ Some k ∷ R) steady in
    let inside : least_level (min n at_i) (levels_in base (Some i ∷ back) prefix (Some k ∷ R)) ≡ min n at_i =
    least-inside base (min n at_i) i.level (Some i ∷ back) prefix (Some k ∷ R) above (omega arith) in
    ap (λ m. min m (resolved_level base (past back (Some i ∷ prefix)) k R)) inside
    ∙ omega (arith, resolved_level-ge base (past back (Some i ∷ prefix)) k R)

-- from a character of a value on the least level is that from its PDI on
from_there : (base : ℕ) (back suffix R : List (Option KeptCharacter)) (k p : KeptCharacter) → Above p.level suffix
    → p.level < k.level → is_steady p.resolved.class ≡ true
    → least_level (resolved_level base back k ((suffix ++ Some p ∷ []) ++ R))
    (levels_in base (Some k ∷ back) (suffix ++ Some p ∷ []) R) ≡ resolved_level base (past (Some k ∷ back) suffix) p R
unfolding levels_in
from_there base back suffix R k p above higher steady =
    let at_k : ℕ = resolved_level base back k ((suffix ++ Some p ∷ []) ++ R) in
    let inside : ℕ = least_level at_k (levels_in base (Some k ∷ back) suffix (Some p ∷ R)) in
    let high : p.level < inside = least-ge base p.level at_k (Some k ∷ back) suffix (Some p ∷ R) above
    (omega (arith, resolved_level-ge base back k ((suffix ++ Some p ∷ []) ++ R))) in
    ap (least_level at_k) (levels_in-append base (Some k ∷ back) suffix (Some p ∷ []) R)
    ∙ least_level-append at_k (levels_in base (Some k ∷ back) suffix (Some p ∷ R))
    (levels_in base (past (Some k ∷ back) suffix) (Some p ∷ []) R)
    ∙ omega (arith, resolved_level-le base (past (Some k ∷ back) suffix) p R steady)

-- an index in both lines: the explicit characters before it, it, and those after it, of one character or of one value
pub record Spot (base : ℕ) (one_prefix : List (Option KeptCharacter)) (k : KeptCharacter)
    (one_suffix other_prefix : List (Option KeptCharacter)) (l : KeptCharacter)
    (other_suffix : List (Option KeptCharacter)) : Type 0 where
  pub similar : Similar (one_prefix ++ Some k ∷ one_suffix) (other_prefix ++ Some l ∷ other_suffix)
  pub starts : (back back' R R' : List (Option KeptCharacter)) → Same Backward base back back' → Same Forward base R R'
      → least_level (resolved_level base (past back one_prefix) k (one_suffix ++ R))
      (levels_in base (Some k ∷ past back one_prefix) one_suffix R)
      ≡ least_level (resolved_level base (past back' other_prefix) l (other_suffix ++ R'))
      (levels_in base (Some l ∷ past back' other_prefix) other_suffix R')
  pub finishes : (n : ℕ) (back back' R R' : List (Option KeptCharacter)) → Same Backward base back back'
      → Same Forward base R R'
      → min (least_level n (levels_in base back one_prefix (Some k ∷ (one_suffix ++ R))))
      (resolved_level base (past back one_prefix) k (one_suffix ++ R))
      ≡ min (least_level n (levels_in base back' other_prefix (Some l ∷ (other_suffix ++ R'))))
      (resolved_level base (past back' other_prefix) l (other_suffix ++ R'))

-- a character of both lines
pub shared-Spot : (base : ℕ) (k : KeptCharacter) → Spot base [] k [] [] k []
unfolding levels_in past
shared-Spot base k = record {
  similar = similar_shared similar_end;
  starts = λ back back' R R' b a. resolved_level-same base back back' k R R'
      (b k.level (Taking (enters_isolate (scanned_role Backward k.role))))
      (a k.level (Taking (enters_isolate (scanned_role Forward k.role))));
  finishes = λ n back back' R R' b a. ap (min n)
      (resolved_level-same base back back' k R R' (b k.level (Taking (enters_isolate (scanned_role Backward k.role))))
      (a k.level (Taking (enters_isolate (scanned_role Forward k.role)))));
}

-- the level of a value's initiator, and of its PDI, whatever it holds
initiator-same : (base : ℕ) (i p : KeptCharacter) (U V back back' R R' : List (Option KeptCharacter)) → IsValue i p U
    → IsValue i p V → Same Backward base back back' → Same Forward base R R'
    → resolved_level base back i (U ++ Some p ∷ R) ≡ resolved_level base back' i (V ++ Some p ∷ R')
initiator-same base i p U V back back' R R' u v b a =
    resolved_level-same base back back' i (U ++ Some p ∷ R) (Some p ∷ R')
    (b i.level (Taking (enters_isolate (scanned_role Backward i.role))))
    (ahead_inside base [] i p U R u.opens u.ends u.same u.within ∙ Same-more Forward base (Some p) R R' a i.level
    (Taking (enters_isolate (scanned_role Forward i.role))))
    ∙ resolved_level-same base back' back' i (Some p ∷ R') (V ++ Some p ∷ R') refl
    (sym (ahead_inside base [] i p V R' v.opens v.ends v.same v.within))

closing-same : (base : ℕ) (i p : KeptCharacter) (U V back back' R R' : List (Option KeptCharacter)) → IsValue i p U
    → IsValue i p V → Same Backward base back back' → Same Forward base R R'
    → resolved_level base (past (Some i ∷ back) U) p R ≡ resolved_level base (past (Some i ∷ back') V) p R'
closing-same base i p U V back back' R R' u v b a =
    ap (λ s. resolved_level base s p R) (past-reverse (Some i ∷ back) U)
    ∙ resolved_level-same base (reverse U ++ Some i ∷ back) (reverse V ++ Some i ∷ back') p R R'
    (behind_inside base [] i p U [] u.opens u.ends u.same u.within back ∙ Same-more Backward base (Some i) back back'
    b p.level (Taking (enters_isolate (scanned_role Backward p.role)))
    ∙ sym (behind_inside base [] i p V [] v.opens v.ends v.same v.within back'))
    (a p.level (Taking (enters_isolate (scanned_role Forward p.role))))
    ∙ sym (ap (λ s. resolved_level base s p R') (past-reverse (Some i ∷ back') V))

regroup : (prefix suffix R : List (Option KeptCharacter)) (k p : KeptCharacter)
    → prefix ++ Some k ∷ ((suffix ++ Some p ∷ []) ++ R)
    ≡ (prefix ++ Some k ∷ suffix) ++ Some p ∷ R
regroup prefix suffix R k p = ap (λ l. prefix ++ Some k ∷ l) (append_assoc suffix (Some p ∷ []) R)
    ∙ sym (append_assoc prefix (Some k ∷ suffix) (Some p ∷ R))

-- one side of a value's starts and finishes
value-starts : (base : ℕ) (i p k : KeptCharacter) (prefix suffix back R : List (Option KeptCharacter))
    → IsValue i p (prefix ++ Some k ∷ suffix)
    → least_level (resolved_level base (past back (Some i ∷ prefix)) k ((suffix ++ Some p ∷ []) ++ R))
    (levels_in base (Some k ∷ past back (Some i ∷ prefix)) (suffix ++ Some p ∷ []) R) ≡ resolved_level base
    (past (Some i ∷ back) (prefix ++ Some k ∷ suffix)) p R
unfolding past
value-starts base i p k prefix suffix back R u =
    let above : Above p.level (prefix ++ Some k ∷ suffix) = subst (λ l. Above l (prefix ++ Some k ∷ suffix)) u.same
    (Above-Within u.within) in
    from_there base (past (Some i ∷ back) prefix) suffix R k p
    (Above-rest p.level k suffix (Above-right p.level prefix (Some k ∷ suffix) above))
    (Above-first p.level k suffix (Above-right p.level prefix (Some k ∷ suffix) above)) u.steady_end
    ∙ ap (λ s. resolved_level base s p R) (sym (past-append (Some i ∷ back) prefix (Some k ∷ suffix)))

value-finishes : (base n : ℕ) (i p k : KeptCharacter) (prefix suffix back R : List (Option KeptCharacter))
    → IsValue i p (prefix ++ Some k ∷ suffix)
    → min (least_level n (levels_in base back (Some i ∷ prefix) (Some k ∷ ((suffix ++ Some p ∷ []) ++ R))))
    (resolved_level base (past back (Some i ∷ prefix)) k ((suffix ++ Some p ∷ []) ++ R))
    ≡ min n (resolved_level base back i ((prefix ++ Some k ∷ suffix) ++ Some p ∷ R))
value-finishes base n i p k prefix suffix back R u =
    let above : Above i.level (prefix ++ Some k ∷ suffix) = Above-Within u.within in
    up_to base n back prefix ((suffix ++ Some p ∷ []) ++ R) i k (Above-left i.level prefix (Some k ∷ suffix) above)
    (Above-first i.level k suffix (Above-right i.level prefix (Some k ∷ suffix) above)) u.steady
    ∙ ap (λ l. min n (resolved_level base back i l)) (regroup prefix suffix R k p)

pub value-Spot : (base : ℕ) (i p k l : KeptCharacter)
    (prefix suffix other_prefix other_suffix : List (Option KeptCharacter))
    → IsValue i p (prefix ++ Some k ∷ suffix) → IsValue i p (other_prefix ++ Some l ∷ other_suffix)
    → Spot base (Some i ∷ prefix) k (suffix ++ Some p ∷ []) (Some i ∷ other_prefix) l (other_suffix ++ Some p ∷ [])
value-Spot base i p k l prefix suffix other_prefix other_suffix u v = record {
  similar = subst (λ a. Similar (Some i ∷ (prefix ++ Some k ∷ (suffix ++ Some p ∷ []))) (Some i ∷ a))
      (append_assoc other_prefix (Some l ∷ other_suffix) (Some p ∷ []))
      (subst (λ a. Similar (Some i ∷ a) (Some i ∷ ((other_prefix ++ Some l ∷ other_suffix) ++ Some p ∷ [])))
      (append_assoc prefix (Some k ∷ suffix) (Some p ∷ [])) (similar_value u v similar_end));
  starts = λ back back' R R' b a. value-starts base i p k prefix suffix back R u
      ∙ closing-same base i p (prefix ++ Some k ∷ suffix) (other_prefix ++ Some l ∷ other_suffix) back back' R R' u v
      b a
      ∙ sym (value-starts base i p l other_prefix other_suffix back' R' v);
  finishes = λ n back back' R R' b a. value-finishes base n i p k prefix suffix back R u
      ∙ ap (min n) (initiator-same base i p (prefix ++ Some k ∷ suffix) (other_prefix ++ Some l ∷ other_suffix) back
      back' R R' u v b a)
      ∙ sym (value-finishes base n i p l other_prefix other_suffix back' R' v);
}
