-- A character stands left of a later one exactly where the least level between them is even.
use Rattle.std.proofs.Common.{◌≡◌, ℕ, zero, suc, ◌+◌, ◌-◌, ◌%◌, ◌<◌, ◌≤◌, ◌≢◌, min, max, Bool, true, false, not, ◌==◌}
use Rattle.std.proofs.Common.{◌&&◌, ◌||◌, nat_lt, nat_le, inl, inr, List, [], ◌∷◌, ◌++◌, take, drop, get_or, refl, sym}
use Rattle.std.proofs.Common.{ap}
use Rattle.std.proofs.Common.{subst, ◌∙◌, arith, if◌then◌else◌, Option, Some, None, slice_range}
use Rattle.std.proofs.lemmas.Bool.{cond-true, cond-false, cases_Bool, cases_lt, both_ways, ltb-true, eqb-true, eq-eqb}
use Rattle.std.proofs.lemmas.Bool.{ne_eqb, and_parts, and_from, lt-ltb}
use Rattle.std.proofs.lemmas.List.{get_or-drop}
use Rattle.bidi_order.specs.DirectionalStatus.{is_odd}
use Rattle.bidi_order.specs.VisualOrder.{LeveledCharacter, reversed_from, reordered, indexed_from, highest_level}
use Rattle.bidi_order.specs.VisualOrder.{least_odd_level, visual_order, has_index, comes_first, is_left_of}
use Rattle.bidi_order.specs.VisualOrder.{least_level}
use Rattle.bidi_order.proofs.Reversals.{In, Before, Ordered, flips, least, least_of, least-first, around}
use Rattle.bidi_order.proofs.Reversals.{reordered-Ordered}
use Rattle.bidi_order.proofs.Reversals.In.{in_head, in_tail}
use Rattle.bidi_order.proofs.Reversals.Before.{before_head, before_tail}

-- how many characters stand at an index
abbrev count : ℕ → List LeveledCharacter → ℕ
count p [] = 0
count p (x ∷ xs) = if x.index == p then count p xs + 1 else count p xs

count-cons : (p : ℕ) (x : LeveledCharacter) (xs : List LeveledCharacter) → count p (x ∷ xs) ≡ count p (x ∷ []) + count
    p xs
count-cons p x xs =
    elim (cases_Bool (x.index == p)) [
      | inl is ↦ cond-true _ _ _ is ∙ omega (arith, cond-true (x.index == p) (0 + 1) 0 is)
      | inr isn't ↦ cond-false _ _ _ isn't ∙ omega (arith, cond-false (x.index == p) (0 + 1) 0 isn't)
    ]

count-append : (p : ℕ) (a b : List LeveledCharacter) → count p (a ++ b) ≡ count p a + count p b
count-append p [] b = omega arith
count-append p (x ∷ a) b = omega (arith, count-cons p x (a ++ b), count-append p a b, count-cons p x a)

count-reversed_from : (p k : ℕ) (run xs : List LeveledCharacter) → count p (reversed_from k run xs)
    ≡ count p run + count p xs
count-reversed_from p k run [] = omega arith
count-reversed_from p k run (x ∷ xs) =
    elim (cases_Bool (nat_le k x.level)) [
      | inl high ↦ ap (count p) (cond-true _ _ _ high) ∙ count-reversed_from p k (x ∷ run) xs
          ∙ omega (arith, count-cons p x run, count-cons p x xs)
      | inr low ↦ ap (count p) (cond-false _ _ _ low) ∙ count-append p run (x ∷ reversed_from k [] xs)
          ∙ omega (arith, count-cons p x (reversed_from k [] xs), count-reversed_from p k [] xs, count-cons p x xs)
    ]

count-reordered : (p lowest n : ℕ) (xs : List LeveledCharacter) → count p (reordered lowest n xs) ≡ count p xs
count-reordered p lowest zero xs = refl
count-reordered p lowest (suc n) xs = count-reversed_from p lowest [] (reordered (lowest + 1) n xs)
    ∙ omega (arith, count-reordered p (lowest + 1) n xs)

-- no index stands twice
count-early : (p n : ℕ) (levels : List (Option ℕ)) → p < n → count p (indexed_from n levels) ≡ 0
count-early p n [] h = refl
count-early p n (None ∷ levels) h = count-early p (suc n) levels (omega arith)
count-early p n (Some level ∷ levels) h = cond-false _ _ _ (ne_eqb n p (λ e. omega arith))
    ∙ count-early p (suc n) levels (omega arith)

count-indexed_from : (p n : ℕ) (levels : List (Option ℕ)) → count p (indexed_from n levels) ≤ 1
count-indexed_from p n [] = omega arith
count-indexed_from p n (None ∷ levels) = count-indexed_from p (suc n) levels
count-indexed_from p n (Some level ∷ levels) =
    let rest : List LeveledCharacter = indexed_from (suc n) levels in
    let x : LeveledCharacter = record { index = n; level = level } in
    elim (cases_Bool (n == p)) [
      | inl is ↦ let same : n ≡ p = eqb-true n p is in
          omega (
            arith,
            count-early p (suc n) levels (omega arith),
            cond-true (n == p) (count p rest + 1)
                (count p rest) is,
          )
      | inr isn't ↦ omega (
        arith,
        count-indexed_from p (suc n) levels,
        cond-false (n == p) (count p rest + 1)
            (count p rest) isn't,
      )
    ]

count-In : (x : LeveledCharacter) (xs : List LeveledCharacter) → In x xs → 0 < count x.index xs
count-In x [] h = elim h [ ]
count-In x (y ∷ ys) in_head =
    omega (
      arith,
      cond-true (x.index == x.index) (count x.index ys + 1) (count x.index ys)
          (eq-eqb x.index x.index refl),
    )
count-In x (y ∷ ys) (in_tail h) = omega (arith, count-cons x.index y ys, count-In x ys h)

-- which characters a list has
has_index-In : (y : LeveledCharacter) (xs : List LeveledCharacter) → In y xs → has_index y.index xs ≡ true
has_index-In y [] h = elim h [ ]
has_index-In y (z ∷ zs) in_head = ap (λ b. b || has_index y.index zs) (eq-eqb y.index y.index refl)
has_index-In y (z ∷ zs) (in_tail h) =
    elim (cases_Bool (z.index == y.index)) [
      | inl is ↦ ap (λ b. b || has_index y.index zs) is
      | inr isn't ↦ ap (λ b. b || has_index y.index zs) isn't ∙ has_index-In y zs h
    ]

has_index-none : (p : ℕ) (xs : List LeveledCharacter) → count p xs ≡ 0 → has_index p xs ≡ false
has_index-none p [] h = refl
has_index-none p (x ∷ xs) h =
    elim (cases_Bool (x.index == p)) [
      | inl is ↦ absurd (omega (arith, cond-true (x.index == p) (count p xs + 1) (count p xs) is))
      | inr isn't ↦ ap (λ b. b || has_index p xs) isn't ∙ has_index-none p xs (omega (arith, count-cons p x xs))
    ]

-- which of two indexes comes first: neither, where one of them is none of the list
comes_first-no_second : (i j : ℕ) (xs : List LeveledCharacter) → count j xs ≡ 0 → comes_first i j xs ≡ false
comes_first-no_second i j [] h = refl
comes_first-no_second i j (x ∷ xs) h =
    elim (cases_Bool (x.index == i)) [
      | inl is ↦ cond-true _ _ _ is ∙ has_index-none j xs (omega (arith, count-cons j x xs))
      | inr isn't ↦ cond-false _ _ _ isn't ∙ comes_first-no_second i j xs (omega (arith, count-cons j x xs))
    ]

comes_first-no_first : (i j : ℕ) (xs : List LeveledCharacter) → count i xs ≡ 0 → comes_first i j xs ≡ false
comes_first-no_first i j [] h = refl
comes_first-no_first i j (x ∷ xs) h =
    elim (cases_Bool (x.index == i)) [
      | inl is ↦ absurd (omega (arith, cond-true (x.index == i) (count i xs + 1) (count i xs) is))
      | inr isn't ↦ cond-false _ _ _ isn't ∙ comes_first-no_first i j xs (omega (arith, count-cons i x xs))
    ]

comes_first-Before : (x y : LeveledCharacter) (xs : List LeveledCharacter) → Before x y xs → count x.index xs ≤ 1
    → comes_first x.index y.index xs ≡ true
comes_first-Before x y [] h once = elim h [ ]
comes_first-Before x y (z ∷ zs) (before_head h) once =
    cond-true _ _ _ (eq-eqb x.index x.index refl) ∙ has_index-In y zs h
comes_first-Before x y (z ∷ zs) (before_tail h) once =
    elim (cases_Bool (z.index == x.index)) [
      | inl twice ↦ absurd (omega (
        arith,
        cond-true (z.index == x.index) (count x.index zs + 1) (count x.index zs) twice,
        count-In x zs (first h),
      ))
      | inr isn't ↦ cond-false _ _ _ isn't ∙ comes_first-Before x y zs h (omega (arith, count-cons x.index z zs))
    ]
  where
    first : {zs : List LeveledCharacter} → Before x y zs → In x zs
    first (before_head h) = in_head
    first (before_tail h) = in_tail (first h)

comes_first-After : (x y : LeveledCharacter) (xs : List LeveledCharacter) → x.index ≢ y.index → Before y x xs
    → count x.index xs ≤ 1 → count y.index xs ≤ 1 → comes_first x.index y.index xs ≡ false
comes_first-After x y [] apart h once once' = elim h [ ]
comes_first-After x y (z ∷ zs) apart (before_head h) once once' =
    cond-false _ _ _ (ne_eqb y.index x.index (λ e. apart (sym e)))
    ∙ comes_first-no_second x.index y.index zs (omega (
      arith,
      cond-true (y.index == y.index) (count y.index zs + 1) (count y.index zs) (eq-eqb y.index y.index refl),
    ))
comes_first-After x y (z ∷ zs) apart (before_tail h) once once' =
    elim (cases_Bool (z.index == x.index)) [
      | inl twice ↦ absurd (omega (
        arith,
        cond-true (z.index == x.index) (count x.index zs + 1) (count x.index zs) twice,
        count-In x zs (second h),
      ))
      | inr isn't ↦ cond-false _ _ _ isn't ∙ comes_first-After x y zs apart h
          (omega (arith, count-cons x.index z zs)) (omega (arith, count-cons y.index z zs))
    ]
  where
    second : {zs : List LeveledCharacter} → Before y x zs → In x zs
    second (before_head h) = in_tail h
    second (before_tail h) = in_tail (second h)

-- by their order in the list the one comes first, or the other
comes_first-Ordered : (e : Bool) (x y : LeveledCharacter) (xs : List LeveledCharacter) → x.index ≢ y.index
    → Ordered e x y xs → count x.index xs ≤ 1 → count y.index xs ≤ 1
    → (comes_first x.index y.index xs ≡ e) × (comes_first y.index x.index xs ≡ not e)
comes_first-Ordered true x y xs apart h once once' =
    (comes_first-Before x y xs h once, comes_first-After y x xs (λ e. apart (sym e)) h once' once)
comes_first-Ordered false x y xs apart h once once' =
    (comes_first-After x y xs apart h once once', comes_first-Before y x xs h once')

-- a character in the list of those with their indexes
indexed_from-split : (n i level : ℕ) (levels : List (Option ℕ)) → get_or levels i None ≡ Some level
    → indexed_from n levels ≡ indexed_from n (take i levels) ++ record { index = n + i; level = level } ∷ indexed_from
    (suc (n + i)) (drop (suc i) levels)
indexed_from-split n i level [] e = absurd (some e)
  where
    some : {k : ℕ} → None ≡ Some k → ⊥
    some e = cc
indexed_from-split n zero level (None ∷ levels) e = absurd (some e)
  where
    some : {k : ℕ} → None ≡ Some k → ⊥
    some e = cc
indexed_from-split n zero level (Some l ∷ levels) e =
    let same : l ≡ level = cc in
    let at : n ≡ n + 0 = omega arith in
    ap (λ k. record { index = n; level = k } ∷ indexed_from (suc n) levels) same
    ∙ ap (λ k. record { index = k; level = level } ∷ indexed_from (suc k) levels) at
indexed_from-split n (suc i) level (None ∷ levels) e =
    let at : suc n + i ≡ n + suc i = omega arith in
    indexed_from-split (suc n) i level levels e
    ∙ ap (λ k. indexed_from (suc n) (take i levels) ++ record { index = k; level = level } ∷ indexed_from (suc k)
    (drop (suc i) levels)) at
indexed_from-split n (suc i) level (Some l ∷ levels) e =
    let at : suc n + i ≡ n + suc i = omega arith in
    ap (λ xs. record { index = n; level = l } ∷ xs) (indexed_from-split (suc n) i level levels e
    ∙ ap (λ k. indexed_from (suc n) (take i levels) ++ record { index = k; level = level } ∷ indexed_from (suc k)
    (drop (suc i) levels)) at)

-- the least level is the same in both lists
least-placed : (n k i level : ℕ) (levels : List (Option ℕ)) (p : ℕ) → get_or levels i None ≡ Some level
    → least n (indexed_from k (take i levels) ++ record { index = p; level = level } ∷ [])
    ≡ least_level n (take (suc i) levels)
least-placed n k i level [] p e = absurd (some e)
  where
    some : {k : ℕ} → None ≡ Some k → ⊥
    some e = cc
least-placed n k zero level (None ∷ levels) p e = absurd (some e)
  where
    some : {k : ℕ} → None ≡ Some k → ⊥
    some e = cc
least-placed n k zero level (Some l ∷ levels) p e = let same : level ≡ l = cc in ap (min n) same
least-placed n k (suc i) level (None ∷ levels) p e = least-placed n (suc k) i level levels p e
least-placed n k (suc i) level (Some l ∷ levels) p e = least-placed (min n l) (suc k) i level levels p e

-- what holds of each level
pub data Every (P : ℕ → Type 0) : List (Option ℕ) → Type 0 where
  every_end : Every P []
  every_none : {levels : List (Option ℕ)} → Every P levels → Every P (None ∷ levels)
  every_some : {level : ℕ} {levels : List (Option ℕ)} → P level → Every P levels → Every P (Some level ∷ levels)

pub Every-take : (P : ℕ → Type 0) (n : ℕ) (levels : List (Option ℕ)) → Every P levels → Every P (take n levels)
Every-take P zero levels h = every_end
Every-take P (suc n) [] h = every_end
Every-take P (suc n) (l ∷ ls) (every_none h) = every_none (Every-take P n ls h)
Every-take P (suc n) (l ∷ ls) (every_some p h) = every_some p (Every-take P n ls h)

pub Every-drop : (P : ℕ → Type 0) (n : ℕ) (levels : List (Option ℕ)) → Every P levels → Every P (drop n levels)
Every-drop P zero levels h = h
Every-drop P (suc n) [] h = every_end
Every-drop P (suc n) (l ∷ ls) (every_none h) = Every-drop P n ls h
Every-drop P (suc n) (l ∷ ls) (every_some p h) = Every-drop P n ls h

pub Every-get_or : (P : ℕ → Type 0) (i level : ℕ) (levels : List (Option ℕ)) → Every P levels
    → get_or levels i None ≡ Some level → P level
Every-get_or P i level [] h e = absurd (some e)
  where
    some : {k : ℕ} → None ≡ Some k → ⊥
    some e = cc
Every-get_or P zero level (l ∷ ls) (every_none h) e = absurd (some e)
  where
    some : {k : ℕ} → None ≡ Some k → ⊥
    some e = cc
Every-get_or P zero level (l ∷ ls) (every_some {level = m} p h) e = let same : m ≡ level = cc in subst P same p
Every-get_or P (suc i) level (l ∷ ls) (every_none h) e = Every-get_or P i level ls h e
Every-get_or P (suc i) level (l ∷ ls) (every_some p h) e = Every-get_or P i level ls h e

pub Every-least_level : (P : ℕ → Type 0) (n : ℕ) (levels : List (Option ℕ)) → P n → Every P levels
    → P (least_level n levels)
Every-least_level P n [] p h = p
Every-least_level P n (l ∷ ls) p (every_none h) = Every-least_level P n ls p h
Every-least_level P n (l ∷ ls) p (every_some {level = m} q h) =
    Every-least_level P (min n m) ls (elim (cases_lt n m) [
      | inl less ↦ let same : n ≡ min n m = omega arith in subst P same p
      | inr more ↦ let same : m ≡ min n m = omega arith in subst P same q
    ]) h

pub Every-more : (P Q : ℕ → Type 0) (levels : List (Option ℕ)) → ((l : ℕ) → P l → Q l) → Every P levels → Every Q levels
Every-more P Q [] f h = every_end
Every-more P Q (l ∷ ls) f (every_none h) = every_none (Every-more P Q ls f h)
Every-more P Q (l ∷ ls) f (every_some {level = m} p h) = every_some (f m p) (Every-more P Q ls f h)

highest_level-Every : (levels : List (Option ℕ)) → Every (λ l. l ≤ highest_level levels) levels
highest_level-Every [] = every_end
highest_level-Every (None ∷ levels) = every_none (highest_level-Every levels)
highest_level-Every (Some l ∷ levels) =
    every_some (omega arith) (Every-more (λ m. m ≤ highest_level levels) (λ m. m ≤ max l (highest_level levels))
    levels (λ m h. omega arith) (highest_level-Every levels))

-- the least odd level
record LeastOdd (n : ℕ) (levels : List (Option ℕ)) (r : ℕ) : Type 0 where
  at_most : r ≤ n
  below : Every (λ l. l < r → is_odd l ≡ false) levels
  odd : r < n → is_odd r ≡ true

least_odd_level-LeastOdd : (n : ℕ) (levels : List (Option ℕ)) → LeastOdd n levels (least_odd_level n levels)
least_odd_level-LeastOdd n [] = record { at_most = omega arith; below = every_end; odd = λ h. absurd (omega arith) }
least_odd_level-LeastOdd n (None ∷ levels) = let rest = least_odd_level-LeastOdd n levels in
    record { at_most = rest.at_most; below = every_none rest.below; odd = rest.odd }
least_odd_level-LeastOdd n (Some l ∷ levels) =
    elim (cases_Bool (is_odd l && nat_lt l n)) [
      | inl passes ↦
          let parts = and_parts (is_odd l) (nat_lt l n) passes in
          let rest : LeastOdd l levels (least_odd_level l levels) = least_odd_level-LeastOdd l levels in
          let less : l < n = ltb-true l n parts.1 in
          subst (LeastOdd n (Some l ∷ levels)) (sym (cond-true _ _ _ passes)) (record {
            at_most = omega (arith, rest.at_most);
            below = every_some (λ h. absurd (omega (arith, rest.at_most))) rest.below;
            odd = λ h. elim (cases_lt (least_odd_level l levels) l) [
              | inl lower ↦ rest.odd lower
              | inr same ↦ let is : l ≡ least_odd_level l levels = omega (arith, rest.at_most) in
                  subst (λ k. is_odd k ≡ true) is parts.0
            ];
          })
      | inr fails ↦
          let rest : LeastOdd n levels (least_odd_level n levels) = least_odd_level-LeastOdd n levels in
          subst (LeastOdd n (Some l ∷ levels)) (sym (cond-false _ _ _ fails)) (record {
            at_most = rest.at_most;
            below = every_some (λ h. elim (cases_Bool (is_odd l)) [
              | inl odd ↦ absurd (both_ways _ fails (both odd (omega (arith, rest.at_most))))
              | inr even ↦ even
            ]) rest.below;
            odd = rest.odd;
          })
    ]
  where
    both : is_odd l ≡ true → l < n → (is_odd l && nat_lt l n) ≡ true
    both odd less = and_from _ _ odd (lt-ltb l n less)

is_odd-suc : (n : ℕ) → is_odd (suc n) ≡ not (is_odd n)
is_odd-suc n =
    elim (cases_Bool (is_odd n)) [
      | inl odd ↦ let h : n % 2 ≡ 1 = eqb-true (n % 2) 1 odd in ne_eqb (suc n % 2) 1 (λ e. omega arith)
          ∙ sym (ap not odd)
      | inr even ↦ eq-eqb (suc n % 2) 1 (odd_next even) ∙ sym (ap not even)
    ]
  where
    odd_next : is_odd n ≡ false → suc n % 2 ≡ 1
    odd_next even = elim (cases_lt (n % 2) 1) [
      | inl h ↦ omega arith
      | inr h ↦ absurd (both_ways _ even (eq-eqb (n % 2) 1 (omega arith)))
    ]

flips-odd : (n lowest : ℕ) → is_odd lowest ≡ true → flips (suc (lowest + n) - lowest) ≡ not (is_odd (lowest + n))
flips-odd zero lowest odd = let k : suc (lowest + 0) - lowest ≡ 1 = omega arith in let m : lowest ≡ lowest + 0 =
    omega arith in ap flips k ∙ ap not (sym odd ∙ ap is_odd m)
flips-odd (suc n) lowest odd =
    let k : suc (lowest + suc n) - lowest ≡ suc (suc (lowest + n) - lowest) = omega arith in
    let m : suc (lowest + n) ≡ lowest + suc n = omega arith in
    ap flips k ∙ ap not (flips-odd n lowest odd ∙ sym (is_odd-suc (lowest + n)) ∙ ap is_odd m)

flips-parity : (m lowest : ℕ) → (lowest ≤ m → is_odd lowest ≡ true) → (m < lowest → is_odd m ≡ false)
    → flips (suc m - lowest) ≡ not (is_odd m)
flips-parity m lowest high low =
    elim (cases_lt m lowest) [
      | inl less ↦ let k : suc m - lowest ≡ 0 = omega arith in ap flips k ∙ ap not (sym (low less))
      | inr more ↦ let e : lowest + (m - lowest) ≡ m = omega arith in
          subst (λ m. flips (suc m - lowest) ≡ not (is_odd m)) e (flips-odd (m - lowest) lowest (high more))
    ]

-- the order of two characters by the least level between them, and that the other way is the contrary
is_left_of-ways : (levels : List (Option ℕ)) (i j first last : ℕ) → i < j → get_or levels i None ≡ Some first
    → get_or levels j None ≡ Some last
    → (is_left_of levels i j ≡ not (is_odd (least_level first (slice_range levels (i + 1) (j + 1)))))
    × (is_left_of levels j i ≡ not (is_left_of levels i j))
unfolding is_left_of
is_left_of-ways levels i j first last less at_i at_j =
    let d : ℕ = j - suc i in
    let rest : List (Option ℕ) = drop (suc i) levels in
    let to_j : suc i + d ≡ j = omega arith in
    let at_d : get_or rest d None ≡ Some last = get_or-drop (suc i) levels d None
    ∙ ap (λ k. get_or levels k None) to_j ∙ at_j in
    let x : LeveledCharacter = record { index = 0 + i; level = first } in
    let y : LeveledCharacter = record { index = suc (0 + i) + d; level = last } in
    let a : List LeveledCharacter = indexed_from 0 (take i levels) in
    let mid : List LeveledCharacter = indexed_from (suc (0 + i)) (take d rest) in
    let b : List LeveledCharacter = indexed_from (suc (suc (0 + i) + d)) (drop (suc d) rest) in
    let line : indexed_from 0 levels ≡ around a x mid y b =
    indexed_from-split 0 i first levels at_i
    ∙ ap (λ xs. a ++ x ∷ xs) (indexed_from-split (suc (0 + i)) d last rest at_d) in
    let above : ℕ = highest_level levels + 1 in
    let lowest : ℕ = least_odd_level above levels in
    let odd : LeastOdd above levels lowest = least_odd_level-LeastOdd above levels in
    let high : first ≤ highest_level levels = Every-get_or (λ l. l ≤ highest_level levels) i first levels
    (highest_level-Every levels) at_i in
    let m : ℕ = least_of x mid y in
    let slice : take (suc d) rest ≡ slice_range levels (i + 1) (j + 1) = same_slice i j d levels (omega arith) in
    let m_is : m ≡ least_level first (slice_range levels (i + 1) (j + 1)) =
    least-placed first (suc (0 + i)) d last rest (suc (0 + i) + d) at_d ∙ ap (least_level first) slice in
    let some : m ≤ first = least-first first (mid ++ y ∷ []) in
    let even_below : m < lowest → is_odd m ≡ false =
    subst (λ k. k < lowest → is_odd k ≡ false)
    (sym (least-placed first (suc (0 + i)) d last rest (suc (0 + i) + d) at_d))
    (Every-least_level (λ l. l < lowest → is_odd l ≡ false) first (take (suc d) rest)
    (Every-get_or (λ l. l < lowest → is_odd l ≡ false) i first levels odd.below at_i)
    (Every-take (λ l. l < lowest → is_odd l ≡ false) (suc d) rest
    (Every-drop (λ l. l < lowest → is_odd l ≡ false) (suc i) levels odd.below))) in
    let ordered : Ordered (flips (suc m - lowest)) x y (reordered lowest (above - lowest) (around a x mid y b)) =
    reordered-Ordered (above - lowest) lowest a x mid y b (omega (arith, odd.at_most)) in
    let visually : Ordered (flips (suc m - lowest)) x y (visual_order levels) =
    subst (λ l. Ordered (flips (suc m - lowest)) x y (reordered lowest (above - lowest) l)) (sym line) ordered in
    let once : (p : ℕ) → count p (visual_order levels) ≤ 1 =
    λ p. omega (
      arith,
      count-reordered p lowest (above - lowest) (indexed_from 0 levels),
      count-indexed_from p 0
          levels,
    ) in
    let at_x : 0 + i ≡ i = omega arith in
    let at_y : suc (0 + i) + d ≡ j = omega arith in
    let comes : (comes_first (0 + i) (suc (0 + i) + d) (visual_order levels) ≡ flips (suc m - lowest))
    × (comes_first (suc (0 + i) + d) (0 + i) (visual_order levels) ≡ not (flips (suc m - lowest))) =
    comes_first-Ordered (flips (suc m - lowest)) x y (visual_order levels) (λ e. omega arith) visually (once (0 + i))
    (once (suc (0 + i) + d)) in
    let one : comes_first i j (visual_order levels) ≡ flips (suc m - lowest) =
    ap (λ k. comes_first k j (visual_order levels)) (sym at_x)
    ∙ ap (λ k. comes_first (0 + i) k (visual_order levels)) (sym at_y) ∙ comes.0 in
    let other : comes_first j i (visual_order levels) ≡ not (flips (suc m - lowest)) =
    ap (λ k. comes_first j k (visual_order levels)) (sym at_x)
    ∙ ap (λ k. comes_first k (0 + i) (visual_order levels)) (sym at_y) ∙ comes.1 in (
      one ∙ flips-parity m lowest (λ h. odd.odd (omega arith)) even_below ∙ ap (λ k. not (is_odd k)) m_is,
      other ∙ ap not (sym one),
    )
  where
    same_slice : (i j d : ℕ) (levels : List (Option ℕ)) → suc i + d ≡ j → take (suc d) (drop (suc i) levels)
        ≡ slice_range levels (i + 1) (j + 1)
    same_slice i j d levels e =
        let n : suc d ≡ j + 1 - (i + 1) = omega arith in
        let k : suc i ≡ i + 1 = omega arith in
        ap (λ n. take n (drop (suc i) levels)) n ∙ ap (λ k. take (j + 1 - (i + 1)) (drop k levels)) k

pub is_left_of-least : (levels : List (Option ℕ)) (i j first last : ℕ) → i < j → get_or levels i None ≡ Some first
    → get_or levels j None ≡ Some last
    → is_left_of levels i j ≡ not (is_odd (least_level first (slice_range levels (i + 1) (j + 1))))
is_left_of-least levels i j first last less at_i at_j = (is_left_of-ways levels i j first last less at_i at_j).0

pub is_left_of-contrary : (levels : List (Option ℕ)) (i j first last : ℕ) → i < j → get_or levels i None ≡ Some first
    → get_or levels j None ≡ Some last → is_left_of levels j i ≡ not (is_left_of levels i j)
is_left_of-contrary levels i j first last less at_i at_j = (is_left_of-ways levels i j first last less at_i at_j).1

-- a character that is removed stands nowhere
count-removed : (n i : ℕ) (levels : List (Option ℕ)) → get_or levels i None ≡ None
    → count (n + i) (indexed_from n levels) ≡ 0
count-removed n i [] e = refl
count-removed n zero (None ∷ levels) e = count-early (n + 0) (suc n) levels (omega arith)
count-removed n (suc i) (None ∷ levels) e =
    let at : suc n + i ≡ n + suc i = omega arith in
    subst (λ p. count p (indexed_from (suc n) levels) ≡ 0) at (count-removed (suc n) i levels e)
count-removed n zero (Some level ∷ levels) e = absurd (none e)
  where
    none : {k : ℕ} → Some k ≡ None → ⊥
    none e = cc
count-removed n (suc i) (Some level ∷ levels) e =
    let at : suc n + i ≡ n + suc i = omega arith in
    cond-false _ _ _ (ne_eqb n (n + suc i) (λ e. omega arith))
    ∙ subst (λ p. count p (indexed_from (suc n) levels) ≡ 0) at (count-removed (suc n) i levels e)

pub is_left_of-removed : (levels : List (Option ℕ)) (i j : ℕ) → get_or levels i None ≡ None
    → (is_left_of levels i j ≡ false) × (is_left_of levels j i ≡ false)
unfolding is_left_of
is_left_of-removed levels i j e =
    let above : ℕ = highest_level levels + 1 in
    let lowest : ℕ = least_odd_level above levels in
    let at : 0 + i ≡ i = omega arith in
    let none : count i (visual_order levels) ≡ 0 =
    count-reordered i lowest (above - lowest) (indexed_from 0 levels)
    ∙ subst (λ p. count p (indexed_from 0 levels) ≡ 0) at (count-removed 0 i levels e) in
    (comes_first-no_first i j (visual_order levels) none, comes_first-no_second j i (visual_order levels) none)
