-- The visual order on characters themselves, and its reversals run by run.
use Rattle.std.proofs.Common.{◌≡◌, ℕ, zero, suc, ◌+◌, ◌-◌, ◌≤◌, ◌<◌, ◌%◌, ◌==◌, List, [], ◌∷◌, ◌++◌, map, length}
use Rattle.std.proofs.Common.{refl, sym, ap, subst, ◌∙◌, inl, inr, not}
use Rattle.std.proofs.Common.{arith, if◌then◌else◌, Bool, true, false, Option, Some, None, get_or, drop, take, reverse}
use Rattle.std.proofs.Common.{append_assoc}
use Rattle.std.proofs.lemmas.Bool.{and_from, and_parts, both_ways, cases_Bool, cases_lt, cond-false, cond-true}
use Rattle.std.proofs.lemmas.Bool.{eq-eqb, eqb-true, le-leb, leb-true, lt-leb, ne_eqb}
use Rattle.std.proofs.lemmas.List.{append-nil, drop-drop, drop-take, drop_more, get_or-drop, length-drop}
use Rattle.std.proofs.lemmas.List.{reverse-append, reverse-reverse, take-append-drop, take-take, take_all, take_more}
use Rattle.std.specs.List.{list_all}
use Rattle.std.specs.Prelude.{nat_le}
use Rattle.bidi_order.specs.VisualOrder.{LeveledCharacter, highest_level, indexed_from, least_odd_level, reordered}
use Rattle.bidi_order.specs.VisualOrder.{reversed_from}
use Rattle.bidi_order.proofs.Reversals.{High}
use Rattle.bidi_order.proofs.Reversals.High.{high_end, high_more}
use Rattle.bidi_preview.specs.OrderSteps.{characters_in_order, leveled_from, leveled_of, turned_by}
use Rattle.bidi_preview.specs.OrderSteps.{with_character}

-- ---- with characters instead of indexes

map-append : (f : LeveledCharacter → LeveledCharacter) (xs ys : List LeveledCharacter)
    → map f (xs ++ ys) ≡ map f xs ++ map f ys
map-append f [] ys = refl
map-append f (x ∷ xs) ys = ap (λ l. f x ∷ l) (map-append f xs ys)

reversed-mapped : (text : List ℕ) (level : ℕ) (run xs : List LeveledCharacter)
    → map (with_character text) (reversed_from level run xs)
    ≡ reversed_from level (map (with_character text) run) (map (with_character text) xs)
reversed-mapped text level run [] = refl
reversed-mapped text level run (x ∷ xs) = go (nat_le level x.level)
    (reversed-mapped text level (x ∷ run) xs) (reversed-mapped text level [] xs)
  where
    go : (kept : Bool)
        → map (with_character text) (reversed_from level (x ∷ run) xs)
        ≡ reversed_from level (with_character text x ∷ map (with_character text) run) (map (with_character text) xs)
        → map (with_character text) (reversed_from level [] xs)
        ≡ reversed_from level [] (map (with_character text) xs)
        → map (with_character text) (if kept then reversed_from level (x ∷ run) xs
        else run ++ x ∷ reversed_from level [] xs)
        ≡ (if kept then reversed_from level (with_character text x ∷ map (with_character text) run)
        (map (with_character text) xs)
        else map (with_character text) run ++ with_character text x
        ∷ reversed_from level [] (map (with_character text) xs))
    go true longer ends = longer
    go false longer ends = map-append (with_character text) run (x ∷ reversed_from level [] xs)
        ∙ ap (λ l. map (with_character text) run ++ with_character text x ∷ l) ends

reordered-mapped : (text : List ℕ) (lowest n : ℕ) (xs : List LeveledCharacter)
    → map (with_character text) (reordered lowest n xs) ≡ reordered lowest n (map (with_character text) xs)
reordered-mapped text lowest zero xs = refl
reordered-mapped text lowest (suc n) xs = reversed-mapped text lowest [] (reordered (lowest + 1) n xs)
    ∙ ap (reversed_from lowest []) (reordered-mapped text (lowest + 1) n xs)

drop-next : (text : List ℕ) (n c : ℕ) (rest : List ℕ) → drop n text ≡ c ∷ rest → drop (suc n) text ≡ rest
drop-next [] zero c rest e = absurd (cc)
drop-next [] (suc n) c rest e = absurd (cc)
drop-next (x ∷ text) zero c rest e = cc
drop-next (x ∷ text) (suc n) c rest e = drop-next text n c rest e

get-next : (text : List ℕ) (n c : ℕ) (rest : List ℕ) → drop n text ≡ c ∷ rest → get_or text n 0 ≡ c
get-next [] zero c rest e = absurd (cc)
get-next [] (suc n) c rest e = absurd (cc)
get-next (x ∷ text) zero c rest e = cc
get-next (x ∷ text) (suc n) c rest e = get-next text n c rest e

abbrev leveled : ℕ → ℕ → LeveledCharacter
leveled c level = record { index = c; level = level }

-- the rest of a text at an index
indexed-from : (text : List ℕ) (n : ℕ) (rest : List ℕ) (levels : List (Option ℕ)) → drop n text ≡ rest
    → length levels ≡ length rest
    → map (with_character text) (indexed_from n levels) ≡ leveled_from rest levels
indexed-from text n [] [] is long = refl
indexed-from text n [] (level ∷ levels) is long = absurd (omega (arith, long))
indexed-from text n (c ∷ rest) [] is long = absurd (omega (arith, long))
indexed-from text n (c ∷ rest) (None ∷ levels) is long =
    indexed-from text (suc n) rest levels (drop-next text n c rest is) (omega (arith, long))
indexed-from text n (c ∷ rest) (Some level ∷ levels) is long =
    ap (λ (k : ℕ). leveled k level ∷ map (with_character text) (indexed_from (suc n) levels))
    (get-next text n c rest is)
    ∙ ap (λ (l : List LeveledCharacter). leveled c level ∷ l)
    (indexed-from text (suc n) rest levels (drop-next text n c rest is) (omega (arith, long)))

pub in_order : (text : List ℕ) (levels : List (Option ℕ)) → length levels ≡ length text
    → reordered (least_odd_level (highest_level levels + 1) levels)
    (highest_level levels + 1 - least_odd_level (highest_level levels + 1) levels) (leveled_from text levels)
    ≡ characters_in_order text levels
in_order text levels long = sym (reordered-mapped text (least_odd_level (highest_level levels + 1) levels)
    (highest_level levels + 1 - least_odd_level (highest_level levels + 1) levels) (indexed_from 0 levels)
    ∙ ap (reordered (least_odd_level (highest_level levels + 1) levels)
    (highest_level levels + 1 - least_odd_level (highest_level levels + 1) levels))
    (indexed-from text 0 text levels refl long))

-- ---- the characters that have a level

pub leveled_more : (text : List ℕ) (levels : List (Option ℕ)) (done now : List LeveledCharacter) (i c d : ℕ)
    (level o : Option ℕ) → i < length text → length levels ≡ length text → c ≡ get_or text i d
    → level ≡ get_or levels i o → now ≡ done ++ leveled_of c level
    → now ++ leveled_from (drop (i + 1) text) (drop (i + 1) levels)
    ≡ done ++ leveled_from (drop i text) (drop i levels)
leveled_more text levels done now i c d level o within long here is now_is =
    ap (λ l. l ++ leveled_from (drop (i + 1) text) (drop (i + 1) levels)) now_is
    ∙ append_assoc done (leveled_of c level) (leveled_from (drop (i + 1) text) (drop (i + 1) levels))
    ∙ ap (λ k. done ++ (leveled_of k level ++ leveled_from (drop (i + 1) text) (drop (i + 1) levels))) here
    ∙ ap (λ k. done ++ (leveled_of (get_or text i d) k ++ leveled_from (drop (i + 1) text) (drop (i + 1) levels))) is
    ∙ ap (λ l. done ++ leveled_from (get_or text i d ∷ drop (i + 1) text) l)
    (sym (drop_more levels i o (omega (arith, long))))
    ∙ ap (λ l. done ++ leveled_from l (drop i levels)) (sym (drop_more text i d within))

-- ---- reversals of parts

reversed-split : (k : ℕ) (run a : List LeveledCharacter) (z : LeveledCharacter) (b : List LeveledCharacter)
    → z.level < k
    → reversed_from k run (a ++ z ∷ b) ≡ reversed_from k run a ++ z ∷ reversed_from k [] b
reversed-split k run [] z b low = cond-false _ _ _ (lt-leb k z.level low)
reversed-split k run (x ∷ a) z b low =
    elim (cases_Bool (nat_le k x.level)) [
      | inl high ↦ cond-true _ _ _ high ∙ reversed-split k (x ∷ run) a z b low
          ∙ ap (λ l. l ++ z ∷ reversed_from k [] b) (sym (cond-true _ _ _ high))
      | inr lower ↦
          cond-false _ _ _ lower ∙ ap (λ l. run ++ x ∷ l) (reversed-split k [] a z b low)
          ∙ sym (append_assoc run (x ∷ reversed_from k [] a) (z ∷ reversed_from k [] b))
          ∙ ap (λ l. l ++ z ∷ reversed_from k [] b) (sym (cond-false _ _ _ lower))
    ]

-- a character below the lowest level parts the line
reordered-split : (lowest n : ℕ) (a : List LeveledCharacter) (z : LeveledCharacter) (b : List LeveledCharacter)
    → z.level < lowest
    → reordered lowest n (a ++ z ∷ b) ≡ reordered lowest n a ++ z ∷ reordered lowest n b
reordered-split lowest zero a z b low = refl
reordered-split lowest (suc n) a z b low =
    ap (reversed_from lowest []) (reordered-split (lowest + 1) n a z b (omega arith))
    ∙ reversed-split lowest [] (reordered (lowest + 1) n a) z (reordered (lowest + 1) n b) low

-- ---- runs at a level or above

High-append : {k : ℕ} (a b : List LeveledCharacter) → High k a → High k b → High k (a ++ b)
High-append a b high_end h = h
High-append a b (high_more {xs = xs} g gs) h = high_more g (High-append xs b gs h)

High-reversed : {j : ℕ} (k : ℕ) (run xs : List LeveledCharacter) → High j run → High j xs
    → High j (reversed_from k run xs)
High-reversed k run xs r high_end = r
High-reversed {j} k run xs r (high_more {x = y} {xs = ys} h hs) =
    elim (cases_Bool (nat_le k y.level)) [
      | inl high ↦ subst (High j) (sym (cond-true _ _ _ high)) (High-reversed k (y ∷ run) ys (high_more h r) hs)
      | inr low ↦ subst (High j) (sym (cond-false _ _ _ low))
          (High-append run (y ∷ reversed_from k [] ys) r (high_more h (High-reversed k [] ys high_end hs)))
    ]

High-reordered : {j : ℕ} (lowest n : ℕ) (xs : List LeveledCharacter) → High j xs → High j (reordered lowest n xs)
High-reordered lowest zero xs h = h
High-reordered lowest (suc n) xs h = High-reversed lowest [] (reordered (lowest + 1) n xs) high_end
    (High-reordered (lowest + 1) n xs h)

High-weaker : {j k : ℕ} (xs : List LeveledCharacter) → j ≤ k → High k xs → High j xs
High-weaker xs low high_end = high_end
High-weaker xs low (high_more {xs = ys} h hs) = high_more (omega (arith, h, low)) (High-weaker ys low hs)

reversed-High : (k : ℕ) (run xs : List LeveledCharacter) → High k xs → reversed_from k run xs ≡ reverse xs ++ run
reversed-High k run xs high_end = refl
reversed-High k run xs (high_more {x = y} {xs = ys} h hs) =
    cond-true _ _ _ (le-leb k y.level h) ∙ reversed-High k (y ∷ run) ys hs
    ∙ sym (append_assoc (reverse ys) (y ∷ []) run) ∙ ap (λ l. l ++ run) (sym (reverse-append (y ∷ []) ys))

-- the lowest level turns such a run whole
run-reversed : (lowest n : ℕ) (xs : List LeveledCharacter) → High lowest xs
    → reordered lowest (suc n) xs ≡ reverse (reordered (lowest + 1) n xs)
run-reversed lowest n xs h =
    reversed-High lowest [] (reordered (lowest + 1) n xs) (High-reordered (lowest + 1) n xs h)
    ∙ append-nil (reverse (reordered (lowest + 1) n xs))

-- whether one level more than these turns a list once
abbrev is_turned : ℕ → Bool
is_turned zero = true
is_turned (suc k) = not (is_turned k)

turned-again : (b : Bool) (xs : List LeveledCharacter) → reverse (turned_by b xs) ≡ turned_by (not b) xs
turned-again true xs = reverse-reverse xs
turned-again false xs = refl

deeper : (k lowest next m n : ℕ) (xs : List LeveledCharacter) → next ≡ lowest + k + 1 → m ≡ n + k + 1
    → High (lowest + k) xs → reordered lowest m xs ≡ turned_by (is_turned k) (reordered next n xs)
deeper zero lowest next m n xs at size h =
    let levels : m ≡ suc n = omega (arith, size) in
    let following : lowest + 1 ≡ next = omega (arith, at) in
    let low : lowest ≤ lowest + 0 = omega arith in
    ap (λ i. reordered lowest i xs) levels
    ∙ run-reversed lowest n xs (High-weaker xs low h)
    ∙ ap (λ i. reverse (reordered i n xs)) following
deeper (suc k) lowest next m n xs at size h =
    let levels : m ≡ suc (n + k + 1) = omega (arith, size) in
    let following : next ≡ lowest + 1 + k + 1 = omega (arith, at) in
    let low : lowest ≤ lowest + suc k = omega arith in
    let above : lowest + 1 + k ≤ lowest + suc k = omega arith in
    ap (λ i. reordered lowest i xs) levels
    ∙ run-reversed lowest (n + k + 1) xs (High-weaker xs low h)
    ∙ ap reverse (deeper k (lowest + 1) next (n + k + 1) n xs following refl (High-weaker xs above h))
    ∙ turned-again (is_turned k) (reordered next n xs)

even-next : (k : ℕ) → (suc k % 2 == 0) ≡ not (k % 2 == 0)
even-next k =
    elim (cases_Bool (k % 2 == 0)) [
      | inl even ↦ let h : k % 2 ≡ 0 = eqb-true (k % 2) 0 even in ne_eqb (suc k % 2) 0 (λ e. omega arith)
          ∙ sym (ap not even)
      | inr odd ↦ eq-eqb (suc k % 2) 0 (odd_next odd) ∙ sym (ap not odd)
    ]
  where
    odd_next : (k % 2 == 0) ≡ false → suc k % 2 ≡ 0
    odd_next odd = elim (cases_lt (k % 2) 1) [
      | inl h ↦ absurd (both_ways _ odd (eq-eqb (k % 2) 0 (omega arith)))
      | inr h ↦ omega arith
    ]

turned-even : (k : ℕ) → is_turned k ≡ (k % 2 == 0)
turned-even zero = refl
turned-even (suc k) = ap not (turned-even k) ∙ sym (even-next k)

abbrev differs : Bool → Bool → Bool
differs true b = not b
differs false b = b

both-turned : (a b : Bool) (xs : List LeveledCharacter)
    → turned_by a (turned_by b xs) ≡ turned_by (differs a b) xs
both-turned true b xs = turned-again b xs
both-turned false b xs = refl

-- a run at the least level or above is turned whole up to that level
high_of : (k : ℕ) (xs : List LeveledCharacter) → list_all (λ (x : LeveledCharacter). nat_le k x.level) xs ≡ true
    → High k xs
high_of k [] h = high_end
high_of k (x ∷ xs) h =
    let parts = and_parts (nat_le k x.level) (list_all (λ (x : LeveledCharacter). nat_le k x.level) xs) h in
    high_more (leb-true k x.level parts.0) (high_of k xs parts.1)

differs-if : (t b : Bool) → differs t b ≡ (if b then not t else t)
differs-if true true = refl
differs-if true false = refl
differs-if false true = refl
differs-if false false = refl

pub run_turned : (lowest least above : ℕ) (t u : Bool) (xs : List LeveledCharacter) → lowest ≤ least → least < above
    → list_all (λ (x : LeveledCharacter). nat_le least x.level) xs ≡ true
    → u ≡ (if (least - lowest) % 2 == 0 then not t else t)
    → turned_by u (reordered (least + 1) (above - (least + 1)) xs)
    ≡ turned_by t (reordered lowest (above - lowest) xs)
run_turned lowest least above t u xs low high run is =
    let inner : List LeveledCharacter = reordered (least + 1) (above - (least + 1)) xs in
    let next : least + 1 ≡ lowest + (least - lowest) + 1 = omega arith in
    let levels : above - lowest ≡ above - (least + 1) + (least - lowest) + 1 = omega arith in
    let below : lowest + (least - lowest) ≤ least = omega arith in
    sym (ap (turned_by t) (deeper (least - lowest) lowest (least + 1) (above - lowest) (above - (least + 1)) xs
    next levels (High-weaker xs below (high_of least xs run)))
    ∙ both-turned t (is_turned (least - lowest)) inner
    ∙ ap (λ b. turned_by b inner) (ap (differs t) (turned-even (least - lowest))
    ∙ differs-if t ((least - lowest) % 2 == 0) ∙ sym is))

-- ---- a run that grows

all-weaker : (j k : ℕ) (xs : List LeveledCharacter) → j ≤ k
    → list_all (λ (x : LeveledCharacter). nat_le k x.level) xs ≡ true
    → list_all (λ (x : LeveledCharacter). nat_le j x.level) xs ≡ true
all-weaker j k [] low h = refl
all-weaker j k (x ∷ xs) low h =
    let parts = and_parts (nat_le k x.level) (list_all (λ (x : LeveledCharacter). nat_le k x.level) xs) h in
    and_from _ _ (le-leb j x.level (omega (arith, low, leb-true k x.level parts.0))) (all-weaker j k xs low parts.1)

all-append : (k : ℕ) (xs ys : List LeveledCharacter)
    → list_all (λ (x : LeveledCharacter). nat_le k x.level) xs ≡ true
    → list_all (λ (x : LeveledCharacter). nat_le k x.level) ys ≡ true
    → list_all (λ (x : LeveledCharacter). nat_le k x.level) (xs ++ ys) ≡ true
all-append k [] ys h g = g
all-append k (x ∷ xs) ys h g =
    let parts = and_parts (nat_le k x.level) (list_all (λ (x : LeveledCharacter). nat_le k x.level) xs) h in
    and_from _ _ parts.0 (all-append k xs ys parts.1 g)

pub run_longer : (least next start i : ℕ) (xs : List LeveledCharacter) (x d : LeveledCharacter) → start ≤ i
    → i < length xs → x ≡ get_or xs i d → next ≤ least → next ≤ x.level
    → list_all (λ (x : LeveledCharacter). nat_le least x.level) (take (i - start) (drop start xs)) ≡ true
    → list_all (λ (x : LeveledCharacter). nat_le next x.level) (take (i + 1 - start) (drop start xs)) ≡ true
run_longer least next start i xs x d order within here low lower run =
    let one : i + 1 - start ≡ (i - start) + 1 = omega arith in
    let back : start + (i - start) ≡ i = omega arith in
    let longer : take (i + 1 - start) (drop start xs) ≡ take (i - start) (drop start xs) ++ x ∷ [] =
    ap (λ n. take n (drop start xs)) one
    ∙ take_more (drop start xs) (i - start) d (omega (arith, length-drop start xs))
    ∙ ap (λ y. take (i - start) (drop start xs) ++ y ∷ [])
    (get_or-drop start xs (i - start) d ∙ ap (λ n. get_or xs n d) back ∙ sym here) in
    subst (λ l. list_all (λ (x : LeveledCharacter). nat_le next x.level) l ≡ true) (sym longer)
    (all-append next (take (i - start) (drop start xs)) (x ∷ [])
    (all-weaker next least (take (i - start) (drop start xs)) low run) (and_from _ _ (le-leb next x.level lower) refl))

pub run_longer_back : (least next i end : ℕ) (xs : List LeveledCharacter) (x d : LeveledCharacter) → i < end
    → end ≤ length xs → x ≡ get_or xs i d → next ≤ least → next ≤ x.level
    → list_all (λ (x : LeveledCharacter). nat_le least x.level) (take (end - (i + 1)) (drop (i + 1) xs)) ≡ true
    → list_all (λ (x : LeveledCharacter). nat_le next x.level) (take (end - i) (drop i xs)) ≡ true
run_longer_back least next i end xs x d order within here low lower run =
    let one : end - i ≡ suc (end - (i + 1)) = omega arith in
    let here_within : i < length xs = omega arith in
    let longer : take (end - i) (drop i xs) ≡ x ∷ take (end - (i + 1)) (drop (i + 1) xs) =
    ap (λ n. take n (drop i xs)) one
    ∙ ap (take (suc (end - (i + 1)))) (drop_more xs i d here_within)
    ∙ ap (λ y. y ∷ take (end - (i + 1)) (drop (i + 1) xs)) (sym here) in
    subst (λ l. list_all (λ (x : LeveledCharacter). nat_le next x.level) l ≡ true) (sym longer)
    (and_from _ _ (le-leb next x.level lower)
    (all-weaker next least (take (end - (i + 1)) (drop (i + 1) xs)) low run))

-- the characters that are read twice at one index are the same
pub same_at : (xs : List LeveledCharacter) (i : ℕ) (x y d e : LeveledCharacter) → i < length xs
    → x ≡ get_or xs i d → y ≡ get_or xs i e → x ≡ y
same_at [] i x y d e within first second = absurd (omega (arith, within))
same_at (z ∷ xs) zero x y d e within first second = first ∙ sym second
same_at (z ∷ xs) (suc i) x y d e within first second = same_at xs i x y d e (omega (arith, within)) first second

-- ---- a run that ends

take-parts : (n m : ℕ) (xs : List LeveledCharacter) → take (n + m) xs ≡ take n xs ++ take m (drop n xs)
take-parts n m xs = sym (take-append-drop n (take (n + m) xs))
    ∙ ap (λ l. l ++ drop n (take (n + m) xs)) (take-take n (n + m) xs (omega arith))
    ∙ ap (λ l. take n xs ++ l) (drop-take n m xs)

pub run_ends : (lowest n start i : ℕ) (xs done whole now : List LeveledCharacter) (x d : LeveledCharacter)
    → start ≤ i → i < length xs → x ≡ get_or xs i d → x.level < lowest
    → now ≡ (done ++ reordered lowest n (take (i - start) (drop start xs))) ++ x ∷ []
    → done ++ reordered lowest n (drop start xs) ≡ whole
    → now ++ reordered lowest n (drop (i + 1) xs) ≡ whole
run_ends lowest n start i xs done whole now x d order within here low now_is so_far =
    let run : List LeveledCharacter = take (i - start) (drop start xs) in
    let rest : List LeveledCharacter = drop (i + 1) xs in
    let back : start + (i - start) ≡ i = omega arith in
    let parts : drop start xs ≡ run ++ x ∷ rest =
    sym (take-append-drop (i - start) (drop start xs))
    ∙ ap (λ l. run ++ l) (drop-drop (i - start) start xs ∙ ap (λ m. drop m xs) back
    ∙ drop_more xs i d within ∙ ap (λ y. y ∷ rest) (sym here)) in
    ap (λ l. l ++ reordered lowest n rest) now_is
    ∙ append_assoc (done ++ reordered lowest n run) (x ∷ []) (reordered lowest n rest)
    ∙ append_assoc done (reordered lowest n run) (x ∷ reordered lowest n rest)
    ∙ ap (λ l. done ++ l) (sym (reordered-split lowest n run x rest low) ∙ ap (reordered lowest n) (sym parts))
    ∙ so_far

pub run_begins : (lowest n i end : ℕ) (xs done whole now : List LeveledCharacter) (x d : LeveledCharacter)
    → i < end → end ≤ length xs → x ≡ get_or xs i d → x.level < lowest
    → now ≡ (done ++ reverse (reordered lowest n (take (end - (i + 1)) (drop (i + 1) xs)))) ++ x ∷ []
    → done ++ reverse (reordered lowest n (take end xs)) ≡ whole
    → now ++ reverse (reordered lowest n (take i xs)) ≡ whole
run_begins lowest n i end xs done whole now x d order within here low now_is so_far =
    let run : List LeveledCharacter = take (end - (i + 1)) (drop (i + 1) xs) in
    let before : List LeveledCharacter = take i xs in
    let whole_end : end ≡ i + (end - i) = omega arith in
    let one : end - i ≡ suc (end - (i + 1)) = omega arith in
    let here_within : i < length xs = omega arith in
    let parts : take end xs ≡ before ++ x ∷ run =
    ap (λ m. take m xs) whole_end ∙ take-parts i (end - i) xs
    ∙ ap (λ l. before ++ l) (ap (λ m. take m (drop i xs)) one
    ∙ ap (take (suc (end - (i + 1)))) (drop_more xs i d here_within)
    ∙ ap (λ y. y ∷ run) (sym here)) in
    let turned : reverse (reordered lowest n (take end xs))
    ≡ reverse (reordered lowest n run) ++ x ∷ reverse (reordered lowest n before) =
    ap (λ l. reverse (reordered lowest n l)) parts
    ∙ ap reverse (reordered-split lowest n before x run low)
    ∙ reverse-append (reordered lowest n before) (x ∷ reordered lowest n run)
    ∙ ap (λ l. l ++ reverse (reordered lowest n before)) (reverse-append (x ∷ []) (reordered lowest n run))
    ∙ append_assoc (reverse (reordered lowest n run)) (x ∷ []) (reverse (reordered lowest n before)) in
    ap (λ l. l ++ reverse (reordered lowest n before)) now_is
    ∙ append_assoc (done ++ reverse (reordered lowest n run)) (x ∷ []) (reverse (reordered lowest n before))
    ∙ append_assoc done (reverse (reordered lowest n run)) (x ∷ reverse (reordered lowest n before))
    ∙ ap (λ l. done ++ l) (sym turned)
    ∙ so_far

pub turned_more : (xs done whole now : List LeveledCharacter) (i : ℕ) (x d : LeveledCharacter) → i < length xs
    → x ≡ get_or xs i d → now ≡ done ++ x ∷ [] → done ++ reverse (take (i + 1) xs) ≡ whole
    → now ++ reverse (take i xs) ≡ whole
turned_more xs done whole now i x d within here now_is so_far =
    ap (λ l. l ++ reverse (take i xs)) now_is
    ∙ append_assoc done (x ∷ []) (reverse (take i xs))
    ∙ ap (λ y. done ++ y ∷ reverse (take i xs)) here
    ∙ ap (λ l. done ++ l) (sym (reverse-append (take i xs) (get_or xs i d ∷ []))
    ∙ ap reverse (sym (take_more xs i d within)))
    ∙ so_far

nothing-reordered : (lowest n : ℕ) → reordered lowest n [] ≡ []
nothing-reordered lowest zero = refl
nothing-reordered lowest (suc n) = ap (reversed_from lowest []) (nothing-reordered (lowest + 1) n)

nothing-turned : (t : Bool) → turned_by t [] ≡ []
nothing-turned true = refl
nothing-turned false = refl

pub empty_run : (t : Bool) (lowest n : ℕ) (xs : List LeveledCharacter) → length xs ≡ 0
    → turned_by t (reordered lowest n xs) ≡ []
empty_run t lowest n [] none = ap (turned_by t) (nothing-reordered lowest n) ∙ nothing-turned t
empty_run t lowest n (x ∷ xs) none = absurd (omega (arith, none))

-- ---- a run at the start and at the end of a list

pub run_none : (least n : ℕ) (xs : List LeveledCharacter) → n ≡ 0
    → list_all (λ (x : LeveledCharacter). nat_le least x.level) (take n xs) ≡ true
run_none least n xs none = ap (λ m. list_all (λ (x : LeveledCharacter). nat_le least x.level) (take m xs)) none

pub run_rest : (least start i : ℕ) (xs : List LeveledCharacter) → length xs ≤ i
    → list_all (λ (x : LeveledCharacter). nat_le least x.level) (take (i - start) (drop start xs)) ≡ true
    → list_all (λ (x : LeveledCharacter). nat_le least x.level) (drop start xs) ≡ true
run_rest least start i xs end run =
    subst (λ l. list_all (λ (x : LeveledCharacter). nat_le least x.level) l ≡ true)
    (take_all (i - start) (drop start xs) (omega (arith, length-drop start xs))) run

pub run_whole : (least i end : ℕ) (xs : List LeveledCharacter) → i ≡ 0
    → list_all (λ (x : LeveledCharacter). nat_le least x.level) (take (end - i) (drop i xs)) ≡ true
    → list_all (λ (x : LeveledCharacter). nat_le least x.level) (take end xs) ≡ true
run_whole least i end xs none run =
    let all : end - 0 ≡ end = omega arith in
    subst (λ n. list_all (λ (x : LeveledCharacter). nat_le least x.level) (take n xs) ≡ true) all
    (subst (λ n. list_all (λ (x : LeveledCharacter). nat_le least x.level) (take (end - n) (drop n xs)) ≡ true) none
    run)

pub all_taken : (n : ℕ) (xs : List LeveledCharacter) → n ≡ length xs → take n xs ≡ xs
all_taken n xs e = take_all n xs (omega arith)

pub no_levels : (lowest above : ℕ) (xs : List LeveledCharacter) → lowest ≡ above
    → reordered lowest (above - lowest) xs ≡ xs
no_levels lowest above xs e =
    let none : above - lowest ≡ 0 = omega arith in
    ap (λ n. reordered lowest n xs) none
