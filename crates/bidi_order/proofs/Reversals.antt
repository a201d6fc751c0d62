-- What the reversals of L2 do to the order of two characters.
use Rattle.std.proofs.Common.{◌≡◌, ℕ, zero, suc, ◌+◌, ◌-◌, ◌<◌, ◌≤◌, min, Bool, true, false, not, nat_le, inl, inr, ◌⊎◌}
use Rattle.std.proofs.Common.{List, [], ◌∷◌, ◌++◌, reverse, refl, sym, ap, subst, ◌∙◌, append_assoc, arith}
use Rattle.std.proofs.lemmas.Bool.{cond-true, cond-false, cases_Bool, cases_lt, le-leb, leb-true}
use Rattle.std.proofs.lemmas.List.{append-nil, reverse-append}
use Rattle.bidi_order.specs.VisualOrder.{LeveledCharacter, reversed_from, reordered}

-- an element is in a list
pub data In (x : LeveledCharacter) : List LeveledCharacter → Type 0 where
  in_head : {xs : List LeveledCharacter} → In x (x ∷ xs)
  in_tail : {y : LeveledCharacter} {xs : List LeveledCharacter} → In x xs → In x (y ∷ xs)

-- an element stands before another one
pub data Before (x y : LeveledCharacter) : List LeveledCharacter → Type 0 where
  before_head : {xs : List LeveledCharacter} → In y xs → Before x y (x ∷ xs)
  before_tail : {z : LeveledCharacter} {xs : List LeveledCharacter} → Before x y xs → Before x y (z ∷ xs)

-- all elements have the level, or a higher one
pub data High (lowest : ℕ) : List LeveledCharacter → Type 0 where
  high_end : High lowest []
  high_more : {x : LeveledCharacter} {xs : List LeveledCharacter} → lowest ≤ x.level → High lowest xs
      → High lowest (x ∷ xs)

In-left : {x : LeveledCharacter} (a b : List LeveledCharacter) → In x a → In x (a ++ b)
In-left (y ∷ a) b in_head = in_head
In-left (y ∷ a) b (in_tail h) = in_tail (In-left a b h)
In-left [] b h = elim h [ ]

In-right : {x : LeveledCharacter} (a b : List LeveledCharacter) → In x b → In x (a ++ b)
In-right [] b h = h
In-right (y ∷ a) b h = in_tail (In-right a b h)

In-split : {x : LeveledCharacter} (a b : List LeveledCharacter) → In x (a ++ b) → In x a ⊎ In x b
In-split [] b h = inr h
In-split (y ∷ a) b in_head = inl in_head
In-split (y ∷ a) b (in_tail h) = elim (In-split a b h) [ inl l ↦ inl (in_tail l) | inr r ↦ inr r ]

Before-left : {x y : LeveledCharacter} (a b : List LeveledCharacter) → Before x y a → Before x y (a ++ b)
Before-left (z ∷ a) b (before_head h) = before_head (In-left a b h)
Before-left (z ∷ a) b (before_tail h) = before_tail (Before-left a b h)
Before-left [] b h = elim h [ ]

Before-right : {x y : LeveledCharacter} (a b : List LeveledCharacter) → Before x y b → Before x y (a ++ b)
Before-right [] b h = h
Before-right (z ∷ a) b h = before_tail (Before-right a b h)

Before-across : {x y : LeveledCharacter} (a b : List LeveledCharacter) → In x a → In y b → Before x y (a ++ b)
Before-across (z ∷ a) b in_head k = before_head (In-right a b k)
Before-across (z ∷ a) b (in_tail h) k = before_tail (Before-across a b h k)
Before-across [] b h k = elim h [ ]

In-reverse : {x : LeveledCharacter} (xs : List LeveledCharacter) → In x xs → In x (reverse xs)
In-reverse [] h = elim h [ ]
In-reverse (y ∷ xs) in_head = rw (reverse-append (y ∷ []) xs) (In-right (reverse xs) (y ∷ []) in_head)
In-reverse (y ∷ xs) (in_tail h) = rw (reverse-append (y ∷ []) xs) (In-left (reverse xs) (y ∷ []) (In-reverse xs h))

Before-reverse : {x y : LeveledCharacter} (xs : List LeveledCharacter) → Before x y xs → Before y x (reverse xs)
Before-reverse [] h = elim h [ ]
Before-reverse (z ∷ xs) (before_head h) =
    rw (reverse-append (z ∷ []) xs) (Before-across (reverse xs) (z ∷ []) (In-reverse xs h) in_head)
Before-reverse (z ∷ xs) (before_tail h) =
    rw (reverse-append (z ∷ []) xs) (Before-left (reverse xs) (z ∷ []) (Before-reverse xs h))

In-reversed_from : {x : LeveledCharacter} (k : ℕ) (run xs : List LeveledCharacter) → In x run ⊎ In x xs
    → In x (reversed_from k run xs)
In-reversed_from k run [] (inl h) = h
In-reversed_from k run [] (inr h) = elim h [ ]
In-reversed_from {x} k run (y ∷ xs) h =
    elim (cases_Bool (nat_le k y.level)) [
      | inl high ↦ subst (In x) (sym (cond-true _ _ _ high))
          (In-reversed_from k (y ∷ run) xs (elim h [ inl l ↦ inl (in_tail l) | inr r ↦ into run y xs r ]))
      | inr low ↦ subst (In x) (sym (cond-false _ _ _ low))
          (elim h [
            | inl l ↦ In-left run (y ∷ reversed_from k [] xs) l
            | inr r ↦
                In-right run (y ∷ reversed_from k [] xs) (later y xs (In-reversed_from k [] xs) r)
          ])
    ]
  where
    into : (run : List LeveledCharacter) (y : LeveledCharacter) (xs : List LeveledCharacter) → In x (y ∷ xs)
        → In x (y ∷ run) ⊎ In x xs
    into run y xs in_head = inl in_head
    into run y xs (in_tail h) = inr h

    later : (y : LeveledCharacter) (xs : List LeveledCharacter) → (In x [] ⊎ In x xs → In x (reversed_from k [] xs))
        → In x (y ∷ xs) → In x (y ∷ reversed_from k [] xs)
    later y xs f in_head = in_head
    later y xs f (in_tail h) = in_tail (f (inr h))

In-reordered : {x : LeveledCharacter} (lowest n : ℕ) (xs : List LeveledCharacter) → In x xs
    → In x (reordered lowest n xs)
In-reordered lowest zero xs h = h
In-reordered lowest (suc n) xs h = In-reversed_from lowest [] (reordered (lowest + 1) n xs)
    (inr (In-reordered (lowest + 1) n xs h))

High-append : {k : ℕ} (a b : List LeveledCharacter) → High k a → High k b → High k (a ++ b)
High-append a b high_end k = k
High-append a b (high_more {xs = xs} h hs) k = high_more h (High-append xs b hs k)

High-reversed_from : {j : ℕ} (k : ℕ) (run xs : List LeveledCharacter) → High j run → High j xs
    → High j (reversed_from k run xs)
High-reversed_from k run xs r high_end = r
High-reversed_from {j} k run xs r (high_more {x = y} {xs = ys} h hs) =
    elim (cases_Bool (nat_le k y.level)) [
      | inl high ↦ subst (High j) (sym (cond-true _ _ _ high)) (High-reversed_from k (y ∷ run) ys (high_more h r) hs)
      | inr low ↦ subst (High j) (sym (cond-false _ _ _ low))
          (High-append run (y ∷ reversed_from k [] ys) r (high_more h (High-reversed_from k [] ys high_end hs)))
    ]

High-reordered : {j : ℕ} (lowest n : ℕ) (xs : List LeveledCharacter) → High j xs → High j (reordered lowest n xs)
High-reordered lowest zero xs h = h
High-reordered lowest (suc n) xs h = High-reversed_from lowest [] (reordered (lowest + 1) n xs) high_end
    (High-reordered (lowest + 1) n xs h)

-- a list at the level or above is one run
reversed_from-High : (k : ℕ) (run xs : List LeveledCharacter) → High k xs → reversed_from k run xs ≡ reverse xs ++ run
reversed_from-High k run xs high_end = refl
reversed_from-High k run xs (high_more {x = y} {xs = ys} h hs) =
    cond-true _ _ _ (le-leb k y.level h) ∙ reversed_from-High k (y ∷ run) ys hs
    ∙ sym (append_assoc (reverse ys) (y ∷ []) run) ∙ ap (λ l. l ++ run) (sym (reverse-append (y ∷ []) ys))

-- a character below the level parts the line
reversed_from-split : (k : ℕ) (run a : List LeveledCharacter) (z : LeveledCharacter) (b : List LeveledCharacter)
    → z.level < k
    → reversed_from k run (a ++ z ∷ b) ≡ reversed_from k run a ++ z ∷ reversed_from k [] b
reversed_from-split k run [] z b low = cond-false _ _ _ (below k z.level low)
  where
    below : (k n : ℕ) → n < k → nat_le k n ≡ false
    below k n h = elim (cases_Bool (nat_le k n)) [
      | inl is ↦ absurd (omega (arith, leb-true k n is))
      | inr isn't ↦
          isn't
    ]
reversed_from-split k run (x ∷ a) z b low =
    elim (cases_Bool (nat_le k x.level)) [
      | inl high ↦ cond-true _ _ _ high ∙ reversed_from-split k (x ∷ run) a z b low
          ∙ ap (λ l. l ++ z ∷ reversed_from k [] b) (sym (cond-true _ _ _ high))
      | inr lower ↦
          cond-false _ _ _ lower ∙ ap (λ l. run ++ x ∷ l) (reversed_from-split k [] a z b low)
          ∙ sym (append_assoc run (x ∷ reversed_from k [] a) (z ∷ reversed_from k [] b))
          ∙ ap (λ l. l ++ z ∷ reversed_from k [] b) (sym (cond-false _ _ _ lower))
    ]

reordered-split : (lowest n : ℕ) (a : List LeveledCharacter) (z : LeveledCharacter) (b : List LeveledCharacter)
    → z.level < lowest
    → reordered lowest n (a ++ z ∷ b) ≡ reordered lowest n a ++ z ∷ reordered lowest n b
reordered-split lowest zero a z b low = refl
reordered-split lowest (suc n) a z b low =
    ap (reversed_from lowest []) (reordered-split (lowest + 1) n a z b (omega arith))
    ∙ reversed_from-split lowest [] (reordered (lowest + 1) n a) z (reordered (lowest + 1) n b) low

-- the order of two characters: unchanged, or turned
abbrev pub Ordered : Bool → LeveledCharacter → LeveledCharacter → List LeveledCharacter → Type 0
Ordered true x y xs = Before x y xs
Ordered false x y xs = Before y x xs

Ordered-left : (e : Bool) (x y : LeveledCharacter) (a b : List LeveledCharacter) → Ordered e x y a
    → Ordered e x y (a ++ b)
Ordered-left true x y a b h = Before-left a b h
Ordered-left false x y a b h = Before-left a b h

Ordered-right : (e : Bool) (x y : LeveledCharacter) (a b : List LeveledCharacter) → Ordered e x y b
    → Ordered e x y (a ++ b)
Ordered-right true x y a b h = Before-right a b h
Ordered-right false x y a b h = Before-right a b h

Ordered-reverse : (e : Bool) (x y : LeveledCharacter) (xs : List LeveledCharacter) → Ordered e x y xs
    → Ordered (not e) x y (reverse xs)
Ordered-reverse true x y xs h = Before-reverse xs h
Ordered-reverse false x y xs h = Before-reverse xs h

-- so many reversals leave the order
abbrev pub flips : ℕ → Bool
flips zero = true
flips (suc n) = not (flips n)

-- the least level of some characters and a number
abbrev pub least : ℕ → List LeveledCharacter → ℕ
least n [] = n
least n (x ∷ xs) = least (min n x.level) xs

pub least-first : (n : ℕ) (xs : List LeveledCharacter) → least n xs ≤ n
least-first n [] = omega arith
least-first n (x ∷ xs) = omega (arith, least-first (min n x.level) xs)

least-mid : (n : ℕ) (a : List LeveledCharacter) (z : LeveledCharacter) (b : List LeveledCharacter)
    → least n (a ++ z ∷ b) ≤ z.level
least-mid n [] z b = omega (arith, least-first (min n z.level) b)
least-mid n (x ∷ a) z b = least-mid (min n x.level) a z b

least-High : (k n : ℕ) (xs : List LeveledCharacter) → k ≤ n → High k xs → k ≤ least n xs
least-High k n xs h high_end = h
least-High k n xs h (high_more {x = x} {xs = ys} g gs) = least-High k (min n x.level) ys (omega arith) gs

-- the first character below the level, and the last one
pub data First (k : ℕ) (xs : List LeveledCharacter) : Type 0 where
  first_none : High k xs → First k xs
  first_at : (a : List LeveledCharacter) (z : LeveledCharacter) (b : List LeveledCharacter) → xs ≡ a ++ z ∷ b
      → High k a → z.level < k → First k xs

first : (k : ℕ) (xs : List LeveledCharacter) → First k xs
first k [] = first_none high_end
first k (x ∷ xs) =
    elim (cases_lt x.level k) [
      | inl low ↦ first_at [] x xs refl high_end low
      | inr high ↦ elim (first k xs) [
        | first_none hs ↦ first_none (high_more high hs)
        | first_at a z b e hs low ↦ first_at (x ∷ a) z b (ap (λ l. x ∷ l) e) (high_more high hs) low
      ]
    ]

pub data Last (k : ℕ) (xs : List LeveledCharacter) : Type 0 where
  last_none : High k xs → Last k xs
  last_at : (a : List LeveledCharacter) (z : LeveledCharacter) (b : List LeveledCharacter) → xs ≡ a ++ z ∷ b
      → High k b → z.level < k → Last k xs

last : (k : ℕ) (xs : List LeveledCharacter) → Last k xs
last k [] = last_none high_end
last k (x ∷ xs) =
    elim (last k xs) [
      | last_at a z b e hs low ↦ last_at (x ∷ a) z b (ap (λ l. x ∷ l) e) hs low
      | last_none hs ↦ elim (cases_lt x.level k) [
        | inl low ↦ last_at [] x xs refl hs low
        | inr high ↦ last_none (high_more high hs)
      ]
    ]

-- the characters from one to another, in their line
abbrev pub around : List LeveledCharacter → LeveledCharacter → List LeveledCharacter → LeveledCharacter
    → List LeveledCharacter → List LeveledCharacter
around a x mid y b = a ++ x ∷ (mid ++ y ∷ b)

-- a low character between the two keeps their order
low_between : (lowest n : ℕ) (x y : LeveledCharacter) (p : List LeveledCharacter) (z : LeveledCharacter)
    (q : List LeveledCharacter) → z.level < lowest → In x p → In y q → Before x y (reordered lowest n (p ++ z ∷ q))
low_between lowest n x y p z q low i j =
    subst (Before x y) (sym (reordered-split lowest n p z q low))
    (Before-across (reordered lowest n p) (z ∷ reordered lowest n q) (In-reordered lowest n p i)
    (in_tail (In-reordered lowest n q j)))

low_first : (lowest n : ℕ) (x y : LeveledCharacter) (p q : List LeveledCharacter) → x.level < lowest → In y q
    → Before x y (reordered lowest n (p ++ x ∷ q))
low_first lowest n x y p q low j =
    subst (Before x y) (sym (reordered-split lowest n p x q low))
    (Before-right (reordered lowest n p) (x ∷ reordered lowest n q) (before_head (In-reordered lowest n q j)))

low_last : (lowest n : ℕ) (x y : LeveledCharacter) (p q : List LeveledCharacter) → y.level < lowest → In x p
    → Before x y (reordered lowest n (p ++ y ∷ q))
low_last lowest n x y p q low i =
    subst (Before x y) (sym (reordered-split lowest n p y q low))
    (Before-across (reordered lowest n p) (y ∷ reordered lowest n q) (In-reordered lowest n p i) in_head)

-- the order of two characters holds where low ones stand around
wider : (e : Bool) (lowest n : ℕ) (a : List LeveledCharacter) (x : LeveledCharacter) (mid : List LeveledCharacter)
    (y : LeveledCharacter) (b : List LeveledCharacter)
    → ((a b : List LeveledCharacter) → High lowest a → High lowest b
    → Ordered e x y (reordered lowest n (around a x mid y b)))
    → Ordered e x y (reordered lowest n (around a x mid y b))
wider e lowest n a x mid y b inner =
    elim (last lowest a) [
      | last_none hs ↦ right a hs
      | last_at a' z a'' is hs low ↦
          let same : around a x mid y b ≡ a' ++ z ∷ around a'' x mid y b = ap (λ l. l ++ x ∷ (mid ++ y ∷ b)) is
          ∙ append_assoc a' (z ∷ a'') (x ∷ (mid ++ y ∷ b)) in
          subst (Ordered e x y)
          (sym (ap (reordered lowest n) same ∙ reordered-split lowest n a' z (around a'' x mid y b) low))
          (Ordered-right e x y (reordered lowest n a') (z ∷ reordered lowest n (around a'' x mid y b))
          (Ordered-right e x y (z ∷ []) (reordered lowest n (around a'' x mid y b)) (right a'' hs)))
    ]
  where
    right : (a : List LeveledCharacter) → High lowest a → Ordered e x y (reordered lowest n (around a x mid y b))
    right a ha =
        elim (first lowest b) [
          | first_none hs ↦ inner a b ha hs
          | first_at b' z b'' is hs low ↦
              let same : around a x mid y b ≡ around a x mid y b' ++ z ∷ b'' =
              ap (λ l. a ++ x ∷ (mid ++ y ∷ l)) is ∙ ap (λ l. a ++ x ∷ l) (sym (append_assoc mid (y ∷ b') (z ∷ b'')))
              ∙ sym (append_assoc a (x ∷ (mid ++ y ∷ b')) (z ∷ b'')) in
              subst (Ordered e x y)
              (sym (ap (reordered lowest n) same ∙ reordered-split lowest n (around a x mid y b') z b'' low))
              (Ordered-left e x y (reordered lowest n (around a x mid y b')) (z ∷ reordered lowest n b'')
              (inner a b' ha hs))
        ]

-- the least level from one character to another
abbrev pub least_of : LeveledCharacter → List LeveledCharacter → LeveledCharacter → ℕ
least_of x mid y = least x.level (mid ++ y ∷ [])

-- two characters are turned once for each level that is reversed and at most their least one
pub reordered-Ordered : (n lowest : ℕ) (a : List LeveledCharacter) (x : LeveledCharacter)
    (mid : List LeveledCharacter) (y : LeveledCharacter) (b : List LeveledCharacter) → x.level < lowest + n
    → Ordered (flips (suc (least_of x mid y) - lowest)) x y (reordered lowest n (around a x mid y b))
reordered-Ordered zero lowest a x mid y b bound =
    let none : suc (least_of x mid y) - lowest ≡ 0 = omega (arith, least-first x.level (mid ++ y ∷ [])) in
    subst (λ k. Ordered (flips k) x y (around a x mid y b)) (sym none)
    (Before-right a (x ∷ (mid ++ y ∷ b)) (before_head (In-right mid (y ∷ b) in_head)))
reordered-Ordered (suc n) lowest a x mid y b bound =
    elim (cases_lt x.level lowest) [
      | inl low ↦ low_case (omega (arith, least-first x.level (mid ++ y ∷ [])))
          (low_first lowest (suc n) x y a (mid ++ y ∷ b) low (In-right mid (y ∷ b) in_head))
      | inr high_x ↦ elim (cases_lt y.level lowest) [
        | inl low ↦
            let same : (a ++ x ∷ mid) ++ y ∷ b ≡ around a x mid y b = append_assoc a (x ∷ mid) (y ∷ b) in
            low_case (omega (arith, least-mid x.level mid y []))
            (subst (λ l. Before x y (reordered lowest (suc n) l)) same
            (low_last lowest (suc n) x y (a ++ x ∷ mid) b low (In-right a (x ∷ mid) in_head)))
        | inr high_y ↦ elim (first lowest mid) [
          | first_at p z q is hs low ↦
              let least_is : least_of x mid y ≤ z.level = subst (λ l. least x.level (l ++ y ∷ []) ≤ z.level) (sym is)
              (subst (λ l. least x.level l ≤ z.level) (sym (append_assoc p (z ∷ q) (y ∷ [])))
              (least-mid x.level p z (q ++ y ∷ []))) in
              let same : (a ++ x ∷ p) ++ z ∷ (q ++ y ∷ b) ≡ around a x mid y b =
              append_assoc a (x ∷ p) (z ∷ (q ++ y ∷ b)) ∙ ap (λ l. a ++ x ∷ l) (sym (append_assoc p (z ∷ q) (y ∷ b)))
              ∙ ap (λ l. a ++ x ∷ (l ++ y ∷ b)) (sym is) in
              low_case (omega arith) (subst (λ l. Before x y (reordered lowest (suc n) l)) same
              (low_between lowest (suc n) x y (a ++ x ∷ p) z (q ++ y ∷ b) low (In-right a (x ∷ p) in_head)
              (In-right q (y ∷ b) in_head)))
          | first_none hs ↦
              let least_is : lowest ≤ least_of x mid y = least-High lowest x.level (mid ++ y ∷ []) high_x
              (High-append mid (y ∷ []) hs (high_more high_y high_end)) in
              let more : suc (least_of x mid y) - lowest ≡ suc (suc (least_of x mid y) - (lowest + 1)) = omega arith in
              subst (λ k. Ordered (flips k) x y (reordered lowest (suc n) (around a x mid y b))) (sym more)
              (wider (not (flips (suc (least_of x mid y) - (lowest + 1)))) lowest (suc n) a x mid y b (λ a b ha hb.
              let line : List LeveledCharacter = around a x mid y b in
              let high : High lowest line =
              High-append a (x ∷ (mid ++ y ∷ b)) ha
              (high_more high_x (High-append mid (y ∷ b) hs (high_more high_y hb))) in
              let turned : reordered lowest (suc n) line ≡ reverse (reordered (lowest + 1) n line) =
              reversed_from-High lowest [] (reordered (lowest + 1) n line) (High-reordered (lowest + 1) n line high)
              ∙ append-nil _ in
              subst (Ordered (not (flips (suc (least_of x mid y) - (lowest + 1)))) x y) (sym turned)
              (Ordered-reverse _ x y (reordered (lowest + 1) n line)
              (reordered-Ordered n (lowest + 1) a x mid y b (omega arith)))))
        ]
      ]
    ]
  where
    low_case : least_of x mid y < lowest → Before x y (reordered lowest (suc n) (around a x mid y b))
        → Ordered (flips (suc (least_of x mid y) - lowest)) x y (reordered lowest (suc n) (around a x mid y b))
    low_case low h =
        let none : suc (least_of x mid y) - lowest ≡ 0 = omega arith in
        subst (λ k. Ordered (flips k) x y (reordered lowest (suc n) (around a x mid y b))) (sym none) h
