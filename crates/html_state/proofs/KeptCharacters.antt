-- Characters in an array with one more. (The room is a variable, since `take` of a numeral opens step by step.)
use Rattle.std.proofs.Common.{◌≡◌, ◌≤◌, ◌<◌, ◌+◌, ◌-◌, ◌++◌, ℕ, List, [], ◌∷◌, length, take, drop, replicate, set, ap}
use Rattle.std.proofs.Common.{sym, subst, ◌∙◌, arith, length-take-le, length-append, get_or}
use Rattle.std.proofs.lemmas.Grind.{common_steps}
use Rattle.std.proofs.lemmas.List.{drop-set-lt, drop-replicate, drop-drop, take_all, take-append-le}

set_kept : (n : ℕ) (xs : List ℕ) (c : ℕ) → n < length xs → take n xs ++ c ∷ [] ≡ take (n + 1) (set xs n c)
set_kept n xs c small = grind (arith, common_steps)

pub set_zeros : (n m : ℕ) (xs : List ℕ) (c : ℕ) → n < m → drop n xs ≡ replicate (m - n) 0 →
    drop (n + 1) (set xs n c) ≡ replicate (m - (n + 1)) 0
set_zeros n m xs c small zeros =
    drop-set-lt (n + 1) xs n c (omega arith) ∙ (sym (drop-drop 1 n xs)
    ∙ (ap (drop 1) zeros ∙ (drop-replicate 1 (m - n) 0
    ∙ ap (λ k. replicate k 0) (let e : m - n - 1 ≡ m - (n + 1) = omega arith in e))))

pub kept_then : (n m : ℕ) (xs now : List ℕ) (c : ℕ) → take n xs ≡ now → n < m → length xs ≡ m →
    take (n + 1) (set xs n c) ≡ take m (now ++ c ∷ [])
kept_then n m xs now c is small full =
    let short : length now ≤ n = subst (λ l. length l ≤ n) is (omega (arith, length-take-le n xs (omega arith))) in
    let fits : length (now ++ c ∷ []) ≤ m = omega (arith, length-append now (c ∷ [])) in
    sym (set_kept n xs c (omega arith)) ∙ (ap (λ l. l ++ c ∷ []) is ∙ sym (take_all m (now ++ c ∷ []) fits))

pub kept_else : (n m : ℕ) (xs now : List ℕ) (c : ℕ) → take n xs ≡ now → n ≤ m → m ≤ n → length xs ≡ m →
    now ≡ take m (now ++ c ∷ [])
kept_else n m xs now c is small large full =
    let is_m : length now ≡ m = subst (λ l. length l ≡ m) is (omega (arith, length-take-le n xs (omega arith))) in
    sym (take-append-le m now (c ∷ []) (omega arith) ∙ take_all m now (omega arith))

pub set_length : (n : ℕ) (xs : List ℕ) (c : ℕ) (m : ℕ) → length xs ≡ m → length (set xs n c) ≡ m
set_length n xs c m full = grind (arith, common_steps)

pub one_more : (m i : ℕ) (name letters result : List ℕ) → letters ≡ take i name → i < length name → length name ≤ m →
    result ≡ take m (letters ++ get_or name i 0 ∷ []) → result ≡ take (i + 1) name
one_more m i name letters result so_far inside fits is =
    let here : letters ++ get_or name i 0 ∷ [] ≡ take (i + 1) name = rw (so_far) (sym (take-suc-at i name inside)) in
    is ∙ (ap (take m) here ∙ take_all m (take (i + 1) name) (omega (arith, length-take-le (i + 1) name (omega arith))))
  where
    take-suc-at : (i : ℕ) (name : List ℕ) → i < length name → take (i + 1) name ≡ take i name ++ get_or name i 0 ∷ []
    take-suc-at i name inside = grind (arith, common_steps)
