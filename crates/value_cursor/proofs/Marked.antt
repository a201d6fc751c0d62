-- A search among marked offsets, which ascend, finds an offset exactly where it is one of them.
use Rattle.std.proofs.Common.{◌≡◌, ℕ, zero, suc, ◌+◌, ◌-◌, ◌<◌, ◌≤◌, ◌==◌, List, [], ◌∷◌, length, get_or, Result, Ok}
use Rattle.std.proofs.Common.{Err, false, refl, sym, subst, inl, inr, arith}
use Rattle.std.specs.Prelude.{is_ok}
use Rattle.std.specs.List.{list_any}
use Rattle.std.specs.List.Sorted.{IsBinarySearchResult, IsStrictlyIncreasing}
use Rattle.std.specs.Ordering.{nat_cmp}
use Rattle.std.proofs.lemmas.Bool.{cases_lt, eq-eqb, ne_eqb, or_from}
use Rattle.std.proofs.lemmas.List.Folds.{list_any_at}
use Rattle.std.proofs.lemmas.List.Sorted.{searched}

-- numbers that increase step by step do so over many steps
increases : (xs : List ℕ) → IsStrictlyIncreasing xs → (i more : ℕ) → i + more < length xs
    → get_or xs i 0 ≤ get_or xs (i + more) 0
increases xs rising i zero within =
    let same : i + 0 ≡ i = omega arith in subst (λ k. get_or xs i 0 ≤ get_or xs k 0) (sym same) (omega arith)
increases xs rising i (suc more) within =
    let before = increases xs rising i more (omega (arith, within)) in
    let step = rising (i + more) (omega (arith, within)) in
    let next : i + more + 1 ≡ i + suc more = omega arith in
    subst (λ k. get_or xs i 0 ≤ get_or xs k 0) next (omega (arith, before, step))

increase : (xs : List ℕ) → IsStrictlyIncreasing xs → (i j : ℕ) → i ≤ j → j < length xs → get_or xs i 0 ≤ get_or xs j 0
increase xs rising i j below within =
    let more : i + (j - i) ≡ j = omega (arith, below) in
    subst (λ k. get_or xs i 0 ≤ get_or xs k 0) more (increases xs rising i (j - i) (omega (arith, more, within)))

-- a number that stands at no index is none of the list's
none_of : (xs : List ℕ) (offset : ℕ) → ((k : ℕ) → k < length xs → get_or xs k 0 ≡ offset → ⊥)
    → list_any (λ place. place == offset) xs ≡ false
none_of [] offset other = refl
none_of (x ∷ xs) offset other =
    or_from _ _ (ne_eqb x offset (other 0 (omega arith)))
    (none_of xs offset (λ k within. other (suc k) (omega (arith, within))))

pub found_among : (xs : List ℕ) (offset : ℕ) (r : Result ℕ ℕ) → IsStrictlyIncreasing xs
    → IsBinarySearchResult (λ y. nat_cmp y offset) xs r → is_ok r ≡ list_any (λ place. place == offset) xs
found_among xs offset (Ok i) rising answer =
    let found = searched xs offset (Ok i) answer (increase xs rising) in
    sym (list_any_at (λ place. place == offset) xs i 0 found.0 (eq-eqb (get_or xs i 0) offset found.1))
found_among xs offset (Err i) rising answer =
    let none = searched xs offset (Err i) answer (increase xs rising) in
    sym (none_of xs offset (λ k within same. elim (cases_lt k i) [
      | inl before ↦ omega (arith, none.1 k before, same)
      | inr after ↦ omega (arith, none.2 k after within, same)
    ]))
