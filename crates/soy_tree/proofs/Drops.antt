-- An item of a list, and those behind it.
use Rattle.std.proofs.Common.{◌≡◌, ℕ, zero, suc, ◌+◌, ◌<◌, List, [], ◌∷◌, drop, length, slice_index_or, refl, arith}

pub drop_next : {A : Type 0} (xs : List A) (i : ℕ) (x : A) → i < length xs → x ≡ slice_index_or xs i x
    → drop i xs ≡ x ∷ drop (i + 1) xs
drop_next [] i x below is = absurd (omega arith)
drop_next (y ∷ xs) zero x below is = rw is refl
drop_next (y ∷ xs) (suc i) x below is =
    let e : suc i + 1 ≡ suc (i + 1) = omega arith in rw e (drop_next xs i x (omega arith) is)
