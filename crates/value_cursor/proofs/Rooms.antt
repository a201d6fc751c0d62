-- What is given into rooms one after another, joined.
use Rattle.std.proofs.Common.{◌≡◌, ℕ, zero, suc, ◌+◌, ◌≤◌, List, [], ◌∷◌, ◌++◌, length, take, drop, refl, sym, ap, ◌∙◌}
use Rattle.std.proofs.Common.{arith}
use Rattle.std.specs.List.{sum}
use Rattle.std.proofs.lemmas.List.{take_all}
use Rattle.std.proofs.lemmas.List.Sums.{sum_by-cons}
use Rattle.value_cursor.specs.Joined.{joined_rooms}

-- what is taken first, and what is taken of the rest
take_two : (n m : ℕ) (xs : List ℕ) → take n xs ++ take m (drop n xs) ≡ take (n + m) xs
take_two zero m xs =
    let same : m ≡ 0 + m = omega arith in ap (λ k. take k xs) same
take_two (suc n) m [] = take_none m ∙ sym (take_none (suc n + m))
  where
    take_none : (m : ℕ) → take {A = ℕ} m [] ≡ []
    take_none zero = refl
    take_none (suc m) = refl
take_two (suc n) m (x ∷ xs) =
    let more : suc (n + m) ≡ suc n + m = omega arith in
    ap (λ l. x ∷ l) (take_two n m xs) ∙ ap (λ k. take k (x ∷ xs)) more

pub joined_prefix : (sizes left : List ℕ) → joined_rooms sizes left ≡ take (sum sizes) left
joined_prefix [] left = refl
joined_prefix (size ∷ sizes) left =
    ap (λ l. take size left ++ l) (joined_prefix sizes (drop size left)) ∙ take_two size (sum sizes) left
    ∙ ap (λ n. take n left) (sym (sum_by-cons (λ (n : ℕ). n) size sizes))

pub joined_whole : (sizes left : List ℕ) → length left ≤ sum sizes → joined_rooms sizes left ≡ left
joined_whole sizes left enough = joined_prefix sizes left ∙ take_all (sum sizes) left enough
