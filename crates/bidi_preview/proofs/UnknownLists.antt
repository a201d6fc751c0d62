-- One more of what isn't known.
use Rattle.std.proofs.Common.{◌≡◌, ℕ, zero, suc, ◌+◌, List, [], ◌∷◌, ◌++◌, refl, ap, ◌∙◌, arith, Option, None}
use Rattle.std.proofs.Math.ListN.{replicate}

absent-suc : {A : Type 0} (n : ℕ) → replicate {A = Option A} n None ++ None ∷ [] ≡ replicate (suc n) None
absent-suc zero = refl
absent-suc {A} (suc n) = ap (λ (l : List (Option A)). None ∷ l) (absent-suc n)

up : (n : ℕ) → suc n ≡ n + 1
up n = omega arith

pub absent_more : {A : Type 0} (n : ℕ) → replicate {A = Option A} n None ++ None ∷ [] ≡ replicate (n + 1) None
absent_more {A} n = absent-suc n ∙ ap (λ k. replicate {A = Option A} k None) (up n)
