-- What is summed up of a text that is pulled piece by piece.
use Rattle.std.proofs.Common.{◌≡◌, ℕ, List, [], ◌++◌, sym, subst, ap, ◌∙◌, append_assoc, append-nil}
use Rattle.soy_top.specs.IsSumOf.{IsSumOf}
use Rattle.soy_top.specs.declared.summary.Summing.{Summing}

-- the sum is that of what stands before the rest of the text
pub record SummedSoFar (text rest : List ℕ) (sum : Summing) : Type 0 where
  pub done : List ℕ
  pub split : text ≡ done ++ rest
  pub is_sum : IsSumOf done sum

-- at first all is left
pub summed_none : (text rest : List ℕ) (sum : Summing) → rest ≡ text → IsSumOf [] sum → SummedSoFar text rest sum
summed_none text rest sum all is = record { done = []; split = sym all; is_sum = is }

-- one more piece was summed up
pub summed_more : (text rest piece others : List ℕ) (old new : Summing) → SummedSoFar text rest old
    → rest ≡ piece ++ others → ((t : List ℕ) → IsSumOf t old → IsSumOf (t ++ piece) new) → SummedSoFar text others new
summed_more text rest piece others old new far same add = record {
  done = far.done ++ piece;
  split = far.split ∙ (ap (λ t. far.done ++ t) same ∙ sym (append_assoc far.done piece others));
  is_sum = add far.done far.is_sum;
}

-- where nothing is left, the sum is that of the text
pub summed_whole : (text rest : List ℕ) (sum : Summing) → SummedSoFar text rest sum → rest ≡ [] → IsSumOf text sum
summed_whole text rest sum far none =
    subst (λ t. IsSumOf t sum) (sym (far.split ∙ (ap (λ r. far.done ++ r) none ∙ append-nil far.done))) far.is_sum
