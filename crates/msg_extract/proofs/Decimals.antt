-- The characters of decimal numbers.
use Rattle.std.proofs.Common.{◌≡◌, ℕ, zero, suc, ◌/◌, ◌%◌, ◌==◌, Bool, true, false, List, [], ◌∷◌, refl, IsTrue}
use Rattle.std.specs.Fmt.{decimal, digits, digits_onto, digit_glyph}
use Rattle.std.specs.List.{list_all}
use Rattle.msg_extract.proofs.JoinedTests.{holds_or, and_both}

-- where each digit passes a test, so do all characters of a number
module _ (test : ℕ → Bool) (passes : (n : ℕ) → test (digit_glyph false (n % 10)) ≡ true) where
  onto_pass : (k n : ℕ) (more : List ℕ) → IsTrue (list_all test more)
      → IsTrue (list_all test (digits_onto k 10 false n more))
  onto_pass zero n more h = h
  onto_pass (suc k) n more h =
      let all : IsTrue (list_all test (digit_glyph false (n % 10) ∷ more)) =
      and_both (test (digit_glyph false (n % 10))) (list_all test more) (passes n) h in
      holds_or _ (n / 10 == 0) (λ e. rw e all)
      (λ e. rw e (onto_pass k (n / 10) (digit_glyph false (n % 10) ∷ more) all))

  pub decimal_passes : (n : ℕ) → IsTrue (list_all test (decimal n))
  unfolding digits
  decimal_passes n = onto_pass 64 n [] refl
