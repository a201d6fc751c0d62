-- The brackets in a run of code points.
use Rattle.std.proofs.Common.{◌≡◌, ℕ, ◌-◌, ◌≤◌, ◌==◌, Bool, true, false, ◌&&◌, ◌||◌, nat_lt, List, [], ◌∷◌}
use Rattle.std.proofs.Common.{if◌then◌else◌, Option, Some, None, refl, arith}
use Rattle.std.proofs.lemmas.Bool.{cond_both, ltb-true, ltb-false}
use Rattle.std.proofs.lemmas.Bool.Decides.{nat_tests}
use Rattle.bidi_class.specs.declared.brackets.Bracket.{Bracket}
use Rattle.bidi_class.specs.declared.brackets.Bracket.TheVariants.{Opens, Closes}
use Rattle.bidi_class.specs.Brackets.{first_bracket, pair_character}

-- the code point is not in the run
abbrev pub is_outside : ℕ → ℕ → ℕ → Bool
is_outside low high c = nat_lt c low || nat_lt high c

-- the bracket that a character of a run is by the pairs, where a pair with no character in it is left out
abbrev pub bracket_in_run : ℕ → ℕ → List (ℕ × ℕ) → ℕ → Option Bracket
bracket_in_run low high [] c = None
bracket_in_run low high (pair ∷ pairs) c =
    if is_outside low high pair.0 && is_outside low high pair.1 then bracket_in_run low high pairs c
    else if c == pair.0 then Some (Opens (pair_character pair))
    else if c == pair.1 then Some (Closes (pair_character pair))
    else bracket_in_run low high pairs c

-- a character of the run is not one outside it
is_other : (low high c other : ℕ) → low ≤ c → c ≤ high → is_outside low high other ≡ true → (c == other) ≡ false
is_other low high c other above below h = grind (arith, nat_tests)

-- a choice in which two tests fail where another holds
passed : {V : Type 0} (outside first second : Bool) (x y z w : V) → (outside ≡ true → first ≡ false)
    → (outside ≡ true → second ≡ false) → z ≡ w
    → (if first then x else (if second then y else z))
    ≡ (if outside then w else (if first then x else (if second then y else w)))
passed true first second x y z w not_first not_second e = grind arith
passed false first second x y z w not_first not_second e = grind arith

-- a run's characters are those brackets that they are by all pairs
pub first_bracket-in_run : (low high : ℕ) (pairs : List (ℕ × ℕ)) (c : ℕ) → low ≤ c → c ≤ high
    → first_bracket pairs c ≡ bracket_in_run low high pairs c
first_bracket-in_run low high [] c above below = refl
first_bracket-in_run low high (pair ∷ pairs) c above below =
    passed (is_outside low high pair.0 && is_outside low high pair.1) (c == pair.0) (c == pair.1)
    (Some (Opens (pair_character pair))) (Some (Closes (pair_character pair))) (first_bracket pairs c)
    (bracket_in_run low high pairs c)
    (λ outside. is_other low high c pair.0 above below (grind (arith, nat_tests)))
    (λ outside. is_other low high c pair.1 above below (grind (arith, nat_tests)))
    (first_bracket-in_run low high pairs c above below)

-- the bracket of a character, by the first of the runs that ends past it; each run begins where the one before it ends
abbrev pub bracket_by_runs : List (ℕ × ℕ) → ℕ → List ℕ → ℕ → Option Bracket
bracket_by_runs pairs low [] c = first_bracket pairs c
bracket_by_runs pairs low (end ∷ ends) c = if nat_lt c end then bracket_in_run low (end - 1) pairs c
    else bracket_by_runs pairs end ends c

pub first_bracket-by_runs : (pairs : List (ℕ × ℕ)) (low : ℕ) (ends : List ℕ) (c : ℕ) → low ≤ c
    → first_bracket pairs c ≡ bracket_by_runs pairs low ends c
first_bracket-by_runs pairs low [] c above = refl
first_bracket-by_runs pairs low (end ∷ ends) c above =
    cond_both (nat_lt c end) (bracket_in_run low (end - 1) pairs c) (bracket_by_runs pairs end ends c)
    (λ b. first_bracket pairs c ≡ b)
    (λ before. first_bracket-in_run low (end - 1) pairs c above (omega (arith, ltb-true c end before)))
    (λ after. first_bracket-by_runs pairs end ends c (ltb-false c end after))
