-- Numbers that decimal digits write.
use Rattle.std.proofs.Common.{◌≡◌, ℕ, ◌+◌, ◌-◌, ◌*◌, ◌≤◌, ◌<◌, ◌&&◌, Bool, true, false, List, [], ◌∷◌, arith, ap, refl}
use Rattle.std.specs.Prelude.{IfSome, Option, Some, None, nat_le, if◌then◌else◌}
use Rattle.std.proofs.lemmas.Bool.Decides.{nat_tests}
use Rattle.std.specs.Char.{is_ascii_digit}
use Rattle.std.specs.List.{list_all}
use Rattle.soy_lexer.specs.CommandSegment.{number_after}
use Rattle.soy_base.specs.Limits.{largest}
use Rattle.soy_parser.specs.Heads.{digits_value}

-- more digits write no smaller number
number_grows : (n : ℕ) (cs : List ℕ) → n ≤ number_after n cs
number_grows n [] = omega arith
number_grows n (c ∷ cs) = let more = number_grows (10 * n + (c - 48)) cs in omega arith

no_larger : (b : Bool) (n m : ℕ) → largest < n → n ≤ m
    → (if b && nat_le m largest then Some m else None) ≡ None
no_larger false n m large grows = refl
no_larger true n m large grows =
    let over : nat_le m largest ≡ false = grind (arith, nat_tests, large, grows) in rw over refl

-- the digits, by whether the first of them is one
abbrev by_first : ℕ → ℕ → List ℕ → Bool → Option ℕ
by_first n c cs b =
    if (b && list_all is_ascii_digit cs) && nat_le (number_after n (c ∷ cs)) largest
    then Some (number_after n (c ∷ cs)) else None

-- no number goes on with a character that is no digit
pub digits_stop : (n c : ℕ) (cs : List ℕ) → is_ascii_digit c ≡ false → digits_value n (c ∷ cs) ≡ None
digits_stop n c cs none = ap (by_first n c cs) none

pub digits_step : (n c : ℕ) (cs : List ℕ) → is_ascii_digit c ≡ true
    → digits_value n (c ∷ cs) ≡ digits_value (10 * n + (c - 48)) cs
digits_step n c cs digit = ap (by_first n c cs) digit

pub digits_end : (n : ℕ) → n ≤ largest → digits_value n [] ≡ Some n
digits_end n within =
    let fits : nat_le n largest ≡ true = grind (arith, nat_tests, within) in
    ap (λ b. if true && b then Some n else None) fits

-- digits after those of a number that is over the largest int write none
pub digits_too_large : (n : ℕ) (cs : List ℕ) → largest < n → digits_value n cs ≡ None
digits_too_large n cs large = no_larger (list_all is_ascii_digit cs) n (number_after n cs) large (number_grows n cs)

bounded : (b d : Bool) (n : ℕ) → nat_le n largest ≡ d
    → IfSome (if b && d then Some n else None) (λ n. n ≤ largest)
bounded true true n within = grind (arith, nat_tests, within)
bounded true false n within = tt
bounded false d n within = tt

-- the number that digits write is none over the largest int
pub digits_bounded : (n : ℕ) (cs : List ℕ) → IfSome (digits_value n cs) (λ n. n ≤ largest)
digits_bounded n cs = bounded (list_all is_ascii_digit cs) _ (number_after n cs) refl
