-- A number of a reference is that of a character.
use Rattle.std.proofs.Common.{◌≡◌, ◌&&◌, ℕ, Bool, true, false, if◌then◌else◌, List, [], ◌∷◌, sym, ap, ◌∙◌, arith}
use Rattle.std.proofs.Common.{Option, Some, None}
use Rattle.std.specs.Char.{IsScalar}
use Rattle.std.specs.Option.{SomeIff}
use Rattle.std.proofs.lemmas.Bool.Decides.{nat_tests}
use Rattle.bidi_order.specs.DecodedReferences.{numeric_character, reference_number}
use Rattle.html_state.specs.References.{is_number, is_numeric, is_some_allowed, is_x, value_from}

both : (a b : Bool) → (a && b) ≡ true → b ≡ true
both true b h = h
both false b h = absurd (cc)

allowed-scalar : (n : ℕ) → is_some_allowed n n ≡ true → IsScalar n
allowed-scalar n h = grind (arith, nat_tests, h)

number-allowed : (base most : ℕ) (digits : List ℕ) → is_number base most digits ≡ true
    → is_some_allowed (value_from base 0 digits) (value_from base 0 digits) ≡ true
number-allowed base most [] h = absurd (cc)
number-allowed base most (c ∷ rest) h = both _ _ h

numeric-allowed : (digits : List ℕ) → is_numeric digits ≡ true
    → is_some_allowed (reference_number digits) (reference_number digits) ≡ true
numeric-allowed [] h = absurd (cc)
numeric-allowed (c ∷ rest) h = go (is_x c) h
  where
    go : (b : Bool) → (if b then is_number 16 6 rest else is_number 10 7 (c ∷ rest)) ≡ true
        → is_some_allowed (if b then value_from 16 0 rest else value_from 10 0 (c ∷ rest))
        (if b then value_from 16 0 rest else value_from 10 0 (c ∷ rest)) ≡ true
    go true h = number-allowed 16 6 rest h
    go false h = number-allowed 10 7 (c ∷ rest) h

pub numeric_some : (digits : List ℕ) (r : Option ℕ) → is_numeric digits ≡ true
    → SomeIff r (IsScalar (reference_number digits)) (reference_number digits) → r ≡ numeric_character digits
numeric_some digits r is found = by_result r found
    ∙ sym (ap (λ b. if b then Some (reference_number digits) else None) is)
  where
    by_result : (r : Option ℕ) → SomeIff r (IsScalar (reference_number digits)) (reference_number digits)
        → r ≡ Some (reference_number digits)
    by_result None found = absurd (found (allowed-scalar (reference_number digits) (numeric-allowed digits is)))
    by_result (Some m) found = ap Some found.1
