-- Decimal digits of the words.
use Rattle.std.proofs.Common.{◌≡◌, ℕ, ◌^◌, ◌<◌, Bool, true, false, ◌&&◌, List, [], ◌∷◌, Some, None, Result, Ok, Err}
use Rattle.std.proofs.Common.{length, refl, ap, ◌∙◌, sym, arith, cond, nat_lt}
use Rattle.soy_top.specs.Asked.{are_digits, number_of}
use Rattle.std.specs.Char.{is_ascii_digit}
use Rattle.std.specs.List.{list_all}
use Rattle.std.specs.Result.{result_ok, OkIff}
use Rattle.std.specs.Str.{all_ascii_digits}
use Rattle.std.specs.Str.Parse.{digits_value, ParsesUnsigned}
use Rattle.std.proofs.lemmas.Bool.{lt-ltb, ltb-true}
use Rattle.std.proofs.lemmas.Bool.Decides.{nat_tests}
use Rattle.std.proofs.lemmas.Str.Parse.{IsNumeralModel, numerals_by_value, tells_all_ascii_digits, parse_digits}

-- the two spellings of the test agree
pub list_all-is_ascii_digit : (word : List ℕ) → list_all is_ascii_digit word ≡ all_ascii_digits word
list_all-is_ascii_digit [] = refl
list_all-is_ascii_digit (c ∷ cs) = ap (λ b. is_ascii_digit c && b) (list_all-is_ascii_digit cs)

decimals : IsNumeralModel (λ ds. all_ascii_digits ds ≡ true) (digits_value 10)
decimals = numerals_by_value _ tells_all_ascii_digits

by_value : {E : Type 0} (v : ℕ) (r : Result ℕ E) (t : Bool) → nat_lt v (2 ^ 32) ≡ t → OkIff r (v < 2 ^ 32) v
    → result_ok r ≡ cond t (Some v) None
by_value v (Ok x) true e h = ap Some h.1
by_value v (Ok x) false e h = let low : nat_lt v (2 ^ 32) ≡ true = lt-ltb _ _ h.0 in cc
by_value v (Err x) true e h = absurd (h (ltb-true _ _ e))
by_value v (Err x) false e h = refl

without_length : {E : Type 0} (v : ℕ) (word : List ℕ) (r : Result ℕ E) → 0 < length word
    → OkIff r ((0 < length word) × (v < 2 ^ 32)) v → OkIff r (v < 2 ^ 32) v
without_length v word (Ok x) long h = (h.0.1, h.1)
without_length v word (Err x) long h = λ low. h (long, low)

-- what `parse` gives of digits, as an `Option`
parsed_digits : {E : Type 0} (word : List ℕ) (r : Result ℕ E) → ParsesUnsigned 32 10 word r
    → list_all is_ascii_digit word ≡ true → 0 < length word
    → result_ok r ≡ (cond (nat_lt (digits_value 10 word) (2 ^ 32)) (Some (digits_value 10 word)) None)
parsed_digits word r h digits long =
    let ascii : all_ascii_digits word ≡ true = sym (list_all-is_ascii_digit word) ∙ digits in
    by_value _ r _ refl (without_length (digits_value 10 word) word r long (parse_digits decimals 32 word r h ascii))

-- what `parse` gives where the digits are few enough
pub parsed_number : {E : Type 0} (word : List ℕ) (r : Result ℕ E) → ParsesUnsigned 32 10 word r → are_digits word ≡ true
    → result_ok r ≡ number_of word
parsed_number word r h few =
    let digits : list_all is_ascii_digit word ≡ true = grind (arith, nat_tests) in
    let long : 0 < length word = grind (arith, nat_tests) in
    rw few (parsed_digits word r h digits long)
