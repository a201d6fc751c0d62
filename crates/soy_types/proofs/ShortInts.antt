-- Texts of digits alone, as numbers.
use Rattle.std.proofs.Common.{◌≡◌, ℕ, ◌+◌, ◌-◌, ◌*◌, ◌^◌, ◌<◌, ◌≤◌, Bool, true, false, ◌&&◌, List, [], ◌∷◌, ◌++◌}
use Rattle.std.proofs.Common.{length, ℤ, pos, to_z, of_z, w64, Some, None, option_map, refl, sym, ap, ◌∙◌, subst}
use Rattle.std.proofs.Common.{arith, append-nil}
use Rattle.std.proofs.Common.{lt-ltb, leb-true, ne_eqb, nat_le, if◌then◌else◌}
use Rattle.std.proofs.lemmas.Str.{digit_value_digit}
use mir.ValLaws.{to_z_pos}
use Rattle.std.specs.Char.{digit_value, is_ascii_digit}
use Rattle.std.specs.Str.Parse.{AllDigits, digits_value, digits_value_after}
use Rattle.fast_float.specs.Text.{Parts, IsWellFormed, digits_of, scan}
use Rattle.fast_float.proofs.Writing.{scan-text_of}
use Rattle.serde_json.specs.Find.{as_i64}
use Rattle.serde_json.specs.Read.{is_integer, number_from}
use Rattle.soy_base.specs.Limits.{largest}
use Rattle.soy_types.specs.ShortInt.{int_after, short_int}

-- what is known of digits that write an int after those of n
record Written (n : ℕ) (ds : List ℕ) (z : ℤ) : Type 0 where
  digits : AllDigits 10 ds
  value : z ≡ pos (digits_value_after 10 n ds)
  within : n ≤ largest → digits_value_after 10 n ds ≤ largest

digit_is : (c : ℕ) → is_ascii_digit c ≡ true → (48 ≤ c) × (c ≤ 57)
digit_is c e = grind arith

one_more : (n c : ℕ) (cs : List ℕ) (z : ℤ) (digit less : Bool) → is_ascii_digit c ≡ digit
    → nat_le (10 * n + (c - 48)) largest ≡ less
    → (int_after (10 * n + (c - 48)) cs ≡ Some z → Written (10 * n + (c - 48)) cs z)
    → (if digit && less then int_after (10 * n + (c - 48)) cs else None) ≡ Some z → Written n (c ∷ cs) z
one_more n c cs z true true d l rest e =
    let k = digit_is c d in
    let v : digit_value c + 48 ≡ c = digit_value_digit c k in
    let same : 10 * n + (c - 48) ≡ n * 10 + digit_value c = omega (arith, v, k) in
    let r : Written (n * 10 + digit_value c) cs z = subst (λ m. Written m cs z) same (rest e) in
    let few : n * 10 + digit_value c ≤ largest = subst (λ m. m ≤ largest) same (leb-true _ _ l) in
    record { digits = (omega (arith, v, k), r.digits); value = r.value; within = λ _. r.within few }
one_more n c cs z true false d l rest e = let no : ⊥ = cc in absurd no
one_more n c cs z false less d l rest e = let no : ⊥ = cc in absurd no

written : (n : ℕ) (ds : List ℕ) (z : ℤ) → int_after n ds ≡ Some z → Written n ds z
written n [] z e = record { digits = tt; value = cc; within = λ h. h }
written n (c ∷ cs) z e =
    one_more n c cs z (is_ascii_digit c) (nat_le (10 * n + (c - 48)) largest) refl refl
    (written (10 * n + (c - 48)) cs z) e

-- the parts of digits alone
abbrev parts_of : List ℕ → Parts
parts_of ds = record {
  whole = ds;
  point = false;
  fraction = [];
  exponent_negative = false;
  exponent = [];
  len = length (ds ++ []);
}

scanned : (ds : List ℕ) → AllDigits 10 ds → scan ds ≡ parts_of ds
scanned ds all =
    let formed : IsWellFormed (parts_of ds) =
    record {
      whole_digits = all;
      fraction_digits = tt;
      exponent_digits = tt;
      no_point = λ _. refl;
      no_exponent = λ _. refl;
      len_is = refl;
    } in
    ap scan (sym (append-nil ds)) ∙ scan-text_of (parts_of ds) formed

integer : (ds : List ℕ) → AllDigits 10 ds → 0 < length ds → is_integer (scan ds) ≡ true
integer ds all some = rw (scanned ds all, lt-ltb 0 (length ds) some) refl

number_is : (ds : List ℕ) → AllDigits 10 ds → digits_of (scan ds) ≡ digits_value 10 ds
number_is ds all = rw (scanned ds all) (ap (digits_value 10) (append-nil ds))

from_positive : (p : Parts) (n : ℕ) → is_integer p ≡ true → digits_of p ≡ n → n ≤ largest
    → Some (Some (pos n)) ≡ option_map as_i64 (number_from false p)
from_positive p n whole is few =
    rw (whole, is, lt-ltb n (2 ^ 64) (omega arith)) (rw (lt-ltb n (2 ^ 63) (omega arith)) refl)

not_empty : (c : ℕ) (cs : List ℕ) → short_int (c ∷ cs) ≡ int_after 0 (c ∷ cs)
not_empty c cs = rw (ne_eqb (length (c ∷ cs)) 0 (λ e. omega arith)) refl

-- what is answered of such a text, without a minus before it
pub short_positive : (ds : List ℕ) (z : ℤ) → Some z ≡ short_int ds
    → Some (Some (to_z w64 (of_z w64 z))) ≡ option_map as_i64 (number_from false (scan ds))
short_positive [] z e = let no : ⊥ = cc in absurd no
short_positive (c ∷ cs) z e =
    let w = written 0 (c ∷ cs) z (sym (e ∙ not_empty c cs)) in
    let n = digits_value 10 (c ∷ cs) in
    let few : n ≤ largest = w.within (omega arith) in
    let small : n < 9223372036854775808 = omega arith in
    ap (λ x. Some (Some (to_z w64 (of_z w64 x)))) w.value
    ∙ ap (λ x. Some (Some x)) (to_z_pos w64 n small)
    ∙ from_positive (scan (c ∷ cs)) n (integer (c ∷ cs) w.digits (omega arith)) (number_is (c ∷ cs) w.digits) few
