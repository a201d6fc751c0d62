-- The text of a value is one that its class has.
use Rattle.std.proofs.Common.{◌≡◌, ℕ, zero, suc, ◌/◌, ◌%◌, Bool, true, false, eqb, List, [], ◌∷◌, refl}
use Rattle.std.proofs.Common.{arith}
use Rattle.std.proofs.lemmas.Bool.{and_from, and_parts}
use Rattle.std.proofs.lemmas.Bool.Decides.{nat_tests}
use Rattle.std.specs.Char.{is_ascii_digit}
use Rattle.std.specs.Fmt.{decimal, digit_glyph, digits, digits_onto}
use Rattle.std.specs.Prelude.{pos, negsuc, if◌then◌else◌}
use Rattle.soy_base.specs.Characters.{minus_sign}
use Rattle.soy_tree.specs.Values.{Value, NullValue, BoolValue, IntValue, StringValue, ListValue, MapValue, RecordValue}
use Rattle.soy_rules.specs.Val.{value_text}
use Rattle.soy_pieces.specs.EscapedAt.{are_some_digits, is_int_text, is_text_of}
use Rattle.soy_pieces.specs.Giving.{value_class}

glyph_digit : (n : ℕ) → is_ascii_digit (digit_glyph false (n % 10)) ≡ true
glyph_digit n = grind (arith, nat_tests)

-- digits put before some digits
onto_if : (last : Bool) (k n c : ℕ) (acc : List ℕ) → are_some_digits (c ∷ acc) ≡ true →
    ((d : ℕ) (acc : List ℕ) (n : ℕ) → are_some_digits (d ∷ acc) ≡ true
    → are_some_digits (digits_onto k 10 false n (d ∷ acc)) ≡ true) →
    are_some_digits (if last then digit_glyph false (n % 10) ∷ (c ∷ acc)
    else digits_onto k 10 false (n / 10) (digit_glyph false (n % 10) ∷ (c ∷ acc))) ≡ true
onto_if true k n c acc all rest = and_from _ _ (glyph_digit n) all
onto_if false k n c acc all rest = rest (digit_glyph false (n % 10)) (c ∷ acc) (n / 10)
    (and_from _ _ (glyph_digit n) all)

onto_digits : (k c : ℕ) (acc : List ℕ) (n : ℕ) → are_some_digits (c ∷ acc) ≡ true
    → are_some_digits (digits_onto k 10 false n (c ∷ acc)) ≡ true
onto_digits zero c acc n all = all
onto_digits (suc k) c acc n all = onto_if (eqb (n / 10) 0) k n c acc all (λ d rest m is. onto_digits k d rest m is)

first_if : (last : Bool) (k n : ℕ) →
    are_some_digits (if last then digit_glyph false (n % 10) ∷ []
    else digits_onto k 10 false (n / 10) (digit_glyph false (n % 10) ∷ [])) ≡ true
first_if true k n = and_from _ _ (glyph_digit n) refl
first_if false k n = onto_digits k (digit_glyph false (n % 10)) [] (n / 10) (and_from _ _ (glyph_digit n) refl)

decimal_digits : (n : ℕ) → are_some_digits (decimal n) ≡ true
unfolding digits
decimal_digits n = first_if (eqb (n / 10) 0) 63 n

digit_no_minus : (c : ℕ) → is_ascii_digit c ≡ true → eqb c minus_sign ≡ false
digit_no_minus c is = grind (arith, nat_tests)

digits_int : (text : List ℕ) → are_some_digits text ≡ true → is_int_text text ≡ true
digits_int [] all = all
digits_int (c ∷ text) all = let parts = and_parts _ _ all in let plain : eqb c minus_sign ≡ false =
    digit_no_minus c parts.0 in rw plain all

pub text_of_value : (v : Value) → is_text_of (value_class v) (value_text v) ≡ true
text_of_value NullValue = refl
text_of_value (BoolValue true) = refl
text_of_value (BoolValue false) = refl
text_of_value (IntValue (pos n)) = digits_int (decimal n) (decimal_digits n)
text_of_value (IntValue (negsuc n)) = decimal_digits (suc n)
text_of_value (StringValue text) = refl
text_of_value (ListValue items) = refl
text_of_value (MapValue entries) = refl
text_of_value (RecordValue entries) = refl
