-- Ints, as they are written in a command: decimal digits.
use Rattle.std.proofs.Common.{◌≡◌, ◌≢◌, ℕ, zero, suc, ◌+◌, ◌-◌, ◌*◌, ◌^◌, ◌≤◌, ◌<◌, Bool, true, false, not, ◌||◌, List}
use Rattle.std.proofs.Common.{[], ◌∷◌, ◌++◌, if◌then◌else◌, nat_le, get_or, refl, sym, ap, subst, ◌∙◌, arith}
use Rattle.std.specs.Char.{is_ascii_digit}
use Rattle.std.specs.Fmt.{decimal}
use Rattle.std.specs.List.{list_all}
use Rattle.std.specs.Str.Parse.{AllDigits}
use Rattle.std.proofs.lemmas.Bool.Decides.{nat_tests}
use Rattle.std.proofs.lemmas.Fmt.{decimal_digit, decimal_is_IsNumeral, digits_value-decimal, first_decimal}
use Rattle.std.proofs.lemmas.Str.Parse.{digit_from_value, numerals_by_fold, tells_digits, FoldsDigits}
use Rattle.soy_base.specs.Names.{begins_name}
use Rattle.soy_base.specs.WhiteSpace.{is_template_space}
use Rattle.soy_lexer.specs.CommandSegment.{command_segment, number_after}
use Rattle.soy_base.specs.Limits.{largest}
use Rattle.soy_lexer.specs.Found.Found.{Begins, Fails}
use Rattle.soy_lexer.specs.Segment.Segment.{CommandToken}
use Rattle.soy_lexer.specs.declared.token.TokenKind.TheVariants as kind
use Rattle.soy_lexer.proofs.CommandSegments.{begins_int, digits_int, zero_int}
use Rattle.formatted_source.specs.CommandLexemes.{CommandLexemes, HasLexemes, ends_name}
use Rattle.formatted_source.specs.CommandLexemes.CommandLexemes.{here_, token_}
use Rattle.formatted_source.proofs.Written.Names.{both, prefix_while-stops, stops}

folds : FoldsDigits number_after
folds = record {
  empty = λ n. refl;
  more = λ n c cs i. let e : 10 * n + (c - 48) ≡ n * 10 + (c - 48) = omega arith in ap (λ m. number_after m cs) e;
}

-- the digits of a number write it
pub number-decimal : (n : ℕ) → n < 2 ^ 64 → number_after 0 (decimal n) ≡ n
number-decimal n small = digits_value-decimal (numerals_by_fold (AllDigits 10) tells_digits number_after folds) n small

all_digits : (ds : List ℕ) → AllDigits 10 ds → list_all is_ascii_digit ds ≡ true
all_digits [] d = refl
all_digits (c ∷ cs) d =
    let i = digit_from_value c d.0 in
    let here : is_ascii_digit c ≡ true = grind (arith, nat_tests, i) in
    rw here (all_digits cs d.1)

pub digits-decimal : (n : ℕ) → n < 2 ^ 64 → list_all is_ascii_digit (decimal n) ≡ true
digits-decimal n small = all_digits (decimal n) (decimal_is_IsNumeral n small).0.1

stops-digit : (rest : List ℕ) → ends_name rest ≡ true → stops is_ascii_digit rest ≡ true
stops-digit [] h = refl
stops-digit (c ∷ cs) h = over (begins_name c) (is_ascii_digit c) h
  where
    over : (a b : Bool) → not (a || b) ≡ true → not b ≡ true
    over true b h = cc
    over false b h = h

-- digits that begin with no zero
digits_found : (ds rest : List ℕ) → list_all is_ascii_digit ds ≡ true → 48 < get_or ds 0 0
    → number_after 0 ds ≤ largest → ends_name rest ≡ true
    → command_segment (ds ++ rest) ≡ Begins (CommandToken kind.Int ds ds) rest
digits_found [] rest all first within h = absurd (omega arith)
digits_found (c ∷ cs) rest all first within h =
    let digit : is_ascii_digit c ≡ true = (both (is_ascii_digit c) (list_all is_ascii_digit cs) all).0 in
    let black : is_template_space c ≡ false = grind (arith, nat_tests, digit) in
    let no_name : begins_name c ≡ false = grind (arith, nat_tests, digit) in
    let apart : c ≢ 48 = λ e. omega (arith, e, first) in
    let parts = prefix_while-stops is_ascii_digit (c ∷ cs) rest all (stops-digit rest h) in
    let fits : nat_le (number_after 0 (c ∷ cs)) largest ≡ true = grind (arith, nat_tests, within) in
    begins_int c (cs ++ rest) black no_name digit
    ∙ (digits_int c (cs ++ rest) (c ∷ cs) rest digit apart (sym parts.0) (sym parts.1)
    ∙ ap (λ t. if t then Begins (CommandToken kind.Int (c ∷ cs) (c ∷ cs)) rest else Fails 0) fits)

zero_found : (rest : List ℕ) → command_segment (48 ∷ rest) ≡ Begins (CommandToken kind.Int (48 ∷ []) (48 ∷ [])) rest
zero_found rest = begins_int 48 rest refl refl refl ∙ zero_int 48 rest refl

-- an int
pub int_written : (n : ℕ) → n ≤ largest → HasLexemes ends_name (decimal n) ((kind.Int, decimal n) ∷ [])
int_written zero within rest h =
    subst (λ ds. CommandLexemes (ds ++ rest) ((kind.Int, ds) ∷ []) rest) (sym (decimal_digit 0 (omega arith)))
    (token_ (48 ∷ rest) (48 ∷ []) (48 ∷ []) rest rest kind.Int [] (zero_found rest) refl (here_ rest))
int_written (suc n) within rest h =
    let small : suc n < 2 ^ 64 = omega arith in
    let fits : number_after 0 (decimal (suc n)) ≤ largest = omega (arith, number-decimal (suc n) small, within) in
    token_ (decimal (suc n) ++ rest) (decimal (suc n)) (decimal (suc n)) rest rest kind.Int []
    (digits_found (decimal (suc n)) rest (digits-decimal (suc n) small) (first_decimal (suc n) (omega arith) small)
    fits h)
    refl (here_ rest)
