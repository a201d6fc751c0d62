-- Lines and numbers of scripts.
use Rattle.std.proofs.Common.{◌≡◌, ℕ, ◌^◌, ◌<◌, Bool, true, false, ◌&&◌, List, [], ◌∷◌, Option, Some, None, ◌==◌}
use Rattle.std.proofs.Common.{Result, Ok, Err, length, refl, ap, ◌∙◌, sym, arith, cond, nat_lt, subst}
use Rattle.std.specs.Char.{is_ascii_digit}
use Rattle.std.specs.List.{list_all, onto_first, slice_split}
use Rattle.std.specs.Option.{option_map_or}
use Rattle.std.specs.Result.{result_ok, OkIff}
use Rattle.std.specs.Str.{IsAscii, IsUtf8, all_ascii_digits, chars}
use Rattle.std.specs.Str.Parse.{digits_value, ParsesUnsigned}
use Rattle.std.proofs.lemmas.Bool.{lt-ltb, ltb-true}
use Rattle.std.proofs.lemmas.Bool.Decides.{nat_tests}
use Rattle.std.proofs.lemmas.Str.{encodes-IsAscii, encodes-chars}
use Rattle.std.proofs.lemmas.Str.Ascii.{IsAscii-cons, IsAscii-nil}
use Rattle.std.proofs.lemmas.Str.Parse.{IsNumeralModel, numerals_by_value, tells_all_ascii_digits, parse_digits}
use Rattle.soy_base.specs.Cuts.{is_nil}
use Rattle.soy_top.specs.Scripts.Script.{begins_numeral, is_numeral, lines_of_parts, more_lines, script_lines}
use Rattle.soy_top.specs.Scripts.Script.{script_number}

-- ---- lines

abbrev is_line_feed : ℕ → Bool
is_line_feed c = c == 10

-- parts of which the first has a character are all lines
onto_lines : (c : ℕ) (parts : List (List ℕ)) → more_lines (onto_first c parts) ≡ lines_of_parts (onto_first c parts)
onto_lines c [] = refl
onto_lines c (part ∷ parts) = refl

-- behind an LF there is another part
behind_break : (parts : List (List ℕ)) → (parts ≡ [] → ⊥) → more_lines ([] ∷ parts) ≡ [] ∷ more_lines parts
behind_break [] some = absurd (some refl)
behind_break (part ∷ parts) some = refl

some_onto : (c : ℕ) (parts : List (List ℕ)) → onto_first c parts ≡ [] → ⊥
some_onto c [] e = cc
some_onto c (part ∷ parts) e = cc

some_by : (b : Bool) (c : ℕ) (parts : List (List ℕ)) → cond b ([] ∷ parts) (onto_first c parts) ≡ [] → ⊥
some_by true c parts e = cc
some_by false c parts e = some_onto c parts e

some_parts : (text : List ℕ) → slice_split is_line_feed text ≡ [] → ⊥
some_parts [] e = cc
some_parts (c ∷ cs) e = some_by (is_line_feed c) c (slice_split is_line_feed cs) e

all_lines_by : (b : Bool) (c : ℕ) (parts : List (List ℕ)) → (parts ≡ [] → ⊥)
    → more_lines (cond b ([] ∷ parts) (onto_first c parts)) ≡ lines_of_parts (cond b ([] ∷ parts) (onto_first c parts))
all_lines_by true c parts some = behind_break parts some
all_lines_by false c parts some = onto_lines c parts

-- all parts of a text that has characters are lines
more_of_text : (text : List ℕ) → is_nil text ≡ false
    → more_lines (slice_split is_line_feed text) ≡ lines_of_parts (slice_split is_line_feed text)
more_of_text [] some = cc
more_of_text (c ∷ cs) some = all_lines_by (is_line_feed c) c (slice_split is_line_feed cs) (some_parts cs)

pub first_of_lines : (text line more : List ℕ)
    → slice_split is_line_feed text ≡ line ∷ slice_split is_line_feed more → is_nil more ≡ false
    → script_lines text ≡ line ∷ script_lines more
first_of_lines text line more parts some =
    ap lines_of_parts parts ∙ ap (λ (ls : List (List ℕ)). line ∷ ls) (more_of_text more some)

-- ---- what stands behind a prefix

pub chosen : {A B : Type 0} (f : A → B) (other : B) (o : Option A) (x : A) → o ≡ Some x → option_map_or f o other ≡ f x
chosen f other o x is = ap (λ p. option_map_or f p other) is

pub passed : {A B : Type 0} (f : A → B) (other : B) (o : Option A) → o ≡ None → option_map_or f o other ≡ other
passed f other o is = ap (λ p. option_map_or f p other) is

-- ---- numbers

digit_low : (c : ℕ) → is_ascii_digit c ≡ true → c < 128
digit_low c digit = grind (arith, nat_tests)

ascii_by : (c : ℕ) (cs : List ℕ) (b : Bool) → is_ascii_digit c ≡ b → (b && list_all is_ascii_digit cs) ≡ true
    → (list_all is_ascii_digit cs ≡ true → IsAscii cs) → IsAscii (c ∷ cs)
ascii_by c cs true digit all rest = IsAscii-cons c cs (digit_low c digit) (rest all)
ascii_by c cs false digit all rest = cc

ascii_digits : (cs : List ℕ) → list_all is_ascii_digit cs ≡ true → IsAscii cs
ascii_digits [] all = IsAscii-nil
ascii_digits (c ∷ cs) all = ascii_by c cs (is_ascii_digit c) refl all (ascii_digits cs)

-- a text of digits is its characters
same_bytes : (text : List ℕ) → IsUtf8 text → list_all is_ascii_digit (chars text) ≡ true → chars text ≡ text
same_bytes text utf8 all =
    sym (encodes-IsAscii (chars text) (ascii_digits (chars text) all))
    ∙ encodes-chars text utf8

all_by_bytes : (word : List ℕ) → list_all is_ascii_digit word ≡ all_ascii_digits word
all_by_bytes [] = refl
all_by_bytes (c ∷ cs) = ap (λ b. is_ascii_digit c && b) (all_by_bytes cs)

decimals : IsNumeralModel (λ ds. all_ascii_digits ds ≡ true) (digits_value 10)
decimals = numerals_by_value _ tells_all_ascii_digits

by_value : {E : Type 0} (v : ℕ) (r : Result ℕ E) (t : Bool) → nat_lt v (2 ^ 64) ≡ t → OkIff r (v < 2 ^ 64) v
    → result_ok r ≡ cond t (Some v) None
by_value v (Ok x) true e h = ap Some h.1
by_value v (Ok x) false e h = let low : nat_lt v (2 ^ 64) ≡ true = lt-ltb _ _ h.0 in cc
by_value v (Err x) true e h = absurd (h (ltb-true _ _ e))
by_value v (Err x) false e h = refl

without_length : {E : Type 0} (v : ℕ) (word : List ℕ) (r : Result ℕ E) → 0 < length word
    → OkIff r ((0 < length word) × (v < 2 ^ 64)) v → OkIff r (v < 2 ^ 64) v
without_length v word (Ok x) long h = (h.0.1, h.1)
without_length v word (Err x) long h = λ low. h (long, low)

begins_some : (cs : List ℕ) → begins_numeral cs ≡ true → 0 < length cs
begins_some [] begins = cc
begins_some (c ∷ cs) begins = omega arith

both_hold : (a b : Bool) → (a && b) ≡ true → (a ≡ true) × (b ≡ true)
both_hold true true both = (refl, refl)
both_hold true false both = cc
both_hold false b both = cc

parsed_digits : {E : Type 0} (word : List ℕ) (r : Result ℕ E) → ParsesUnsigned 64 10 word r
    → list_all is_ascii_digit word ≡ true → 0 < length word
    → result_ok r ≡ (cond (nat_lt (digits_value 10 word) (2 ^ 64)) (Some (digits_value 10 word)) None)
parsed_digits word r h digits long =
    by_value (digits_value 10 word) r (nat_lt (digits_value 10 word) (2 ^ 64)) refl
    (without_length (digits_value 10 word) word r long
    (parse_digits decimals 64 word r h (sym (all_by_bytes word) ∙ digits)))

numeral_is : (cs : List ℕ) → is_numeral cs ≡ true
    → script_number cs ≡ (cond (nat_lt (digits_value 10 cs) (2 ^ 64)) (Some (digits_value 10 cs)) None)
numeral_is cs is =
    ap (λ b. cond b (cond (nat_lt (digits_value 10 cs) (2 ^ 64)) (Some (digits_value 10 cs)) None) None) is

-- what `parse` gives of a numeral
pub parsed_numeral : {E : Type 0} (text : List ℕ) (r : Result ℕ E) → IsUtf8 text → ParsesUnsigned 64 10 text r
    → is_numeral (chars text) ≡ true → result_ok r ≡ script_number (chars text)
parsed_numeral {E} text r utf8 h is =
    let parts = both_hold (list_all is_ascii_digit (chars text)) (begins_numeral (chars text)) is in
    let same = same_bytes text utf8 parts.0 in
    let by_chars : ParsesUnsigned 64 10 (chars text) r =
    subst (λ (w : List ℕ). ParsesUnsigned 64 10 w r) (sym same) h in
    parsed_digits (chars text) r by_chars parts.0 (begins_some (chars text) parts.1)
    ∙ sym (numeral_is (chars text) is)
