-- What is read where a key of a plural is expected: a key and the brace of its arm, or the brace that ends the plural,
-- each with what follows; or else the text from where no plural goes on. Before the first key an offset may stand.
-- Example: of ` =1 {a}` the key for 1 is read, and `a}` follows.
use Rattle.std.specs.Prelude.{ℕ, ◌-◌, nat_le, Bool, true, false, List, [], ◌∷◌, ◌==◌, if◌then◌else◌, codes}
use Rattle.std.specs.Prelude.{Result, Ok, Err}
use Rattle.std.specs.Char.{is_ascii_digit}
use Rattle.std.specs.Str.{chars}
use Rattle.plural_rules.specs.declared.category.Category.{Category}
use Rattle.plural_rules.specs.declared.category.Category.TheVariants as category
use Rattle.soy_base.specs.Characters.{left_brace, right_brace, equals_sign, minus_sign}
use Rattle.soy_base.specs.Cuts.{after_while}
use Rattle.soy_base.specs.Limits.{largest}
use Rattle.soy_base.specs.WhiteSpace.{is_template_space}
use Rattle.icu_text.specs.declared.state.ArmKey.{ArmKey}
use Rattle.icu_text.specs.declared.state.ArmKey.TheVariants as arm_key
use Rattle.icu_text.specs.declared.number.Digits.{Digits}
use Rattle.icu_text.specs.declared.number.Digits.TheVariants as digits
use Rattle.icu_text.specs.declared.key.Key.{Key}
use Rattle.icu_text.specs.declared.key.Key.TheVariants as key
use Rattle.icu_text.specs.declared.key.FirstKey.{FirstKey}
use Rattle.icu_text.specs.declared.key.FirstKey.TheVariants as first_key
use Rattle.icu_text.specs.Heads.{letters_read}
use Rattle.icu_text.specs.PatternSteps.{more_digits, signed}

-- a number and what follows its digits, or the text from where no digit stands or one is too many
abbrev pub digits_read : ℕ → List ℕ → Result (ℕ × List ℕ) (List ℕ)
digits_read n [] = Ok (n, [])
digits_read n (c ∷ cs) =
    if is_ascii_digit c
    then (if nat_le (more_digits n c) largest then digits_read (more_digits n c) cs else Err (c ∷ cs))
    else Ok (n, c ∷ cs)

abbrev pub number_read : List ℕ → Result (ℕ × List ℕ) (List ℕ)
number_read [] = Err []
number_read (c ∷ cs) = if is_ascii_digit c then digits_read (c - 48) cs else Err (c ∷ cs)

abbrev pub view_digits : Digits → Result (ℕ × List ℕ) (List ℕ)
view_digits (digits.Number n rest) = Ok (n, chars rest.now)
view_digits (digits.Stuck rest) = Err (chars rest.now)

pub data ReadKey : Type 0 where
  ArmRead : ArmKey → List ℕ → ReadKey
  -- the text from the brace that ends the plural, and what follows it
  PluralEnd : List ℕ → List ℕ → ReadKey
  StuckKey : List ℕ → ReadKey

abbrev pub view_key : Key → ReadKey
view_key (key.Arm k rest) = ArmRead k (chars rest.now)
view_key (key.End text rest) = PluralEnd (chars text.now) (chars rest.now)
view_key (key.Stuck rest) = StuckKey (chars rest.now)

abbrev pub arm_read : ArmKey → List ℕ → ReadKey
arm_read k [] = StuckKey []
arm_read k (c ∷ cs) = if c == left_brace then ArmRead k cs else StuckKey (c ∷ cs)

abbrev pub key_end_read : ArmKey → List ℕ → ReadKey
key_end_read k cs = arm_read k (after_while is_template_space cs)

abbrev pub keyword_read : Category → Result (List ℕ) (List ℕ) → ReadKey
keyword_read c (Ok cs) = key_end_read (arm_key.Named c) cs
keyword_read c (Err cs) = StuckKey cs

abbrev pub exact_key_read : Bool → Result (ℕ × List ℕ) (List ℕ) → ReadKey
exact_key_read negative (Ok p) = key_end_read (arm_key.Exact (signed negative p.0)) p.1
exact_key_read negative (Err cs) = StuckKey cs

abbrev pub exact_read : List ℕ → ReadKey
exact_read [] = StuckKey []
exact_read (c ∷ cs) =
    if c == minus_sign then exact_key_read true (number_read cs) else exact_key_read false (number_read (c ∷ cs))

abbrev pub key_after_o_read : List ℕ → ReadKey
key_after_o_read [] = StuckKey []
key_after_o_read (c ∷ cs) =
    if c == 110 then keyword_read category.One (letters_read (codes "e") cs)
    else (if c == 116 then keyword_read category.Other (letters_read (codes "her") cs)
    else StuckKey (c ∷ cs))

-- a keyword by its first letter, with the text from that on and what follows it
abbrev pub keyword_at : List ℕ → ℕ → List ℕ → ReadKey
keyword_at text c cs =
    if c == 122 then keyword_read category.Zero (letters_read (codes "ero") cs)
    else (if c == 116 then keyword_read category.Two (letters_read (codes "wo") cs)
    else (if c == 102 then keyword_read category.Few (letters_read (codes "ew") cs)
    else (if c == 109 then keyword_read category.Many (letters_read (codes "any") cs)
    else StuckKey text)))

abbrev pub key_at : List ℕ → ReadKey
key_at [] = StuckKey []
key_at (c ∷ cs) =
    if c == equals_sign then exact_read (after_while is_template_space cs)
    else (if c == right_brace then PluralEnd (c ∷ cs) cs
    else (if c == 111 then key_after_o_read cs
    else keyword_at (c ∷ cs) c cs))

abbrev pub key_read : List ℕ → ReadKey
key_read cs = key_at (after_while is_template_space cs)

-- an offset up to its number, or a key

pub data ReadFirstKey : Type 0 where
  OffsetRead : List ℕ → ReadFirstKey
  KeyRead : ReadKey → ReadFirstKey

abbrev pub view_first_key : FirstKey → ReadFirstKey
view_first_key (first_key.Offset rest) = OffsetRead (chars rest.now)
view_first_key (first_key.Key k) = KeyRead (view_key k)

abbrev pub after_f_read : Result (List ℕ) (List ℕ) → ReadFirstKey
after_f_read (Ok cs) = OffsetRead cs
after_f_read (Err cs) = KeyRead (StuckKey cs)

abbrev pub first_after_o_read : List ℕ → ReadFirstKey
first_after_o_read [] = KeyRead (StuckKey [])
first_after_o_read (c ∷ cs) =
    if c == 102 then after_f_read (letters_read (codes "fset:") cs) else KeyRead (key_after_o_read (c ∷ cs))

abbrev pub first_key_at : List ℕ → ReadFirstKey
first_key_at [] = KeyRead (StuckKey [])
first_key_at (c ∷ cs) = if c == 111 then first_after_o_read cs else KeyRead (key_at (c ∷ cs))

abbrev pub first_key_read : List ℕ → ReadFirstKey
first_key_read cs = first_key_at (after_while is_template_space cs)
