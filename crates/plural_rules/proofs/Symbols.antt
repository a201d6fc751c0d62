-- What a symbol says of the character that has it, and white space and digits as symbols.
use Rattle.std.proofs.Common.{◌≡◌, ℕ, ◌-◌, Bool, true, false, [], ◌∷◌, refl, sym, ap, arith}
use Rattle.std.specs.Prelude.{IsTrue, if◌then◌else◌, ◌==◌}
use Rattle.std.specs.Char.{is_ascii_digit}
use Rattle.std.proofs.lemmas.Bool.{eqb-true}
use Rattle.std.proofs.lemmas.Grind.{common_steps}
use Rattle.plural_rules.specs.declared.condition.Operand.TheVariants as operand
use Rattle.plural_rules.specs.declared.steps.Symbol.{Symbol}
use Rattle.plural_rules.specs.declared.steps.Symbol.TheVariants.{White, Digit, Percent, Equals, Exclamation, Dot, Comma}
use Rattle.plural_rules.specs.declared.steps.Symbol.TheVariants.{At, Letter, A, D, O, R, Foreign}
use Rattle.plural_rules.specs.Condition.{is_white, letter_of}
use Rattle.plural_rules.specs.NextStep.{symbol_of, letter_symbol_of}

-- the symbol may be that of the character
abbrev pub Marks : Symbol → ℕ → Type 0
Marks White c = IsTrue (is_white c)
Marks (Digit d) c = IsTrue (is_ascii_digit c) × (d ≡ c - 48)
Marks Percent c = c ≡ 37
Marks Equals c = c ≡ 61
Marks Exclamation c = c ≡ 33
Marks Dot c = c ≡ 46
Marks Comma c = c ≡ 44
Marks At c = c ≡ 64
Marks (Letter of) c = letter_of of ≡ c ∷ []
Marks A c = c ≡ 97
Marks D c = c ≡ 100
Marks O c = c ≡ 111
Marks R c = c ≡ 114
Marks Foreign c = Unit {0}

-- a choice between symbols
tested : (b : Bool) (s t : Symbol) (c : ℕ) → (b ≡ true → Marks s c) → Marks t c → Marks (if b then s else t) c
tested true s t c is_s is_t = is_s refl
tested false s t c is_s is_t = is_t

-- the character of a letter
named : (c n : ℕ) → (c == n) ≡ true → n ∷ [] ≡ c ∷ []
named c n h = ap (λ x. x ∷ []) (sym (eqb-true c n h))

-- the symbol of a letter is that of the character
letter_marks : (c : ℕ) → Marks (letter_symbol_of c) c
letter_marks c =
    tested (c == 110) (Letter operand.N) _ c (named c 110)
    (tested (c == 105) (Letter operand.I) _ c (named c 105)
    (tested (c == 118) (Letter operand.V) _ c (named c 118)
    (tested (c == 119) (Letter operand.W) _ c (named c 119)
    (tested (c == 102) (Letter operand.F) _ c (named c 102)
    (tested (c == 116) (Letter operand.T) _ c (named c 116)
    (tested (c == 99) (Letter operand.C) _ c (named c 99)
    (tested (c == 101) (Letter operand.E) _ c (named c 101)
    (tested (c == 97) A _ c (eqb-true c 97)
    (tested (c == 100) D _ c (eqb-true c 100)
    (tested (c == 111) O _ c (eqb-true c 111)
    (tested (c == 114) R Foreign c (eqb-true c 114) tt)))))))))))

-- the symbol of a character is that of the character
pub symbol_marks : (c : ℕ) → Marks (symbol_of c) c
symbol_marks c =
    tested (is_white c) White _ c (λ h. h)
    (tested (is_ascii_digit c) (Digit (c - 48)) _ c (λ h. (h, refl))
    (tested (c == 37) Percent _ c (eqb-true c 37)
    (tested (c == 61) Equals _ c (eqb-true c 61)
    (tested (c == 33) Exclamation _ c (eqb-true c 33)
    (tested (c == 46) Dot _ c (eqb-true c 46)
    (tested (c == 44) Comma _ c (eqb-true c 44)
    (tested (c == 64) At _ c (eqb-true c 64) (letter_marks c))))))))

-- white space is white
pub symbol_of-white : (c : ℕ) → IsTrue (is_white c) → symbol_of c ≡ White
symbol_of-white c h = rw h

-- a digit isn't white, and is a digit
digit_not_white : (c : ℕ) → IsTrue (is_ascii_digit c) → is_white c ≡ false
digit_not_white c h = grind (arith, common_steps)

-- the symbol of a digit
pub symbol_of-digit : (c : ℕ) → IsTrue (is_ascii_digit c) → symbol_of c ≡ Digit (c - 48)
symbol_of-digit c h = let no : is_white c ≡ false = digit_not_white c h in rw (no, h)
