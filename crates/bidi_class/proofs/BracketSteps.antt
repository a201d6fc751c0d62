-- The brackets of the blocks, by steps.
use Rattle.std.proofs.Common.{◌≡◌, ℕ, ◌+◌, ◌*◌, ◌%◌, ◌<◌, ◌≤◌, ◌==◌, nat_lt, List, [], ◌∷◌, if◌then◌else◌, Option, Some}
use Rattle.std.proofs.Common.{zero, suc, arith, inl, inr, ◌∙◌}
use Rattle.std.proofs.lemmas.Bool.{cases_lt}
use Rattle.std.proofs.lemmas.Bool.Decides.{nat_tests}
use Rattle.bidi_class.specs.declared.brackets.Bracket.{Bracket}
use Rattle.bidi_class.specs.declared.brackets.Bracket.TheVariants.{Opens, Closes}
use Rattle.bidi_class.specs.Brackets.{bracket, bracket_pairs, first_bracket, pair_character}
use Rattle.bidi_class.proofs.BracketRuns.{first_bracket-by_runs}

-- so many pairs in a row, from an opening character on
unfoldable pub alternating_pairs : ℕ → ℕ → List (ℕ × ℕ)
alternating_pairs low zero = []
alternating_pairs low (suc n) = (low, low + 1) ∷ alternating_pairs (low + 2) n

-- what a pair of neighbors says of a character, before the rest of the pairs
abbrev pub by_pair : ℕ → ℕ → Option Bracket → Option Bracket
by_pair low c rest =
    if c == low then Some (Opens (pair_character (low, low + 1)))
    else if c == low + 1 then Some (Closes (pair_character (low, low + 1)))
    else rest

-- a choice by a pair past U+232A, at its opening character
opened : (low c : ℕ) (rest : Option Bracket) → 0x232A < low → c ≡ low → by_pair low c rest ≡ Some (Opens (c + 1))
opened low c rest past here = grind (arith, nat_tests)

-- the same at its closing character
closed : (low c : ℕ) (rest : Option Bracket) → 0x232A < low → c ≡ low + 1 → by_pair low c rest ≡ Some (Closes c)
closed low c rest past here = grind (arith, nat_tests)

-- the same past the pair
skipped : (low c : ℕ) (rest : Option Bracket) → low + 2 ≤ c → by_pair low c rest ≡ rest
skipped low c rest later = grind (arith, nat_tests)

-- in a row of pairs past U+232A an even number opens, by the next one
pub alternating-even : (n low c : ℕ) → 0x232A < low → low % 2 ≡ 0 → low ≤ c → c < low + 2 * n → c % 2 ≡ 0
    → first_bracket (alternating_pairs low n) c ≡ Some (Opens (c + 1))
unfolding alternating_pairs
alternating-even zero low c past even above below h = absurd (omega arith)
alternating-even (suc n) low c past even above below h =
    elim (cases_lt c (low + 2)) [
      | inl here ↦ opened low c (first_bracket (alternating_pairs (low + 2) n) c) past (omega arith)
      | inr later ↦
          skipped low c (first_bracket (alternating_pairs (low + 2) n) c) (omega arith)
          ∙ alternating-even n (low + 2) c (omega arith) (omega arith) later (omega arith) h
    ]

-- in a row of pairs past U+232A an odd number closes
pub alternating-odd : (n low c : ℕ) → 0x232A < low → low % 2 ≡ 0 → low ≤ c → c < low + 2 * n → c % 2 ≡ 1
    → first_bracket (alternating_pairs low n) c ≡ Some (Closes c)
unfolding alternating_pairs
alternating-odd zero low c past even above below h = absurd (omega arith)
alternating-odd (suc n) low c past even above below h =
    elim (cases_lt c (low + 2)) [
      | inl here ↦ closed low c (first_bracket (alternating_pairs (low + 2) n) c) past (omega arith)
      | inr later ↦
          skipped low c (first_bracket (alternating_pairs (low + 2) n) c) (omega arith)
          ∙ alternating-odd n (low + 2) c (omega arith) (omega arith) later (omega arith) h
    ]

-- the bracket by the first step that ends past the character, each step with the pairs that are in it
abbrev pub bracket_by_steps : List (ℕ × List (ℕ × ℕ)) → ℕ → Option Bracket
bracket_by_steps [] c = bracket c
bracket_by_steps (step ∷ steps) c = if nat_lt c step.0 then first_bracket step.1 c else bracket_by_steps steps c

-- where the runs of the steps end
abbrev pub ends : List (ℕ × List (ℕ × ℕ)) → List ℕ
ends [] = []
ends (step ∷ steps) = step.0 ∷ ends steps

-- FF08 to FF5D
abbrev pub wide_steps : List (ℕ × List (ℕ × ℕ))
wide_steps = (0xFF5E, (0xFF08, 0xFF09) ∷ (0xFF3B, 0xFF3D) ∷ (0xFF5B, 0xFF5D) ∷ []) ∷ []

pub wide : (c : ℕ) → 0xFF08 ≤ c → bracket c ≡ bracket_by_steps wide_steps c
unfolding bracket
wide c above = first_bracket-by_runs bracket_pairs 0xFF08 (ends wide_steps) c above

pub ruleset wide_brackets = (nat_tests, wide)

-- 2045 to 301B
abbrev pub symbol_steps : List (ℕ × List (ℕ × ℕ))
symbol_steps =
    (0x2329, (0x2045, 0x2046) ∷ (0x207D, 0x207E) ∷ (0x208D, 0x208E) ∷ []) ∷ (0x232B, (0x2329, 0x232A) ∷ [])
    ∷ (0x2768, []) ∷ (0x2776, alternating_pairs 0x2768 7) ∷ (0x27E6, []) ∷ (0x27F0, alternating_pairs 0x27E6 5)
    ∷ (0x3008, []) ∷ (0x3012, alternating_pairs 0x3008 5) ∷ (0x3014, []) ∷ (0x301C, alternating_pairs 0x3014 4) ∷ []

pub symbols : (c : ℕ) → 0x2045 ≤ c → bracket c ≡ bracket_by_steps symbol_steps c
unfolding bracket alternating_pairs
symbols c above = first_bracket-by_runs bracket_pairs 0x2045 (ends symbol_steps) c above

pub ruleset symbol_brackets = (nat_tests, symbols, alternating-even, alternating-odd)

-- ASCII, and what lies between the blocks and past them
pub below_symbols : (c : ℕ)
    → bracket c ≡ bracket_by_steps ((0x2045, (0x0028, 0x0029) ∷ (0x005B, 0x005D) ∷ (0x007B, 0x007D) ∷ []) ∷ []) c
unfolding bracket
below_symbols c = first_bracket-by_runs bracket_pairs 0 (0x2045 ∷ []) c (omega arith)

pub past_symbols : (c : ℕ) → 0x301C ≤ c → bracket c ≡ bracket_by_steps ((0xFF08, []) ∷ []) c
unfolding bracket
past_symbols c above = first_bracket-by_runs bracket_pairs 0x301C (0xFF08 ∷ []) c above

pub past_wide : (c : ℕ) → 0xFF5E ≤ c → bracket c ≡ bracket_by_steps ((0x110000, []) ∷ []) c
unfolding bracket
past_wide c above = first_bracket-by_runs bracket_pairs 0xFF5E (0x110000 ∷ []) c above

pub ruleset other_brackets = (nat_tests, below_symbols, past_symbols, past_wide)
