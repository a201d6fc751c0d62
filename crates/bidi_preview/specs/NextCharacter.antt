-- Where an isolating run sequence goes on after a character (UAX #9, BD13), by indexes of a line: at the next character
-- that is kept, where that has the same level; else, after an initiator, at the PDI that matches; else nowhere.
--
-- In `a`, RLI, U+05D0, PDI, `b` at the base 0 the sequence goes on after the RLI at the PDI, 3, and it ends beside the
-- base after U+05D0, whose next character has another level, 0.
use Rattle.std.specs.Prelude.{ℕ, suc, ◌+◌, ◌==◌, List, [], ◌∷◌, reverse}
use Rattle.std.specs.Prelude.{take}
use Rattle.std.specs.Prelude.{drop, slice_index_or, if◌then◌else◌, Option, Some, None}
use Rattle.bidi_order.specs.Explicit.{KeptCharacter}
use Rattle.bidi_order.specs.Sequences.{enters_isolate, resolved_level, step_past_isolate}
use Rattle.bidi_order.specs.Sequences.SequenceStep.{Take, Pass, Stop}

-- a character of the line, if it is kept
abbrev pub character_at : List (Option KeptCharacter) → ℕ → Option KeptCharacter
character_at line i = slice_index_or line i None

-- how many removed characters stand first
abbrev pub leading_removed : List (Option KeptCharacter) → ℕ
leading_removed [] = 0
leading_removed (None ∷ rest) = suc (leading_removed rest)
leading_removed (Some k ∷ rest) = 0

-- the index of a PDI, counted from a number on, that ends so many open isolates and one more
abbrev pub closing_from : ℕ → ℕ → List (Option KeptCharacter) → Option ℕ
closing_from i n [] = None
closing_from i n (None ∷ rest) = closing_from (suc i) n rest
closing_from i n (Some k ∷ rest) = elim (step_past_isolate n k.role) [
  | Take ↦ Some i
  | Pass m ↦ closing_from (suc i) m rest
  | Stop ↦ None
]

-- BD9: the index of the PDI that matches an initiator at the index
abbrev pub matching_end : List (Option KeptCharacter) → ℕ → Option ℕ
matching_end line i = closing_from (suc i) 0 (drop (suc i) line)

-- what comes after a character of a sequence: a character at an index, or the end, beside a level
pub data NextCharacter : Type 0 where
  GoesOn : ℕ → NextCharacter
  Ends : ℕ → NextCharacter

abbrev pub goes_past : Option ℕ → ℕ → NextCharacter
goes_past None base = Ends base
goes_past (Some i) base = GoesOn i

-- by the next kept character, which stands at the index, if there is one
abbrev pub next_from : ℕ → KeptCharacter → Option ℕ → ℕ → Option KeptCharacter → NextCharacter
next_from base k matching i None = Ends base
next_from base k matching i (Some q) =
    if q.level == k.level then GoesOn i
    else if enters_isolate k.role then goes_past matching base
    else Ends q.level

abbrev pub next_kept : List (Option KeptCharacter) → ℕ → ℕ
next_kept line i = i + leading_removed (drop i line)

abbrev pub next_character : ℕ → List (Option KeptCharacter) → ℕ → KeptCharacter → NextCharacter
next_character base line i k =
    next_from base k (matching_end line i) (next_kept line (suc i)) (character_at line (next_kept line (suc i)))

-- the level of the last kept character of these, nearest first, or the base
abbrev pub level_behind : ℕ → List (Option KeptCharacter) → ℕ
level_behind base [] = base
level_behind base (None ∷ back) = level_behind base back
level_behind base (Some k ∷ back) = k.level

-- the level of a kept character by I1 and I2, in its line
abbrev pub level_at : ℕ → List (Option KeptCharacter) → ℕ → KeptCharacter → ℕ
level_at base line i k = resolved_level base (reverse (take i line)) k (drop (suc i) line)
