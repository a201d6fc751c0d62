-- The visual order of a line (UAX #9, L2): from the highest level down to the least odd one, each maximal run of
-- characters at that level or a higher one is reversed.
--
-- Of three characters with the levels 0, 1, 2 the last alone is reversed at level 2, and the last two at level 1: from
-- left to right they are the first, the third, the second. So the third stands left of the second.
use Rattle.std.specs.Prelude.{ℕ, zero, suc, ◌+◌, ◌-◌, max, min, Bool, false, ◌==◌, ◌&&◌, ◌||◌, nat_lt, nat_le, List}
use Rattle.std.specs.Prelude.{[], ◌∷◌, ◌++◌, if◌then◌else◌, Option, Some, None}
use Rattle.bidi_order.specs.DirectionalStatus.{is_odd}

-- a character by its index in the line, with its level
pub record LeveledCharacter : Type 0 where
  pub index : ℕ
  pub level : ℕ

-- the characters that have a level, with their indexes from a number on
abbrev pub indexed_from : ℕ → List (Option ℕ) → List LeveledCharacter
indexed_from n [] = []
indexed_from n (None ∷ levels) = indexed_from (suc n) levels
indexed_from n (Some level ∷ levels) = record { index = n; level = level } ∷ indexed_from (suc n) levels

abbrev pub highest_level : List (Option ℕ) → ℕ
highest_level [] = 0
highest_level (None ∷ levels) = highest_level levels
highest_level (Some level ∷ levels) = max level (highest_level levels)

-- the least odd level below a number, or the number where there is none
abbrev pub least_odd_level : ℕ → List (Option ℕ) → ℕ
least_odd_level n [] = n
least_odd_level n (None ∷ levels) = least_odd_level n levels
least_odd_level n (Some level ∷ levels) =
    if is_odd level && nat_lt level n then least_odd_level level levels else least_odd_level n levels

-- each maximal run at the level or above is reversed; the run so far stands first, reversed
abbrev pub reversed_from : ℕ → List LeveledCharacter → List LeveledCharacter → List LeveledCharacter
reversed_from level run [] = run
reversed_from level run (x ∷ xs) =
    if nat_le level x.level then reversed_from level (x ∷ run) xs else run ++ x ∷ reversed_from level [] xs

-- the reversals at so many levels from the lowest on, that at the highest first
abbrev pub reordered : ℕ → ℕ → List LeveledCharacter → List LeveledCharacter
reordered lowest zero xs = xs
reordered lowest (suc n) xs = reversed_from lowest [] (reordered (lowest + 1) n xs)

-- the characters from left to right; where no level is odd, nothing is reversed
abbrev pub visual_order : List (Option ℕ) → List LeveledCharacter
visual_order levels =
    let above = highest_level levels + 1 in
    let lowest = least_odd_level above levels in
    reordered lowest (above - lowest) (indexed_from 0 levels)

-- one of the characters stands at the index
abbrev pub has_index : ℕ → List LeveledCharacter → Bool
has_index j [] = false
has_index j (x ∷ xs) = x.index == j || has_index j xs

-- the character at the one index is followed by that at the other
abbrev pub comes_first : ℕ → ℕ → List LeveledCharacter → Bool
comes_first i j [] = false
comes_first i j (x ∷ xs) = if x.index == i then has_index j xs else comes_first i j xs

-- of a line with these levels the character at the one index stands left of that at the other. A character that is
-- removed stands nowhere: it is left of none, and none is left of it. None is left of itself
unfoldable pub is_left_of : List (Option ℕ) → ℕ → ℕ → Bool
is_left_of levels i j = comes_first i j (visual_order levels)

-- the least of a number and some levels
abbrev pub least_level : ℕ → List (Option ℕ) → ℕ
least_level n [] = n
least_level n (None ∷ levels) = least_level n levels
least_level n (Some level ∷ levels) = least_level (min n level) levels
