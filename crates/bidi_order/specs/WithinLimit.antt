-- The characters of a line with what they belong to, and the limit on the depth at which its values stand: at each
-- value's initiator the level is at most 123, and neither an isolate nor an embedding has overflowed (UAX #9, BD2 and
-- X1, where levels end at 125). So the value's isolate finds room whatever its direction.
--
-- A value inside 61 spans from right to left is within the limit, since its initiator stands at level 121. Inside 63 it
-- isn't: its initiator stands at level 125.
use Rattle.std.specs.Prelude.{ℕ, ◌+◌, Bool, true, false, ◌==◌, ◌&&◌, ◌||◌, not, List, [], ◌∷◌, ◌++◌, map, take, drop}
use Rattle.std.specs.Prelude.{Option, Some, None}
use Rattle.bidi_order.specs.DirectionalStatus.{DirectionalStatus, initial_status, status_after, is_within_depth}
use Rattle.bidi_order.specs.Explicit.{act_of_character}

-- a character of a line
pub record LabelledCharacter : Type 0 where
  pub character : ℕ
  -- the number of the value that it belongs to, and None for static text
  pub label : Option ℕ
  -- it is the initiator that stands for the start tag of a value's span
  pub begins_value : Bool

abbrev pub line_characters : List LabelledCharacter → List ℕ
line_characters line = map (λ (m : LabelledCharacter). m.character) line

abbrev pub static_character : ℕ → LabelledCharacter
static_character c = record { character = c; label = None; begins_value = false }

-- a value's initiator
abbrev pub value_initiator : ℕ → ℕ → LabelledCharacter
value_initiator k c = record { character = c; label = Some k; begins_value = true }

-- a character of a value's content, or its PDI
abbrev pub value_character : ℕ → ℕ → LabelledCharacter
value_character k c = record { character = c; label = Some k; begins_value = false }

-- what stands in a line for the value of a number: its initiator, its content and its PDI
abbrev pub value_characters : ℕ → ℕ → List ℕ → List LabelledCharacter
value_characters k initiator content =
    value_initiator k initiator ∷ (map (value_character k) content ++ value_character k 0x2069 ∷ [])

-- LRI or RLI, which begin a value's span
abbrev pub is_value_initiator : ℕ → Bool
is_value_initiator c = c == 0x2066 || c == 0x2067

-- each value's initiator from a status on is within the limit
abbrev pub is_within_from : DirectionalStatus → List LabelledCharacter → Bool
is_within_from s [] = true
is_within_from s (m ∷ ms) =
    (not m.begins_value || is_within_depth s)
    && is_within_from (status_after (act_of_character m.character (line_characters ms)) s) ms

unfoldable pub is_within_limit : ℕ → List LabelledCharacter → Bool
is_within_limit base line = is_within_from (initial_status base) line

-- a list without so many items after the first so many
abbrev pub without : {X : Type 0} → ℕ → ℕ → List X → List X
without n m xs = take n xs ++ drop (n + m) xs
