-- The order of a line on its characters themselves (UAX #9, L2), where the definition has their indexes.
use Rattle.std.specs.Prelude.{ℕ, Bool, true, false, not, if◌then◌else◌, List, [], ◌∷◌, ◌++◌, map, filter, get_or}
use Rattle.std.specs.Prelude.{reverse, Option, Some, None}
use Rattle.bidi_text.specs.Clean.{is_isolate_control}
use Rattle.bidi_order.specs.VisualOrder.{LeveledCharacter, visual_order}

-- the character itself instead of its index
abbrev pub with_character : List ℕ → LeveledCharacter → LeveledCharacter
with_character text x = record { index = get_or text x.index 0; level = x.level }

abbrev pub characters_in_order : List ℕ → List (Option ℕ) → List LeveledCharacter
characters_in_order text levels = map (with_character text) (visual_order levels)

-- a character, where it has a level
abbrev pub leveled_of : ℕ → Option ℕ → List LeveledCharacter
leveled_of c None = []
leveled_of c (Some level) = record { index = c; level = level } ∷ []

-- the characters that have a level
abbrev pub leveled_from : List ℕ → List (Option ℕ) → List LeveledCharacter
leveled_from [] levels = []
leveled_from (c ∷ text) [] = []
leveled_from (c ∷ text) (level ∷ levels) = leveled_of c level ++ leveled_from text levels

-- a character, unless it is an initiator or PDI
abbrev pub visible_of : ℕ → List ℕ
visible_of c = if is_isolate_control c then [] else c ∷ []

-- the characters of an order that are shown
abbrev pub visible_characters : List LeveledCharacter → List ℕ
visible_characters order =
    filter (λ (c : ℕ). not (is_isolate_control c)) (map (λ (x : LeveledCharacter). x.index) order)

-- a list, or the list from its last element to its first
abbrev pub turned_by : Bool → List LeveledCharacter → List LeveledCharacter
turned_by false xs = xs
turned_by true xs = reverse xs
