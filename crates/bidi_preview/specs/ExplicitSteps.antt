-- How the explicit levels are read (UAX #9, X1 to X9): each FSI stands as the RLI or LRI that it acts as, so that what
-- a character does goes by its own class alone.
--
-- Of FSI, `1`, U+05D0, PDI the classes are RLI, EN, R, PDI.
use Rattle.std.specs.Prelude.{◌≡◌, ℕ, Bool, true, false, ◌⊎◌, List, [], ◌∷◌, drop, take, length, slice_index_or}
use Rattle.std.specs.Prelude.{if◌then◌else◌, IsTrue}
use Rattle.bidi_class.specs.declared.class.Class.{Class}
use Rattle.bidi_class.specs.declared.class.Class.TheVariants.{L, R, AL, LRI, RLI, FSI, PDI}
use Rattle.bidi_class.specs.Class.{begins_isolate}
use Rattle.bidi_order.specs.DirectionalStatus.{DirectionalStatus, begins_right_to_left}
use Rattle.bidi_preview.specs.declared.status.Status.{Status}

-- X5c, by the direction that the isolate begins with
abbrev pub directed_by : Class → Bool → Class
directed_by FSI right_to_left = if right_to_left then RLI else LRI
directed_by c right_to_left = c

abbrev pub is_first_strong : Class → Bool
is_first_strong FSI = true
is_first_strong _ = false

abbrev pub directed_classes : List Class → List Class
directed_classes [] = []
directed_classes (c ∷ cs) = directed_by c (begins_right_to_left 0 cs) ∷ directed_classes cs

-- for each number of open isolates the direction of the first strong character behind their ends, after one more
-- character in front
abbrev pub sides_before : Class → List Bool → List Bool
sides_before LRI sides = drop 1 sides
sides_before RLI sides = drop 1 sides
sides_before FSI sides = drop 1 sides
sides_before PDI sides = false ∷ sides
sides_before L sides = false ∷ drop 1 sides
sides_before R sides = true ∷ drop 1 sides
sides_before AL sides = true ∷ drop 1 sides
sides_before c sides = sides

-- a status of the code as the definition has it
abbrev pub view_status : Status → DirectionalStatus
view_status s = record {
  base = s.base;
  stack = s.stack;
  overflow_isolates = s.overflow_isolates;
  overflow_embeddings = s.overflow_embeddings;
  valid_isolates = s.valid_isolates;
}

-- the class, which stands for an FSI too, is that of the character
abbrev pub IsDirected : Class → Class → Type 0
IsDirected class given = (class ≡ given) ⊎ (IsTrue (begins_isolate class) × IsTrue (begins_isolate given))

-- for each number of open isolates the direction of the first strong character behind their ends
abbrev pub KnowsSides : List Bool → List Class → Type 0
KnowsSides sides cs = (n : ℕ) → slice_index_or sides n false ≡ begins_right_to_left n cs

-- the classes of a line, which are directed from an index on
pub record DirectedFrom (initial : List Class) (i : ℕ) (sides : List Bool) (classes : List Class) : Type 0 where
  pub long : length classes ≡ length initial
  pub left : take i classes ≡ take i initial
  pub done : drop i classes ≡ directed_classes (drop i initial)
  pub knows : KnowsSides sides (drop i initial)
