-- How many names stand before the first that is a given one, and maps that have this number for each name.
-- Example: before the first `b` of `a`, `b`, `b` stands one name.
use Rattle.std.specs.Prelude.{◌≡◌, ℕ, ◌+◌, Bool, List, [], ◌∷◌, Option, Some, None, if◌then◌else◌, bytes_eq}
use Rattle.std.specs.Option.{option_or}
use Rattle.std.specs.Str.{chars, IsUtf8}
use Rattle.std.specs.HashMap.{HashMap, get}
use Rattle.std.proofs.Common.{Bor}

-- the number of the first of these names that is the given one, counted from a number on
abbrev pub first_from : List ℕ → ℕ → List (List ℕ) → Option ℕ
first_from name at [] = None
first_from name at (n ∷ ns) = if bytes_eq n name then Some at else first_from name (at + 1) ns

abbrev pub first_number : List ℕ → List (List ℕ) → Option ℕ
first_number name names = first_from name 0 names

abbrev pub same_bytes : Bor (List ℕ) → Bor (List ℕ) → Bool
same_bytes a b = bytes_eq a.now b.now

module _ {S : Type 0} where
  -- the map has the first number of each name, or else what a name has among more of these names from a number on
  abbrev pub HasFirstsBefore : HashMap (Bor (List ℕ)) ℕ S → ℕ → List (List ℕ) → List (List ℕ) → Type 0
  HasFirstsBefore numbers at rest names =
      (name : Bor (List ℕ)) → IsUtf8 name.now
      → option_or (get same_bytes numbers name) (first_from (chars name.now) at rest)
      ≡ first_number (chars name.now) names

  -- the map has the first number of each name
  abbrev pub HasFirsts : HashMap (Bor (List ℕ)) ℕ S → List (List ℕ) → Type 0
  HasFirsts numbers names =
      (name : Bor (List ℕ)) → IsUtf8 name.now → get same_bytes numbers name ≡ first_number (chars name.now) names

  -- a number is added for a name that has none
  abbrev pub AddsFirst : Bor (List ℕ) → ℕ → HashMap (Bor (List ℕ)) ℕ S → HashMap (Bor (List ℕ)) ℕ S → Type 0
  AddsFirst name number old new =
      (other : Bor (List ℕ)) → get same_bytes new other
      ≡ option_or (get same_bytes old other) (if bytes_eq name.now other.now then Some number else None)
