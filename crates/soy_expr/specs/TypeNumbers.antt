-- Maps that have a number for the text of each of some types.
-- Example: a map with a number for `int` and one for `null` has numbers for the members of `int|null`.
use Rattle.std.specs.Prelude.{◌≡◌, ℕ, Bool, true, ◌||◌, List, is_some, bytes_eq}
use Rattle.std.specs.List.{list_all}
use Rattle.std.specs.HashMap.{HashMap, get}
use Rattle.soy_tree.specs.Types.{SoyType}
use Rattle.soy_rules.specs.TypeText.{type_text}

module _ {S : Type 0} where
  -- whether the map has a number for a text
  abbrev pub has_text : HashMap (List ℕ) ℕ S → List ℕ → Bool
  has_text numbers text = is_some (get bytes_eq numbers text)

  abbrev pub HasTexts : HashMap (List ℕ) ℕ S → List SoyType → Type 0
  HasTexts numbers types = list_all (λ t. has_text numbers (type_text t)) types ≡ true

  -- the map has a number for one more text
  abbrev pub AddsText : List ℕ → HashMap (List ℕ) ℕ S → HashMap (List ℕ) ℕ S → Type 0
  AddsText text old new = (other : List ℕ) → has_text new other ≡ (has_text old other || bytes_eq text other)
