-- Prefixes of texts, and what follows a value where there is one and no fault.
--
-- Example: `ht` is a prefix of `http`.
use Rattle.std.specs.Prelude.{ℕ, Bool, true, false, ◌==◌, ◌&&◌, List, [], ◌∷◌, Result, Ok, Err}
use Rattle.std.specs.List.{list_any}

-- the text begins with the prefix
abbrev pub is_prefix : List ℕ → List ℕ → Bool
is_prefix [] text = true
is_prefix (c ∷ prefix) [] = false
is_prefix (c ∷ prefix) (d ∷ text) = c == d && is_prefix prefix text

-- one of these texts begins with the prefix
abbrev pub is_prefix_among : List (List ℕ) → List ℕ → Bool
is_prefix_among texts prefix = list_any (is_prefix prefix) texts

abbrev pub and_then : {A B E : Type 0} → (A → Result B E) → Result A E → Result B E
and_then following (Ok value) = following value
and_then following (Err fault) = Err fault
