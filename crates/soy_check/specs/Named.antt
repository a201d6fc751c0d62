-- What is found without a walk: parameters in a map by their names, those that are required in a row of their own, and
-- the names that a call gives in a set.
-- Example: of two parameters of one name the map has the first, and of two params of one name the set has one name.
use Rattle.std.specs.Prelude.{◌≡◌, ℕ, List, [], ◌∷◌, Option, Some, None, filter, map, option_map, if◌then◌else◌}
use Rattle.std.specs.Borrow.{Bor}
use Rattle.std.specs.Map.{lookup}
use Rattle.std.specs.Str.{IsUtf8, bytes_eq, chars}
use Rattle.soy_tree.specs.Types.{Name}
use Rattle.soy_base.specs.Among.{is_among}
use Rattle.soy_tree.specs.declared.tree.Param as code

-- the first parameter of a name
abbrev pub first_named : Name → List code.Param → Option code.Param
first_named name [] = None
first_named name (p ∷ ps) = if bytes_eq p.name name then Some p else first_named name ps

-- what a map from names to parameters has at each name: the first parameter of that name
abbrev pub FindsParams : List (Bor (List ℕ) × Bor code.Param) → List code.Param → Type 0
FindsParams entries params =
    (text : List ℕ) → IsUtf8 text
    → option_map (λ p. p.now) (lookup (λ key. bytes_eq text key.now) entries) ≡ first_named (chars text) params

-- the parameters that are required
abbrev pub required_in : List code.Param → List code.Param
required_in = filter (λ p. p.required)

abbrev pub in_row : List (Bor code.Param) → List code.Param
in_row = map (λ p. p.now)

-- whether the same names are among both lists
abbrev pub HasNames : List Name → List Name → Type 0
HasNames names given = (name : Name) → is_among names name ≡ is_among given name
