-- The characters of a name or a prefix that a state keeps.
--
-- Of a name the first 17 are kept, in lower case: no name that the tables compare has so many (WHATWG HTML compares
-- names of HTML in ASCII lower case). Of a prefix the first 9 are kept: none that may still become a scheme or a
-- reference has so many.
-- Example: after `<TEXTarea` the name is `textarea`.
use Rattle.std.specs.Prelude.{ℕ, List, [], ◌∷◌, ◌++◌, take}
use Rattle.std.specs.Char.{to_ascii_lowercase}

-- a name with one more character
abbrev pub name_with : List ℕ → ℕ → List ℕ
name_with name c = take 17 (name ++ to_ascii_lowercase c ∷ [])

-- a prefix with one more character
abbrev pub prefix_with : List ℕ → ℕ → List ℕ
prefix_with prefix c = take 9 (prefix ++ c ∷ [])
