-- A value of a style: a name, a number or a color passes as it is, and anything else is replaced
-- whole by a name that no style knows. What passes is not empty, and each of its characters is a
-- letter, a digit or one of `.`, `%`, `#`, `_` and `-` (a part of what CSS Syntax Level 3,
-- "Tokenization", reads as an identifier, a number, a percentage or a hash).
--
-- The text `red` stays, and `red;x` becomes `zSoyz`.
use Rattle.std.specs.Prelude.{ℕ, List, [], ◌∷◌, Bool, false, ◌||◌, if◌then◌else◌, codes}
use Rattle.std.specs.Char.{is_ascii_alphanumeric}
use Rattle.std.specs.List.{list_all}
use Rattle.soy_base.specs.Among.{is_one_of}

abbrev pub is_value_character : ℕ → Bool
is_value_character c = is_ascii_alphanumeric c || is_one_of (codes ".%#_-") c

abbrev pub is_css_value : List ℕ → Bool
is_css_value [] = false
is_css_value (c ∷ text) = list_all is_value_character (c ∷ text)

abbrev pub css_value : List ℕ → List ℕ
css_value text = if is_css_value text then text else codes "zSoyz"
