-- A word of a script: letters and digits of ASCII and `-`, as the text of an int, a bool and null has them.
--
-- `-3` and `true` are words, and `a/b` isn't.
use Rattle.std.specs.Prelude.{ℕ, List, Bool, ◌||◌, ◌==◌, IsTrue}
use Rattle.std.specs.Char.{is_ascii_alphanumeric}
use Rattle.std.specs.List.{list_all}
use Rattle.soy_base.specs.Characters.{minus_sign}

abbrev pub is_word_character : ℕ → Bool
is_word_character c = is_ascii_alphanumeric c || c == minus_sign

abbrev pub IsJsWord : List ℕ → Type 0
IsJsWord text = IsTrue (list_all is_word_character text)
