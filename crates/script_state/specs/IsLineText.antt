-- The characters of a line of a script, and its line terminators.
--
-- The line terminators are line feed, carriage return, line separator and paragraph separator
-- (ECMAScript, "Line Terminators"). Example: a form feed is none.
use Rattle.std.specs.Prelude.{ℕ, List, All, ◌≡◌, ◌⊎◌, ◌≢◌}
use Rattle.soy_base.specs.Characters.{line_feed, carriage_return, line_separator, paragraph_separator}

abbrev pub IsLineTerminator : ℕ → Type 0
IsLineTerminator c = (c ≡ line_feed) ⊎ (c ≡ carriage_return) ⊎ (c ≡ line_separator) ⊎ (c ≡ paragraph_separator)

abbrev pub IsInLine : ℕ → Type 0
IsInLine c = (c ≢ line_feed) × (c ≢ carriage_return) × (c ≢ line_separator) × (c ≢ paragraph_separator)

abbrev pub IsLineText : List ℕ → Type 0
IsLineText text = All IsInLine text
