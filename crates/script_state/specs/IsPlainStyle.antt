-- A character of a style that begins no comment, no string and no escape.
--
-- Example: a colon is one, and a backslash isn't.
use Rattle.std.specs.Prelude.{ℕ, ◌≢◌}
use Rattle.soy_base.specs.Characters.{double_quote, single_quote, slash, backslash}

abbrev pub IsPlainStyle : ℕ → Type 0
IsPlainStyle c = (c ≢ slash) × (c ≢ backslash) × (c ≢ single_quote) × (c ≢ double_quote)
