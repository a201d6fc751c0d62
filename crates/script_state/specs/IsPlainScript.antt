-- A character of a script that begins no comment and no literal, and is followed anywhere.
--
-- Example: a semicolon is one, and a quote isn't.
use Rattle.std.specs.Prelude.{ℕ, ◌≢◌}
use Rattle.soy_base.specs.Characters.{double_quote, single_quote, slash, backtick}

abbrev pub IsPlainScript : ℕ → Type 0
IsPlainScript c = (c ≢ slash) × (c ≢ single_quote) × (c ≢ double_quote) × (c ≢ backtick)
