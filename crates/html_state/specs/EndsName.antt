-- The characters that end a name in a tag.
--
-- White space, `/` and `>` end it (WHATWG HTML, 13.2.5.8, 13.2.5.33).
-- Example: a quote is a character of the name.
use Rattle.std.specs.Prelude.{ℕ, Bool, ◌==◌, ◌||◌}
use Rattle.std.specs.Char.{is_ascii_whitespace}
use Rattle.soy_base.specs.Characters.{slash, greater_than}

abbrev pub ends_name : ℕ → Bool
ends_name c = is_ascii_whitespace c || c == slash || c == greater_than
