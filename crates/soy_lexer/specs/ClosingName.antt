-- The name after the slash that closes a command's block, and what follows it.
--
-- "/if}" has the name "if", and "}" follows it.
use Rattle.std.specs.Prelude.{ℕ, List, [], ◌∷◌, ◌==◌, if◌then◌else◌, Option, None}
use Rattle.soy_base.specs.Characters.{slash}
use Rattle.soy_lexer.specs.CommandSegment.{name_prefix}

abbrev pub closing_name : List ℕ → Option (List ℕ × List ℕ)
closing_name [] = None
closing_name (c ∷ cs) = if c == slash then name_prefix cs else None
