-- The next state in a string literal in which no escape is open, of script and of style alike.
--
-- A backslash opens an escape, the literal's own quote ends it, and a line feed or carriage return
-- may not stand in it: there is no next state. Anything else stays. (ECMAScript, "String Literals";
-- CSS Syntax Level 3, "Consume a string token".)
-- Example: with the quote `'`, the character `"` stays within the literal.
use Rattle.std.specs.Prelude.{ℕ, ◌==◌, ◌||◌, if◌then◌else◌, Some, None}
use Rattle.std.specs.declared.option.Option.{Option}
use Rattle.soy_base.specs.Characters.{backslash, line_feed, carriage_return}

abbrev pub string_next : {S : Type 0} → ℕ → S → S → S → ℕ → Option S
string_next quote within escape after c =
    if c == backslash then Some escape
    else (if c == quote then Some after
    else (if c == line_feed || c == carriage_return then None
    else Some within))
