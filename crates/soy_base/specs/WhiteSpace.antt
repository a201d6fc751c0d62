-- The sets of white space, and the characters that break lines.
--
-- White space of Closure Templates is tab, line feed, carriage return and space, which is also that of JSON (RFC 8259,
-- section 2). HTML's has form feed too (WHATWG Infra, "ASCII whitespace"): that is std's `is_ascii_whitespace`.
-- Unicode's has further characters (the property White_Space): that is std's `is_whitespace`.
-- Example: a form feed is white space of HTML, and not of Closure Templates.
use Rattle.std.specs.Prelude.{ℕ, Bool, ◌==◌, ◌||◌}
use Rattle.soy_base.specs.Characters.{tab, line_feed, carriage_return, space}

-- whether a line breaks at this character: a break is LF, CR LF or CR
abbrev pub is_line_break : ℕ → Bool
is_line_break c = c == line_feed || c == carriage_return

-- whether the character is white space of Closure Templates
abbrev pub is_template_space : ℕ → Bool
is_template_space c = c == space || c == tab || is_line_break c
