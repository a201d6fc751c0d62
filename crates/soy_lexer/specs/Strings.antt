-- Strings: what stands between single quotes, where `\\`, `\'`, `\"`, `\n`, `\r`, `\t`, `\b`, `\f` and `\u` with four
-- hexadecimal digits, which are the number of no surrogate, stand for one character each.
--
-- 'a\'\u0041' has the characters a, ' and A.
use Rattle.std.specs.Prelude.{ℕ, ◌+◌, ◌*◌, List, [], ◌∷◌, ◌++◌, Bool, ◌==◌, ◌&&◌, ◌||◌, not, nat_le, if◌then◌else◌}
use Rattle.std.specs.Prelude.{Option, None, Some, option_map}
use Rattle.std.specs.Option.{option_and_then}
use Rattle.std.specs.Char.{is_ascii_hexdigit, digit_value}
use Rattle.soy_base.specs.Characters.{line_feed, carriage_return, tab, double_quote, single_quote, backslash}

-- a string after its first quote: its source text, with the last quote, its characters, and what follows
pub record Quoted : Type 0 where
  pub source_text : List ℕ
  pub value : List ℕ
  pub rest : List ℕ

-- the string that begins with one more character, whose source text is this
abbrev pub with_character : List ℕ → ℕ → Quoted → Quoted
with_character source_text c string =
    record { source_text = source_text ++ string.source_text; value = c ∷ string.value; rest = string.rest }

-- what a character stands for after a backslash
abbrev pub escaped : ℕ → Option ℕ
escaped c =
    if c == backslash || c == single_quote || c == double_quote then Some c
    else if c == 110 then Some line_feed
    else if c == 114 then Some carriage_return
    else if c == 116 then Some tab
    else if c == 98 then Some 8
    else if c == 102 then Some 12
    else None

-- the number that four hexadecimal digits write
abbrev pub hexadecimal : ℕ → ℕ → ℕ → ℕ → ℕ
hexadecimal a b c d = ((digit_value a * 16 + digit_value b) * 16 + digit_value c) * 16 + digit_value d

abbrev pub is_surrogate : ℕ → Bool
is_surrogate n = nat_le 0xD800 n && nat_le n 0xDFFF

-- the character that four hexadecimal digits write
abbrev pub numbered : ℕ → ℕ → ℕ → ℕ → Option ℕ
numbered a b c d =
    if is_ascii_hexdigit a && is_ascii_hexdigit b && is_ascii_hexdigit c && is_ascii_hexdigit d
    && not (is_surrogate (hexadecimal a b c d))
    then Some (hexadecimal a b c d) else None

abbrev mutual
  -- the string whose first quote stands before the text, and none where it has no end or another escape
  pub quoted : List ℕ → Option Quoted
  quoted [] = None
  quoted (c ∷ cs) =
      if c == single_quote then Some (record { source_text = c ∷ []; value = []; rest = cs })
      else if c == backslash then quoted_escape cs
      else option_map (with_character (c ∷ []) c) (quoted cs)

  -- the same after a backslash
  pub quoted_escape : List ℕ → Option Quoted
  quoted_escape [] = None
  quoted_escape (c ∷ cs) =
      if c == 117 then quoted_number cs
      else option_and_then (λ character. option_map (with_character (backslash ∷ c ∷ []) character) (quoted cs))
      (escaped c)

  -- and after `\u`
  pub quoted_number : List ℕ → Option Quoted
  quoted_number (a ∷ b ∷ c ∷ d ∷ cs) =
      option_and_then (λ character. option_map (with_character (backslash ∷ 117 ∷ a ∷ b ∷ c ∷ d ∷ []) character)
      (quoted cs)) (numbered a b c d)
  quoted_number _ = None
