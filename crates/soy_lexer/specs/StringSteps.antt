-- How a string is read item by item: its characters are that of its next item and those of what is left after that.
--
-- 'a\n' is read as an a, a line feed and the last quote.
use Rattle.std.specs.Prelude.{◌≡◌, ℕ, ◌<◌, List, [], ◌∷◌, Option, None, Some, option_map, length}
use Rattle.std.specs.Str.{chars}
use Rattle.soy_lexer.specs.Strings.{Quoted, quoted}
use Rattle.soy_lexer.specs.declared.string.NextItem.{NextItem}
use Rattle.soy_lexer.specs.declared.string.NextItem.TheVariants as next_item
use denote.Ref.{Bor}

-- the characters of a string and what follows it
abbrev pub value_and_rest : Option Quoted → Option (List ℕ × List ℕ)
value_and_rest string = option_map (λ string. (string.value, string.rest)) string

-- the same with one more character at its start
abbrev pub with_first : ℕ → Option (List ℕ × List ℕ) → Option (List ℕ × List ℕ)
with_first c string = option_map (λ parts. (c ∷ parts.0, parts.1)) string

-- a text that begins with an escape, or a string with one, goes on with this character, and then with a shorter text
pub record ContinuesWith (text : List ℕ) (string : Option Quoted) (c : ℕ) (rest : List ℕ) : Type 0 where
  pub read : value_and_rest string ≡ with_first c (value_and_rest (quoted rest))
  pub shorter : length rest < length text

abbrev pub ReadsEscape : List ℕ → Option Quoted → Option (ℕ × Bor (List ℕ)) → Type 0
ReadsEscape text string None = string ≡ None
ReadsEscape text string (Some parts) = ContinuesWith text string parts.0 (chars parts.1.now)

abbrev pub IsNextItem : List ℕ → NextItem → Type 0
IsNextItem text (next_item.Character c rest) = ContinuesWith text (quoted text) c (chars rest.now)
IsNextItem text (next_item.End rest) = value_and_rest (quoted text) ≡ Some ([], chars rest.now)
IsNextItem text next_item.Broken = quoted text ≡ None
