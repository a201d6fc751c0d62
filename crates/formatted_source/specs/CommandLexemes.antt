-- The lexemes with which a text in a command begins, with white space between them, up to a rest of the text.
-- Example: `a . b}` in a command begins with the lexemes `a`, `.` and `b` up to the rest `}`.
use Rattle.std.specs.Prelude.{◌≡◌, ℕ, List, [], ◌∷◌, ◌++◌, ◌==◌, ◌&&◌, Bool, true, false, not}
use Rattle.soy_base.specs.Names.{continues_name}
use Rattle.soy_lexer.specs.CommandSegment.{command_segment}
use Rattle.soy_lexer.specs.Found.Found.{Begins}
use Rattle.soy_lexer.specs.Segment.Segment.{Skipped, CommandToken}
use Rattle.soy_lexer.specs.declared.token.TokenKind.{TokenKind}
use Rattle.soy_lexer.specs.declared.token.TokenKind.TheVariants as kind
use Rattle.formatted_source.specs.Lexemes.{Lexeme}

-- whether a command goes on after a token of this kind
abbrev pub goes_on : TokenKind → Bool
goes_on kind.Begin = false
goes_on kind.End = false
goes_on kind.SlashEnd = false
goes_on _ = true

pub data CommandLexemes : List ℕ → List Lexeme → List ℕ → Type 0 where
  here_ : (rest : List ℕ) → CommandLexemes rest [] rest
  white_ : (text skipped next rest : List ℕ) (ls : List Lexeme) → command_segment text ≡ Begins (Skipped skipped) next
      → CommandLexemes next ls rest → CommandLexemes text ls rest
  token_ : (text source_text value next rest : List ℕ) (k : TokenKind) (ls : List Lexeme)
      → command_segment text ≡ Begins (CommandToken k source_text value) next
      → goes_on k ≡ true
      → CommandLexemes next ls rest → CommandLexemes text ((k, value) ∷ ls) rest

-- whether a text begins with no character that a name may go on with
abbrev pub ends_name : List ℕ → Bool
ends_name [] = true
ends_name (c ∷ cs) = not (continues_name c)

-- whether it begins with no `=`, with which a `<` or `>` would be another symbol
abbrev pub no_equals : List ℕ → Bool
no_equals [] = true
no_equals (c ∷ cs) = not (61 == c)

-- and with no character of a name
abbrev pub ends_type : List ℕ → Bool
ends_type rest = ends_name rest && no_equals rest

abbrev pub before_any : List ℕ → Bool
before_any rest = true

-- a written part of a command has these lexemes wherever what follows it passes a test
abbrev pub HasLexemes : (List ℕ → Bool) → List ℕ → List Lexeme → Type 0
HasLexemes test written ls = (rest : List ℕ) → test rest ≡ true → CommandLexemes (written ++ rest) ls rest
