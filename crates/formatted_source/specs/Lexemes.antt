-- Lexemes: tokens without where they stand, so their kinds and their texts.
-- Example: the tokens of `{a}` are the lexemes of a `{`, of the word `a` and of a `}`.
use Rattle.std.specs.Prelude.{ℕ, List, map}
use Rattle.soy_lexer.specs.declared.token.Token.{Token}
use Rattle.soy_lexer.specs.declared.token.TokenKind.{TokenKind}

abbrev pub Lexeme : Type 0
Lexeme = TokenKind × List ℕ

abbrev pub lexeme : Token → Lexeme
lexeme t = (t.kind, t.text)

abbrev pub lexemes : List Token → List Lexeme
lexemes ts = map lexeme ts
