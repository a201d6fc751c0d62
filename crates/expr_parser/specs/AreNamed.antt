-- Tokens whose words and variables are names, as those of a text are.
-- Example: the tokens of `$a.b` are, and a Word of the text `1` isn't.
use Rattle.std.specs.Prelude.{◌≡◌, ℕ, true, List, [], ◌∷◌}
use Rattle.soy_base.specs.Names.{is_name}
use Rattle.soy_lexer.specs.declared.token.Token.{Token}
use Rattle.soy_lexer.specs.declared.token.TokenKind.{TokenKind}
use Rattle.soy_lexer.specs.declared.token.TokenKind.TheVariants as kind

abbrev pub IsNamed : TokenKind → List ℕ → Type 0
IsNamed kind.Word text = is_name text ≡ true
IsNamed kind.Variable text = is_name text ≡ true
IsNamed _ text = Unit {0}

abbrev pub AreNamed : List Token → Type 0
AreNamed [] = Unit {0}
AreNamed (t ∷ ts) = IsNamed t.kind t.text × AreNamed ts
