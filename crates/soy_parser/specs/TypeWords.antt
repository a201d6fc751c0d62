-- Which tokens are words that stand as types: none of those outside of a parameter's type is one.
-- Example: of the tokens of `let $x: 1` none is.
use Rattle.std.specs.Prelude.{Bool, false, List, map}
use Rattle.soy_lexer.specs.declared.token.Token.{Token}

abbrev pub no_words : List Token → List Bool
no_words ts = map (λ t. false) ts
