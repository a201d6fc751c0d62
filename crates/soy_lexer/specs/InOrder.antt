-- Tokens stand in the order of their text: each begins at the end of the one before it or further on, takes a byte at
-- least, and ends within the text.
--
-- The tokens of `{a} b` have the spans 0 to 1, 1 to 2, 2 to 3 and 3 to 5.
use Rattle.std.specs.Prelude.{ℕ, ◌≤◌, ◌<◌, List, [], ◌∷◌}
use Rattle.soy_lexer.specs.declared.token.Token.{Token}

-- from this offset up to that one
abbrev pub InOrder : ℕ → ℕ → List Token → Type 0
InOrder from to [] = from ≤ to
InOrder from to (token ∷ tokens) =
    (from ≤ token.span.start) × (token.span.start < token.span.end) × InOrder token.span.end to tokens
