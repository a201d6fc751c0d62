-- The depth at the tokens of a command: none but those of its expression or type lie deeper than the block commands
-- that are open around it, and those lie that much deeper.
-- Example: inside a template and an `if`, the depths at the tokens of `{$x}` are 2, 3 and 2.
use Rattle.std.specs.Prelude.{ℕ, ◌+◌, List, map}
use Rattle.soy_lexer.specs.declared.token.Token.{Token}

-- at tokens outside of expressions and types
abbrev pub none_deep : List Token → List ℕ
none_deep ts = map (λ t. 0) ts

-- inside so many block commands
abbrev pub inside_blocks : ℕ → List ℕ → List ℕ
inside_blocks blocks ds = map (λ d. blocks + d) ds
