-- Where tokens are refused: at the first token after those that are read, or at the end of the last one.
-- Example: `1 +` is refused at 3, where its last token ends, and a list without tokens at 0.
use Rattle.std.specs.Prelude.{ℕ, List, [], ◌∷◌}
use Rattle.soy_lexer.specs.declared.token.Token.{Token}

-- where tokens end that follow this offset
abbrev pub end_after : ℕ → List Token → ℕ
end_after offset [] = offset
end_after offset (t ∷ ts) = end_after t.span.end ts

-- the offset after the tokens of a prefix, of which these are the rest
abbrev pub offset_after : List Token → List Token → ℕ
offset_after prefix [] = end_after 0 prefix
offset_after prefix (t ∷ rest) = t.span.start
