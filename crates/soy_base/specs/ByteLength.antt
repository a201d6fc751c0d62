-- How many bytes characters take in UTF-8 (RFC 3629, section 3).
--
-- Example: `é<` takes three bytes, two of them for the `é`.
use Rattle.std.specs.Prelude.{ℕ, ◌+◌, List, [], ◌∷◌}
use Rattle.std.specs.Char.{len_utf8}

abbrev pub byte_len : List ℕ → ℕ
byte_len [] = 0
byte_len (c ∷ cs) = len_utf8 c + byte_len cs
