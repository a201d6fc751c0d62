-- Rows whose texts take at most 16 bytes each in UTF-8, so that one can be pending as a whole.
--
-- The rows (38, "&amp;") and (60, "&lt;") are short.
use Rattle.std.specs.Prelude.{ℕ, List, Bool, nat_lt}
use Rattle.std.specs.List.{list_all}
use Rattle.soy_base.specs.ByteLength.{byte_len}

abbrev pub are_short : List (ℕ × List ℕ) → Bool
are_short rows = list_all (λ row. nat_lt (byte_len row.1) 17) rows
