-- A text of unreserved characters and of bytes that are percent-encoded in upper hexadecimal
-- digits, and of nothing else (RFC 3986, sections 2.1 and 2.3).
--
-- `a%26b` is such a text, and `a%2x`, `a%c3` and `a&b` are not.
use Rattle.std.specs.Prelude.{ℕ, List, [], ◌∷◌, Bool, ◌||◌, IsTrue}
use Rattle.std.specs.Int.{is_in_range}
use Rattle.soy_base.specs.Characters.{percent_sign}
use Rattle.escapers.specs.UriComponent.{is_unreserved}

-- '0' to '9' or 'A' to 'F'
abbrev pub is_upper_digit : ℕ → Bool
is_upper_digit c = is_in_range 0x30 0x39 c || is_in_range 0x41 0x46 c

pub data IsComponentText : List ℕ → Type 0 where
  empty : IsComponentText []
  unreserved : (c : ℕ) (rest : List ℕ) → IsTrue (is_unreserved c)
      → IsComponentText rest → IsComponentText (c ∷ rest)
  encoded : (high low : ℕ) (rest : List ℕ) → IsTrue (is_upper_digit high) → IsTrue (is_upper_digit low)
      → IsComponentText rest → IsComponentText (percent_sign ∷ high ∷ low ∷ rest)
