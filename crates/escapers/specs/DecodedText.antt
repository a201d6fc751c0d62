-- A percent-encoded text read back: each `%` with the two digits after it is the byte that they
-- name, every other character of ASCII is its own byte, and the bytes are a text in UTF-8 (RFC
-- 3986, section 2.1).
--
-- `a%C3%A9` is read back as `aé`.
use Rattle.std.specs.Prelude.{ℕ, ◌+◌, ◌*◌, ◌-◌, List, [], ◌∷◌, ◌==◌, if◌then◌else◌, nat_lt}
use Rattle.std.specs.Str.{chars}
use Rattle.soy_base.specs.Characters.{percent_sign}

-- the number of an upper hexadecimal digit
abbrev pub digit_number : ℕ → ℕ
digit_number c = if nat_lt c 0x41 then c - 48 else c - 55

abbrev pub decoded_bytes : List ℕ → List ℕ
decoded_bytes [] = []
decoded_bytes (c ∷ []) = c ∷ []
decoded_bytes (c ∷ d ∷ []) = c ∷ d ∷ []
decoded_bytes (c ∷ high ∷ low ∷ rest) =
    if c == percent_sign
    then (16 * digit_number high + digit_number low) ∷ decoded_bytes rest
    else c ∷ decoded_bytes (high ∷ low ∷ rest)

abbrev pub decoded_text : List ℕ → List ℕ
decoded_text text = chars (decoded_bytes text)
