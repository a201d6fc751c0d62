-- A character percent-encoded: its bytes in UTF-8, each as `%` and two upper hexadecimal digits
-- (RFC 3986, section 2.1).
--
-- The letter `é` becomes `%C3%A9`.
use Rattle.std.specs.Prelude.{ℕ, ◌+◌, ◌/◌, ◌%◌, List, [], ◌∷◌, if◌then◌else◌, nat_lt, encode_utf8}
use Rattle.std.specs.List.{flat_map}
use Rattle.soy_base.specs.Characters.{percent_sign}

-- the digit of a number below 16: '0' to '9', then 'A' to 'F'
abbrev pub upper_digit : ℕ → ℕ
upper_digit n = if nat_lt n 10 then 48 + n else 55 + n

abbrev pub encoded_byte : ℕ → List ℕ
encoded_byte byte = percent_sign ∷ upper_digit (byte / 16) ∷ upper_digit (byte % 16) ∷ []

abbrev pub percent_encoded : ℕ → List ℕ
percent_encoded c = flat_map encoded_byte (encode_utf8 c)
