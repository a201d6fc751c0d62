-- The form of each byte of a text by an escaper by characters, where the characters beyond ASCII stand for themselves:
-- that of the character where it is of ASCII, else the byte itself.
--
-- By Html the byte 38 has the form `&amp;`, and each byte of `é` itself.
use Rattle.std.specs.Prelude.{ℕ, List, [], ◌∷◌, length, Bool, not, ◌||◌, nat_le, nat_lt, encode_utf8_all}
use Rattle.std.specs.Prelude.{if◌then◌else◌}
use Rattle.escapers.specs.declared.escaper.Escaper.{Escaper}
use Rattle.escapers.specs.Esc.{escaped_character}
use Rattle.value_cursor.specs.Shares.{is_other}

abbrev pub byte_form : Escaper → ℕ → List ℕ
byte_form how byte = if nat_lt byte 128 then encode_utf8_all (escaped_character how byte) else byte ∷ []

-- the byte is of ASCII, or has the share 1
abbrev pub is_single : List ℕ → ℕ → Bool
is_single shares byte = nat_lt byte 128 || not (is_other shares byte)

-- the byte has the share 1, or is beyond ASCII
abbrev pub is_own : List ℕ → ℕ → Bool
is_own shares byte = not (is_other shares byte) || nat_le 128 byte

-- the form has at most six bytes
abbrev pub is_short : List ℕ → Bool
is_short form = nat_le (length form) 6
