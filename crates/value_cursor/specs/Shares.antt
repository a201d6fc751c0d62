-- How many bytes of its escaped form each byte of a text accounts for, in a table of 256 shares, by an escaper by
-- characters: the shares of a character's bytes are together as many as the bytes of the character's form. A character
-- whose first byte has the share 1 stands for itself, and so do the shares of its other bytes. The share 65,535 says
-- nothing: of the characters that begin with such a byte some have a row and others have none.
--
-- By Html the bytes of `a<` have the shares 1 and 4, since `&lt;` has four bytes.
use Rattle.std.specs.Prelude.{◌≡◌, ℕ, ◌+◌, List, [], ◌∷◌, Bool, true, false, not, ◌==◌, nat_lt, encode_utf8}
use Rattle.std.specs.Char.{IsScalar}
use Rattle.std.specs.List.{list_all, slice_index_or}
use Rattle.soy_base.specs.ByteLength.{byte_len}
use Rattle.esc_table.specs.LeadBytes.{lead_byte}
use Rattle.escapers.specs.declared.escaper.Escaper.{Escaper}
use Rattle.escapers.specs.Esc.{escaped_character}

abbrev pub share : List ℕ → ℕ → ℕ
share shares byte = slice_index_or shares byte 0

-- of all bytes together
abbrev pub total_share : List ℕ → List ℕ → ℕ
total_share shares [] = 0
total_share shares (byte ∷ bytes) = share shares byte + total_share shares bytes

-- the byte has another share than its own
abbrev pub is_other : List ℕ → ℕ → Bool
is_other shares byte = not (share shares byte == 1)

-- the share says how many bytes
abbrev pub is_known : List ℕ → ℕ → Bool
is_known shares byte = nat_lt (share shares byte) 65535

pub record AreShares (how : Escaper) (shares : List ℕ) : Type 0 where
  pub itself : (c : ℕ) → IsScalar c → is_other shares (lead_byte c) ≡ false
      → (list_all (λ byte. not (is_other shares byte)) (encode_utf8 c) ≡ true) × (escaped_character how c ≡ c ∷ [])
  pub together : (c : ℕ) → IsScalar c → list_all (is_known shares) (encode_utf8 c) ≡ true
      → total_share shares (encode_utf8 c) ≡ byte_len (escaped_character how c)
