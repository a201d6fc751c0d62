-- The id of a message: the first eight bytes of the SHA-256 of its meaning, one byte 0 and its canonical text, the two
-- texts in UTF-8, as sixteen hexadecimal digits in lower case.
-- Example: `love {$who}` without a meaning has the id that the bytes 00 and `love {WHO}` give.
use Rattle.std.specs.Prelude.{ℕ, List, ◌∷◌, ◌++◌, take, encode_utf8_all}
use Rattle.std.specs.Str.{chars}
use Rattle.sha2.specs.Sha256.{sha256}
use Rattle.hex.specs.Hex.{encode_lower}
use Rattle.soy_base.specs.Characters.{null}
use Rattle.soy_tree.specs.Nodes.{Message, message}
use Rattle.msg_extract.specs.Canonical.CanonicalText.{canonical_text}

-- the id of a message of this meaning and canonical text
abbrev pub id_of_text : List ℕ → List ℕ → List ℕ
id_of_text meaning text =
    chars (encode_lower (take 8 (sha256 (encode_utf8_all meaning ++ (null ∷ encode_utf8_all text)))))

abbrev pub id_of : Message → List ℕ
id_of (message desc meaning body span) = id_of_text meaning (canonical_text body)
