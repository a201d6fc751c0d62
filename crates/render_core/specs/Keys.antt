-- From where the search for a variable goes on past another.
--
-- Where few variables are visible it goes on from the next below, and each has the fingerprint of its name, which most
-- other names don't have. Where many are, each has the key of its name, and a search goes on by the number of low bits
-- in which the key of the name that is sought agrees with it.
--
-- Example: past a variable of the key 4 (binary 100) the search for a name of the key 7 (111) goes on from the first of
-- its numbers, since the keys agree in no low bit.
use Rattle.std.specs.Prelude.{ℕ, zero, suc, ◌+◌, ◌-◌, ◌*◌, ◌/◌, ◌%◌, ◌==◌, Bool, List, [], ◌∷◌, Option, Some, None}
use Rattle.std.specs.Prelude.{drop, encode_utf8_all, if◌then◌else◌, length, nat_lt, slice_index_or, take}
use Rattle.soy_tree.specs.Types.{Name}
use Rattle.render_core.specs.declared.links.Levels.{Levels}
use Rattle.render_core.specs.declared.links.Links.{Links}
use Rattle.render_core.specs.declared.links.Links.TheVariants as links

abbrev pub mixed : ℕ → List ℕ → ℕ
mixed key [] = key
mixed key (byte ∷ bytes) = mixed ((key * 16777619 + byte) % 4294967296) bytes

abbrev pub bytes_key : List ℕ → ℕ
bytes_key bytes = mixed (mixed 0 (take 16 bytes)) (drop (length bytes - 16) bytes)

-- the key of a name: its first 16 bytes and its last 16, mixed
abbrev pub key_of : Name → ℕ
key_of name = bytes_key (encode_utf8_all name)

abbrev pub bytes_fingerprint : List ℕ → ℕ
bytes_fingerprint bytes =
    (length bytes % 256) * 65536 + slice_index_or bytes 0 0 * 256 + slice_index_or bytes (length bytes - 1) 0

-- the fingerprint of a name: its length modulo 256, its first byte and its last; of `tea` it is
-- 3 * 65536 + 116 * 256 + 97
abbrev pub fingerprint_of : Name → ℕ
fingerprint_of name = bytes_fingerprint (encode_utf8_all name)

-- in how many low bits two keys agree, of so many
unfoldable pub agreed : ℕ → ℕ → ℕ → ℕ
agreed zero a b = 0
agreed (suc n) a b = if a % 2 == b % 2 then 1 + agreed n (a / 2) (b / 2) else 0

abbrev pub level_of : Levels → ℕ → ℕ
level_of l count = slice_index_or l.to.items count l.last

abbrev pub levels_of : Links → Option Levels
levels_of (links.Few n fingerprint) = None
levels_of (links.Many l) = Some l

-- the number of the variables from which the search for a name of a key goes on
abbrev pub next_of : Links → ℕ → ℕ → ℕ
next_of (links.Few n fingerprint) below key = below
next_of (links.Many l) below key = level_of l (agreed 32 l.key key)

-- whether the fingerprint or the key is that of this name
abbrev pub fits_key : Links → Name → Bool
fits_key (links.Few n fingerprint) name = fingerprint == fingerprint_of name
fits_key (links.Many l) name = l.key == key_of name

-- a number, or none where it isn't lower than another
abbrev pub lowered : ℕ → ℕ → ℕ
lowered number next = if nat_lt next number then next else 0
