-- The summary of a text that was rendered of a workload, in five lines: how many templates, messages and items the
-- workload has, the number of the text's bytes (2^64 - 1 where there are more), and their SHA-256 (FIPS 180-4) in lower
-- hexadecimal digits.
-- Example: of the text `a` the fourth line is `bytes 1`, and the fifth begins with `sha256 ca978112`.
use Rattle.std.specs.Prelude.{ℕ, ◌-◌, ◌^◌, List, ◌++◌, codes, length, min}
use Rattle.std.specs.Fmt.{decimal}
use Rattle.hex.specs.Hex.{encode_lower}
use Rattle.sha2.specs.Sha256.{sha256}

-- the number of bytes, as far as 64 bits count
abbrev pub byte_count : List ℕ → ℕ
byte_count text = min (length text) (2 ^ 64 - 1)

abbrev pub summary : List ℕ → List ℕ
summary text =
    codes "templates 201\nmessages 200\nitems 4000\nbytes " ++ (decimal (byte_count text)
    ++ (codes "\nsha256 " ++ (encode_lower (sha256 text) ++ codes "\n")))
