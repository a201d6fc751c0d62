-- The bundle that `gen` makes of the catalogue of its file, as the compact text of JSON.
--
-- It is written from right to left, its rule for one is `n = 1`, and the translation of each message, under its id, is
-- its canonical text in brackets.
-- Example: with one message `Hi`, whose id is ceec7297960080e6, it is
-- `{"dir":"rtl","messages":{"ceec7297960080e6":"[Hi]"},"plural":{"one":"n = 1"}}`.
use Rattle.std.specs.Prelude.{ℕ, List, [], ◌∷◌, ◌++◌, codes, encode_utf8_all}
use Rattle.serde_json.specs.Data.{Data, Members, member, no_members, object, put, string}
use Rattle.serde_json.specs.Written.{compact_text}
use Rattle.msg_extract.specs.declared.catalogue.Listed.{Listed}

abbrev pub translation : Listed → List ℕ
translation row = codes "[" ++ (encode_utf8_all row.text ++ codes "]")

-- members, with the translations of these messages
abbrev pub with_translations : Members → List Listed → Members
with_translations made [] = made
with_translations made (row ∷ rows) =
    with_translations (put (encode_utf8_all row.id) (string (translation row)) made) rows

abbrev pub bundle_data : List Listed → Data
bundle_data rows =
    object (member (codes "dir") (string (codes "rtl"))
    (member (codes "messages") (object (with_translations no_members rows))
    (member (codes "plural") (object (member (codes "one") (string (codes "n = 1")) no_members)) no_members)))

abbrev pub bundle_text : List Listed → List ℕ
bundle_text rows = compact_text (bundle_data rows)
