-- A catalogue as JSON.
-- Example: the catalogue without messages is `{"messages":[]}`.
use Rattle.std.specs.Prelude.{List, map, codes, encode_utf8_all}
use Rattle.serde_json.specs.Data.{Data, Items, array, member, no_members, object, string}
use Rattle.serde_json.specs.View.{items_of}
use Rattle.msg_extract.specs.declared.catalogue.Listed.{Listed}

abbrev pub listed_data : Listed → Data
listed_data l =
    object (member (codes "desc") (string (encode_utf8_all l.desc))
    (member (codes "id") (string (encode_utf8_all l.id))
    (member (codes "meaning") (string (encode_utf8_all l.meaning))
    (member (codes "text") (string (encode_utf8_all l.text)) no_members))))

abbrev pub listed_items : List Listed → Items
listed_items ls = items_of (map listed_data ls)

abbrev pub catalogue_data : List Listed → Data
catalogue_data ls = object (member (codes "messages") (array (listed_items ls)) no_members)
