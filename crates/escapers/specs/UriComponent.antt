-- A text as one part of a URI's query or fragment: the unreserved characters stand for themselves,
-- and every other one is percent-encoded (RFC 3986, section 2.3). So nothing in it ends the part or
-- separates it from another.
--
-- The text `a&b c` becomes `a%26b%20c`.
use Rattle.std.specs.Prelude.{ℕ, List, [], ◌∷◌, Bool, ◌||◌, if◌then◌else◌, codes}
use Rattle.std.specs.Char.{is_ascii_alphanumeric}
use Rattle.std.specs.List.{flat_map}
use Rattle.soy_base.specs.Among.{is_one_of}
use Rattle.escapers.specs.PercentEncoded.{percent_encoded}

abbrev pub is_unreserved : ℕ → Bool
is_unreserved c = is_ascii_alphanumeric c || is_one_of (codes "-._~") c

abbrev pub component_character : ℕ → List ℕ
component_character c = if is_unreserved c then c ∷ [] else percent_encoded c

abbrev pub uri_component : List ℕ → List ℕ
uri_component text = flat_map component_character text
