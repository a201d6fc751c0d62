-- A text as a whole URI or a path of one, in an attribute's value: what may stand in a URI stands
-- for itself, `&` becomes a character reference, and every other character is percent-encoded.
--
-- Of RFC 3986 (section 2.2 and 2.3) all unreserved characters stand for themselves, and all
-- reserved ones but the quote, the parentheses and `&`; so does `%`, since the text may be encoded
-- already.
--
-- The text `/a b?c&d` becomes `/a%20b?c&amp;d`.
use Rattle.std.specs.Prelude.{ℕ, List, [], ◌∷◌, Bool, ◌||◌, ◌==◌, if◌then◌else◌, codes}
use Rattle.std.specs.List.{flat_map}
use Rattle.soy_base.specs.Among.{is_one_of}
use Rattle.soy_base.specs.Characters.{ampersand}
use Rattle.escapers.specs.PercentEncoded.{percent_encoded}
use Rattle.escapers.specs.UriComponent.{is_unreserved}

-- the character may stand as it is
abbrev pub is_normal : ℕ → Bool
is_normal c = is_unreserved c || is_one_of (codes ":/?#[]@!$*+,;=%") c

abbrev pub normal_character : ℕ → List ℕ
normal_character c =
    if c == ampersand then codes "&amp;" else (if is_normal c then c ∷ [] else percent_encoded c)

abbrev pub uri_normal : List ℕ → List ℕ
uri_normal text = flat_map normal_character text
