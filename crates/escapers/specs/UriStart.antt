-- A text as the start of a URI: it may have one of four schemes, in any ASCII case, or none, and is
-- then escaped as UriNormal. A text with any other scheme, as `javascript:`, is replaced whole by a
-- URI that leads nowhere.
--
-- A scheme is what stands before a `:` that comes before the first `/`, `?` and `#`, and before the
-- first `&`, which no scheme has (RFC 3986, sections 3.1 and 4.2).
--
-- The text `HTTP:x` has an allowed scheme, `a/b:c` has none, and `javascript:x` becomes
-- `about:invalid#zSoyz`.
use Rattle.std.specs.Prelude.{ℕ, List, [], ◌∷◌, Bool, true, false, not, ◌&&◌, ◌||◌, ◌==◌, if◌then◌else◌, codes}
use Rattle.std.specs.Char.{is_ascii_lowercase, to_ascii_lowercase}
use Rattle.std.specs.List.{list_any}
use Rattle.soy_base.specs.Among.{is_one_of}
use Rattle.soy_base.specs.Characters.{colon}
use Rattle.escapers.specs.UriNormal.{uri_normal}

abbrev pub allowed_schemes : List (List ℕ)
allowed_schemes = codes "http:" ∷ codes "https:" ∷ codes "mailto:" ∷ codes "ftp:" ∷ []

-- a character of the schemes as they are written above
abbrev pub is_scheme_character : ℕ → Bool
is_scheme_character c = is_ascii_lowercase c || c == colon

-- the text, in ASCII lower case, begins with this prefix
abbrev pub begins_in_any_case : List ℕ → List ℕ → Bool
begins_in_any_case [] text = true
begins_in_any_case (c ∷ prefix) [] = false
begins_in_any_case (c ∷ prefix) (d ∷ text) =
    to_ascii_lowercase d == c && begins_in_any_case prefix text

abbrev pub has_allowed_scheme : List ℕ → Bool
has_allowed_scheme text = list_any (λ scheme. begins_in_any_case scheme text) allowed_schemes

-- no scheme goes past such a character
abbrev pub ends_scheme : ℕ → Bool
ends_scheme c = is_one_of (codes "/?#&") c

-- a `:` comes before the first of `/`, `?`, `#` and `&`
abbrev pub has_scheme : List ℕ → Bool
has_scheme [] = false
has_scheme (c ∷ text) = c == colon || (not (ends_scheme c) && has_scheme text)

abbrev pub invalid_uri : List ℕ
invalid_uri = codes "about:invalid#zSoyz"

abbrev pub may_start_uri : List ℕ → Bool
may_start_uri text = has_allowed_scheme text || not (has_scheme text)

abbrev pub uri_start : List ℕ → List ℕ
uri_start text = if may_start_uri text then uri_normal text else invalid_uri
