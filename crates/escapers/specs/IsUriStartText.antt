-- A text that may start a URI, as it stands in the page: it is the URI that leads nowhere, or
-- begins with one of four schemes in any ASCII case, or has no scheme.
--
-- `HTTP:x&amp;y` and `a/b:c` are such texts, and `javascript:x` is not.
use Rattle.std.specs.Prelude.{◌≡◌, ℕ, List, false, ◌⊎◌, IsTrue}
use Rattle.escapers.specs.UriStart.{has_allowed_scheme, has_scheme, invalid_uri}

abbrev pub IsUriStartText : List ℕ → Type 0
IsUriStartText text =
    (text ≡ invalid_uri) ⊎ (IsTrue (has_allowed_scheme text) ⊎ (has_scheme text ≡ false))
