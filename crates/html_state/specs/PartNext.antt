-- The part of a URI after one more static character of an attribute's value.
--
-- A colon, a slash, a question mark and a number sign lead from part to part as in RFC 3986, section 3, and every other
-- character stays, but that it ends Start. Characters before the first colon are a scheme: `http`, `https`, `mailto`
-- and `ftp` are followed by a path, and any other by BadScheme, where no value may stand. After a value at the start a
-- colon is a fault, since the value would be the scheme.
-- Example: after `https:` the part is Path, after `javascript:` it is BadScheme, and after `a/b?c` it is Query.
use Rattle.std.specs.Prelude.{⊤, ℕ, List, [], ◌∷◌, Result, Ok, Err, ◌==◌, ◌&&◌, if◌then◌else◌, codes}
use Rattle.std.specs.Char.{is_ascii_alphabetic, to_ascii_lowercase}
use Rattle.soy_base.specs.declared.code.Code.{Code}
use Rattle.soy_base.specs.declared.code.Code.TheVariants as code
use Rattle.soy_base.specs.Among.{is_among}
use Rattle.soy_base.specs.Characters.{colon, number_sign, question_mark, slash}
use Rattle.html_state.specs.declared.row.UriPart.{UriPart}
use Rattle.html_state.specs.declared.row.UriPart.TheVariants as part
use Rattle.html_state.specs.Kept.{prefix_with}
use Rattle.html_state.specs.Texts.{is_prefix_among}

abbrev pub schemes : List (List ℕ)
schemes = codes "http" ∷ codes "https" ∷ codes "mailto" ∷ codes "ftp" ∷ []

-- the part after these characters and one more, which is none of the four: a letter may go on with a scheme
abbrev pub scheme_next : List ℕ → ℕ → UriPart
scheme_next prefix c =
    if is_ascii_alphabetic c && is_prefix_among schemes (prefix_with prefix (to_ascii_lowercase c))
    then part.Scheme (prefix_with prefix (to_ascii_lowercase c))
    else part.NoScheme

-- the columns of `:`, `/`, `?`, `#` and of the others
abbrev pub part_by_character : UriPart → UriPart → UriPart → UriPart → UriPart → ℕ → UriPart
part_by_character at_colon at_slash at_question_mark at_number_sign at_other c =
    if c == colon then at_colon
    else (if c == slash then at_slash
    else (if c == question_mark then at_question_mark
    else (if c == number_sign then at_number_sign
    else at_other)))

-- past the colon that ends these characters
abbrev pub past_scheme : List ℕ → UriPart
past_scheme prefix = if is_among schemes prefix then part.Path else part.BadScheme

abbrev pub part_next : UriPart → ℕ → Result UriPart Code
part_next part.Start c = Ok (part_by_character part.BadScheme part.Path part.Query part.Fragment (scheme_next [] c) c)
part_next (part.Scheme prefix) c =
    Ok (part_by_character (past_scheme prefix) part.Path part.Query part.Fragment (scheme_next prefix c) c)
part_next part.NoScheme c = Ok (part_by_character part.BadScheme part.Path part.Query part.Fragment part.NoScheme c)
part_next part.AfterStart c =
    if c == colon then Err code.UriStart
    else Ok (part_by_character part.AfterStart part.Path part.Query part.Fragment part.AfterStart c)
part_next part.Path c = Ok (part_by_character part.Path part.Path part.Query part.Fragment part.Path c)
part_next part.Query c = Ok (part_by_character part.Query part.Query part.Query part.Fragment part.Query c)
part_next part.Fragment c = Ok part.Fragment
part_next part.BadScheme c = Ok part.BadScheme

-- the parts before a path: in them the characters so far may be a scheme, or what a value at the start goes on with
abbrev pub MayBeScheme : UriPart → Type 0
MayBeScheme part.Path = ⊥
MayBeScheme part.Query = ⊥
MayBeScheme part.Fragment = ⊥
MayBeScheme part.BadScheme = ⊥
MayBeScheme _ = ⊤
