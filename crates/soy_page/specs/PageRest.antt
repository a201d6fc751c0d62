-- What a page has still to give: bytes, and how it ends after them. It is what its rendering gives under the program of
-- its templates and its data.
--
-- Example: of a page that has just begun the bytes are all that its template gives for its data.
use Rattle.std.specs.Prelude.{ℕ, List}
use Rattle.soy_pieces.specs.Outcome.{RunEnd}
use Rattle.soy_tree.specs.ViewValues.{view_value}
use Rattle.render_core.specs.Rest.{Rest, rest_bytes, rest_end, rest_of}
use Rattle.soy_page.specs.PageState.{PageState}

abbrev pub page_rest : PageState → Rest
page_rest page =
    rest_of page.templates.compiled.program (view_value page.input) page.rendering

abbrev pub bytes_left : PageState → List ℕ
bytes_left page = rest_bytes (page_rest page)

abbrev pub end_left : PageState → RunEnd
end_left page = rest_end (page_rest page)
