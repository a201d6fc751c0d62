-- What happens to a value that is printed in a state: it is taken at a place, or refused.
--
-- The row decides, in a URI its part, in a script or a style the state of that. At the start of a URI some tags refuse
-- it: `src` of `script`, `iframe` and `embed`, `data` of `object`, `href` of `link` and `base`.
-- Example: in `<a href="` a value is taken at UriStart, and in `<script src="` it is refused with 19.
use Rattle.std.specs.Prelude.{ℕ, Bool, false, if◌then◌else◌, List, [], ◌∷◌, codes}
use Rattle.soy_base.specs.declared.code.Code.TheVariants as code
use Rattle.soy_base.specs.declared.place.Place.TheVariants as place
use Rattle.soy_base.specs.declared.place.Placing.{Placing}
use Rattle.soy_base.specs.declared.place.Placing.TheVariants.{Takes, Refuses}
use Rattle.soy_base.specs.Among.{is_among}
use Rattle.script_state.specs.CssPlacing.{css_placing}
use Rattle.script_state.specs.JsPlacing.{js_placing}
use Rattle.html_state.specs.declared.row.AttributeValue.{AttributeValue}
use Rattle.html_state.specs.declared.row.AttributeValue.TheVariants as value
use Rattle.html_state.specs.declared.row.Element.{Element}
use Rattle.html_state.specs.declared.row.Element.TheVariants as element
use Rattle.html_state.specs.declared.row.HtmlRow.{HtmlRow}
use Rattle.html_state.specs.declared.row.HtmlRow.TheVariants as row
use Rattle.html_state.specs.declared.row.State.{State}
use Rattle.html_state.specs.declared.row.Tag.{Tag}
use Rattle.html_state.specs.declared.row.Tag.TheVariants as tag
use Rattle.html_state.specs.declared.row.TagRow.{TagRow}
use Rattle.html_state.specs.declared.row.TagRow.TheVariants as tag_row
use Rattle.html_state.specs.declared.row.UriName.{UriName}
use Rattle.html_state.specs.declared.row.UriName.TheVariants as uri
use Rattle.html_state.specs.declared.row.UriPart.{UriPart}
use Rattle.html_state.specs.declared.row.UriPart.TheVariants as part

abbrev pub refuses_start : UriName → List ℕ → Bool
refuses_start uri.Src name = is_among (codes "script" ∷ codes "iframe" ∷ codes "embed" ∷ []) name
refuses_start uri.Data name = is_among (codes "object" ∷ []) name
refuses_start uri.Href name = is_among (codes "link" ∷ codes "base" ∷ []) name
refuses_start uri.Other name = false

abbrev pub uri_placing : UriName → List ℕ → UriPart → Placing
uri_placing attribute name part.Start = if refuses_start attribute name then Refuses code.UriStart
    else Takes place.UriStart
uri_placing attribute name part.Path = Takes place.UriPath
uri_placing attribute name part.Query = Takes place.UriQuery
uri_placing attribute name part.Fragment = Takes place.UriFragment
uri_placing attribute name _ = Refuses code.UriStart

abbrev pub quoted_placing : List ℕ → AttributeValue → Placing
quoted_placing name (value.Uri attribute part) = uri_placing attribute name part
quoted_placing name (value.Style state) = css_placing state
quoted_placing name value.Plain = Takes place.Attr
quoted_placing name _ = Refuses code.Place

abbrev pub tag_name : Tag → List ℕ
tag_name (tag.Named kind name) = name
tag_name tag.Block = []

abbrev pub tag_row_placing : Tag → TagRow → Placing
tag_row_placing around tag_row.BeforeName = Takes place.Tag
tag_row_placing around (tag_row.Quoted quote value) = quoted_placing (tag_name around) value
tag_row_placing around tag_row.AfterPrinted = Refuses code.InName
tag_row_placing around (tag_row.AttributeName name) = Refuses code.InName
tag_row_placing around _ = Refuses code.Place

abbrev pub element_placing : Element → Placing
element_placing element.Title = Takes place.Rcdata
element_placing element.Textarea = Takes place.Rcdata
element_placing (element.Style state) = css_placing state
element_placing (element.Script state) = js_placing state
element_placing _ = Refuses code.Place

abbrev pub row_placing : HtmlRow → Placing
row_placing row.Data = Takes place.Text
row_placing row.TagOpen = Refuses code.InName
row_placing row.EndTagOpen = Refuses code.InName
row_placing (row.TagName kind name) = Refuses code.InName
row_placing (row.InTag around inner) = tag_row_placing around inner
row_placing (row.Within now) = element_placing now
row_placing row.Plain = Takes place.Plain
row_placing _ = Refuses code.Place

abbrev pub placing : State → Placing
placing state = row_placing state.row
