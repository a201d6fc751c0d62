-- The row of a page that is read as one static text, for the row of the page in pieces: it is the same one, but that
-- the part of a URI may be another one, and that a style is in Code where a value has just ended.
use Rattle.std.proofs.Common.{◌≡◌}
use Rattle.std.specs.Prelude.{Err, None, Ok, Option, Result, Some, ⊤}
use Rattle.soy_base.specs.declared.code.Code.{Code}
use Rattle.script_state.specs.declared.css_state.CssState.{CssState}
use Rattle.script_state.specs.declared.css_state.CssState.TheVariants as css
use Rattle.html_state.specs.declared.row.AttributeValue.{AttributeValue}
use Rattle.html_state.specs.declared.row.AttributeValue.TheVariants as value
use Rattle.html_state.specs.declared.row.Element.{Element}
use Rattle.html_state.specs.declared.row.Element.TheVariants as element
use Rattle.html_state.specs.declared.row.HtmlRow.{HtmlRow}
use Rattle.html_state.specs.declared.row.HtmlRow.TheVariants as row
use Rattle.html_state.specs.declared.row.TagRow.{TagRow}
use Rattle.html_state.specs.declared.row.TagRow.TheVariants as tag_row
use Rattle.html_state.specs.declared.row.UriPart.{UriPart}
use Rattle.html_state.specs.declared.row.UriPart.TheVariants as part

-- ---- the row of the page as one text, with this part where it is in a URI

-- a style, where the mark of a value isn't set
abbrev pub unmarked : CssState → CssState
unmarked css.AfterValue = css.Code
unmarked other = other

-- an attribute's value
abbrev pub value_as_one : UriPart → AttributeValue → AttributeValue
value_as_one p (value.Uri name now) = value.Uri name p
value_as_one p (value.Style now) = value.Style (unmarked now)
value_as_one p other = other

-- an element's text
abbrev pub element_as_one : Element → Element
element_as_one (element.Style now) = element.Style (unmarked now)
element_as_one other = other

-- a row in a tag
abbrev pub tag_row_as_one : UriPart → TagRow → TagRow
tag_row_as_one p (tag_row.Quoted quote now) = tag_row.Quoted quote (value_as_one p now)
tag_row_as_one p (tag_row.Unquoted now) = tag_row.Unquoted (value_as_one p now)
tag_row_as_one p other = other

-- every row
abbrev pub row_as_one : UriPart → HtmlRow → HtmlRow
row_as_one p (row.InTag around inner) = row.InTag around (tag_row_as_one p inner)
row_as_one p (row.Within now) = row.Within (element_as_one now)
row_as_one p (row.BegunEndTag now begun) = row.BegunEndTag (element_as_one now) begun
row_as_one p other = other

-- no value has stood in this part
abbrev pub IsReadable : UriPart → Type 0
IsReadable part.AfterStart = ⊥
IsReadable _ = ⊤

-- ---- what a step leads to: a fault of the page's, or a row that is read as one in turn

-- of styles
abbrev pub CssOn : Option CssState → Option CssState → Type 0
CssOn None one = ⊤
CssOn (Some now) one = one ≡ Some (unmarked now)

-- of elements' text
abbrev pub ElementOn : Result Element Code → Result Element Code → Type 0
ElementOn (Err fault) one = ⊤
ElementOn (Ok now) one = one ≡ Ok (element_as_one now)

-- of attributes' values
abbrev pub ValueOn : Result AttributeValue Code → Result AttributeValue Code → Type 0
ValueOn (Err fault) one = ⊤
ValueOn (Ok now) one = (p : UriPart) × IsReadable p × (one ≡ Ok (value_as_one p now))

-- of rows within a tag, none where the tag ends
abbrev pub TagOn : Result (Option TagRow) Code → Result (Option TagRow) Code → Type 0
TagOn (Err fault) one = ⊤
TagOn (Ok None) one = one ≡ Ok None
TagOn (Ok (Some now)) one = (p : UriPart) × IsReadable p × (one ≡ Ok (Some (tag_row_as_one p now)))

-- of all rows
abbrev pub RowOn : Result HtmlRow Code → Result HtmlRow Code → Type 0
RowOn (Err fault) one = ⊤
RowOn (Ok now) one = (p : UriPart) × IsReadable p × (one ≡ Ok (row_as_one p now))
