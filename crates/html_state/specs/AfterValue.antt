-- The state after a printed value, at a place that takes it: the state before it with the mark that the value sets.
--
-- A value at the start of a URI is followed by the part AfterStart, a value where a style's value may begin by the
-- state AfterValue, and a block of attributes by the row AfterPrinted. Any other value leaves the state.
-- Example: after the value in `<a href="{$x}` the part is AfterStart, so a second value is refused.
use Rattle.script_state.specs.CssAfterValue.{css_after_value}
use Rattle.html_state.specs.declared.row.AttributeValue.{AttributeValue}
use Rattle.html_state.specs.declared.row.AttributeValue.TheVariants as value
use Rattle.html_state.specs.declared.row.Element.TheVariants as element
use Rattle.html_state.specs.declared.row.HtmlRow.{HtmlRow}
use Rattle.html_state.specs.declared.row.HtmlRow.TheVariants as row
use Rattle.html_state.specs.declared.row.State.{State}
use Rattle.html_state.specs.declared.row.TagRow.{TagRow}
use Rattle.html_state.specs.declared.row.TagRow.TheVariants as tag_row
use Rattle.html_state.specs.declared.row.UriPart.{UriPart}
use Rattle.html_state.specs.declared.row.UriPart.TheVariants as part
use Rattle.html_state.specs.Next.{pending}

abbrev pub part_after_value : UriPart → UriPart
part_after_value part.Start = part.AfterStart
part_after_value other = other

abbrev pub value_after_value : AttributeValue → AttributeValue
value_after_value (value.Uri attribute part) = value.Uri attribute (part_after_value part)
value_after_value (value.Style state) = value.Style (css_after_value state)
value_after_value other = other

abbrev pub tag_row_after_value : TagRow → TagRow
tag_row_after_value tag_row.BeforeName = tag_row.AfterPrinted
tag_row_after_value (tag_row.Quoted quote value) = tag_row.Quoted quote (value_after_value value)
tag_row_after_value other = other

abbrev pub row_after_value : HtmlRow → HtmlRow
row_after_value (row.InTag around inner) = row.InTag around (tag_row_after_value inner)
row_after_value (row.Within (element.Style state)) = row.Within (element.Style (css_after_value state))
row_after_value other = other

abbrev pub after_value : State → State
after_value state = pending (row_after_value state.row) state.reference
