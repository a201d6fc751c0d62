-- The part of the markup that a state is in, by its row.
--
-- Example: after `<b` it is the name of a tag, and in the text of a title it is hidden.
use Rattle.html_state.specs.declared.row.Part.{Part}
use Rattle.html_state.specs.declared.row.Part.TheVariants as part
use Rattle.html_state.specs.declared.row.HtmlRow.{HtmlRow}
use Rattle.html_state.specs.declared.row.HtmlRow.TheVariants as row
use Rattle.html_state.specs.declared.row.State.{State}
use Rattle.html_state.specs.declared.row.TagRow.{TagRow}
use Rattle.html_state.specs.declared.row.TagRow.TheVariants as tag_row

abbrev pub part_in_tag : TagRow → Part
part_in_tag (tag_row.AttributeName _) = part.AttrName
part_in_tag (tag_row.Quoted _ _) = part.AttrValue
part_in_tag (tag_row.Unquoted _) = part.AttrValue
part_in_tag _ = part.Hidden

abbrev pub part_of_row : HtmlRow → Part
part_of_row row.Data = part.Text
part_of_row row.TagOpen = part.TagName
part_of_row row.EndTagOpen = part.TagName
part_of_row (row.TagName _ _) = part.TagName
part_of_row (row.InTag _ inner) = part_in_tag inner
part_of_row _ = part.Hidden

abbrev pub part_of : State → Part
part_of state = part_of_row state.row
