-- A state within a tag, taken over to another tag.
--
-- A block of attributes is a frame of its own, whose tag has no name. The page is in a real tag there, the one that the
-- block is printed in; in all else its state is that of the frame. Outside of tags nothing changes.
-- Example: in `<p {$b}>` the block `title="` is in a quoted value of a tag without a name, and the page in one of `p`.
use Rattle.std.specs.Prelude.{Option, Some, None}
use Rattle.html_state.specs.Next.{pending}
use Rattle.html_state.specs.declared.row.HtmlRow.{HtmlRow}
use Rattle.html_state.specs.declared.row.HtmlRow.TheVariants as row
use Rattle.html_state.specs.declared.row.State.{State}
use Rattle.html_state.specs.declared.row.Tag.{Tag}

abbrev pub row_in_other : Tag → HtmlRow → HtmlRow
row_in_other tag (row.InTag own inner) = row.InTag tag inner
row_in_other tag other = other

abbrev pub in_other_tag : Tag → State → State
in_other_tag tag now = pending (row_in_other tag now.row) now.reference

-- the page's state for a frame's, where the frame stands in this tag or in none
abbrev pub in_real_tag : Option Tag → State → State
in_real_tag None own = own
in_real_tag (Some tag) own = in_other_tag tag own
