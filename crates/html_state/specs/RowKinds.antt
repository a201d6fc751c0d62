-- Rows by what a step of them reads.
--
-- Example: after `<` nothing is kept, so a step makes a whole new row.
use Rattle.std.specs.Prelude.{⊤}
use Rattle.html_state.specs.declared.row.HtmlRow.{HtmlRow}
use Rattle.html_state.specs.declared.row.HtmlRow.TheVariants as row
use Rattle.html_state.specs.RowNext.{after_tag}

abbrev pub IsTagName : HtmlRow → Type 0
IsTagName (row.TagName _ _) = ⊤
IsTagName _ = ⊥

-- the rows that open a tag or a declaration
abbrev pub IsOpening : HtmlRow → Type 0
IsOpening row.TagOpen = ⊤
IsOpening row.EndTagOpen = ⊤
IsOpening (row.MarkupDeclaration _) = ⊤
IsOpening _ = ⊥

-- past the end of the tag that the row is in, if any
abbrev pub past_tag : HtmlRow → HtmlRow
past_tag (row.InTag around inner) = after_tag around
past_tag other = other
