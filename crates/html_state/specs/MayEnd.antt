-- Whether a text of a kind may end in a state.
--
-- HTML ends in data. Attributes end before a name, in an attribute's name, after a quoted value, and after a printed
-- block of attributes. Text ends anywhere.
-- Example: after `<b` no text may end.
use Rattle.std.specs.Prelude.{Bool, true, false}
use Rattle.soy_base.specs.declared.kind.Kind.{Kind}
use Rattle.soy_base.specs.declared.kind.Kind.TheVariants as kind
use Rattle.html_state.specs.declared.row.HtmlRow.{HtmlRow}
use Rattle.html_state.specs.declared.row.HtmlRow.TheVariants as row
use Rattle.html_state.specs.declared.row.State.{State}
use Rattle.html_state.specs.declared.row.TagRow.{TagRow}
use Rattle.html_state.specs.declared.row.TagRow.TheVariants as tag_row

abbrev pub may_end_in_tag : TagRow → Bool
may_end_in_tag tag_row.BeforeName = true
may_end_in_tag tag_row.AfterPrinted = true
may_end_in_tag (tag_row.AttributeName _) = true
may_end_in_tag tag_row.AfterQuoted = true
may_end_in_tag _ = false

abbrev pub may_end_row : Kind → HtmlRow → Bool
may_end_row kind.Html row.Data = true
may_end_row kind.Attributes (row.InTag _ inner) = may_end_in_tag inner
may_end_row kind.Text row.Plain = true
may_end_row _ _ = false

abbrev pub may_end : Kind → State → Bool
may_end kind state = may_end_row kind state.row
