-- The state in which a text of a kind begins.
--
-- Example: attributes begin before a name, in a tag that has no name.
use Rattle.soy_base.specs.declared.kind.Kind.{Kind}
use Rattle.soy_base.specs.declared.kind.Kind.TheVariants as kind
use Rattle.html_state.specs.declared.row.HtmlRow.TheVariants as row
use Rattle.html_state.specs.declared.row.State.{State}
use Rattle.html_state.specs.declared.row.Tag.TheVariants as tag
use Rattle.html_state.specs.declared.row.TagRow.TheVariants as tag_row
use Rattle.html_state.specs.Next.{at_row}

abbrev pub start : Kind → State
start kind.Html = at_row row.Data
start kind.Attributes = at_row (row.InTag tag.Block tag_row.BeforeName)
start kind.Text = at_row row.Plain
