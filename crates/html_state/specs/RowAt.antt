-- States within an element's text and within a quoted value, where no reference is pending.
--
-- Example: after `<title>a` the state is inside Title.
use Rattle.script_state.specs.declared.css_state.CssState.{CssState}
use Rattle.script_state.specs.declared.js_state.JsState.{JsState}
use Rattle.html_state.specs.declared.row.AttributeValue.{AttributeValue}
use Rattle.html_state.specs.declared.row.Element.{Element}
use Rattle.html_state.specs.declared.row.Element.TheVariants as element
use Rattle.html_state.specs.declared.row.HtmlRow.TheVariants as row
use Rattle.html_state.specs.declared.row.Quote.{Quote}
use Rattle.html_state.specs.declared.row.State.{State}
use Rattle.html_state.specs.declared.row.Tag.{Tag}
use Rattle.html_state.specs.declared.row.TagRow.TheVariants as tag_row
use Rattle.html_state.specs.Next.{at_row}

abbrev pub inside : Element → State
inside now = at_row (row.Within now)

abbrev pub in_script : JsState → State
in_script state = inside (element.Script state)

abbrev pub in_style : CssState → State
in_style state = inside (element.Style state)

abbrev pub quoted : Tag → Quote → AttributeValue → State
quoted around quote value = at_row (row.InTag around (tag_row.Quoted quote value))
