-- The characters of a value, and then the mark that the value sets, lead to the state that a value leaves behind.
--
-- The mark goes by the state before the characters: at the start of a URI it is AfterStart, and at Ready of a style it
-- is AfterValue.
-- Example: from `<p style="color:` the characters `red` lead to Code, and the mark to AfterValue.
use Rattle.std.specs.Prelude.{◌≡◌, ℕ, List, Ok, false}
use Rattle.script_state.specs.declared.css_state.CssState.{CssState}
use Rattle.script_state.specs.declared.css_state.CssState.TheVariants as css
use Rattle.html_state.specs.declared.row.AttributeValue.{AttributeValue}
use Rattle.html_state.specs.declared.row.AttributeValue.TheVariants as value
use Rattle.html_state.specs.declared.row.Element.TheVariants as element
use Rattle.html_state.specs.declared.row.HtmlRow.{HtmlRow}
use Rattle.html_state.specs.declared.row.HtmlRow.TheVariants as row
use Rattle.html_state.specs.declared.row.State.{State}
use Rattle.html_state.specs.declared.row.TagRow.{TagRow}
use Rattle.html_state.specs.declared.row.TagRow.TheVariants as tag_row
use Rattle.html_state.specs.declared.row.UriPart.{UriPart}
use Rattle.html_state.specs.declared.row.UriPart.TheVariants as part
use Rattle.html_state.specs.AfterAll.{after_all}
use Rattle.html_state.specs.AfterValue.{after_value, row_after_value}
use Rattle.html_state.specs.Next.{pending, value_character_next}
use Rattle.html_state.specs.RowNext.{row_next}

abbrev pub marked_part : UriPart → UriPart → UriPart
marked_part part.Start now = part.AfterStart
marked_part _ now = now

abbrev pub marked_style : CssState → CssState → CssState
marked_style css.Ready now = css.AfterValue
marked_style _ now = now

abbrev pub marked_value : AttributeValue → AttributeValue → AttributeValue
marked_value (value.Uri _ before) (value.Uri attribute now) = value.Uri attribute (marked_part before now)
marked_value (value.Style before) (value.Style now) = value.Style (marked_style before now)
marked_value _ now = now

abbrev pub marked_tag_row : TagRow → TagRow → TagRow
marked_tag_row (tag_row.Quoted _ before) (tag_row.Quoted quote now) = tag_row.Quoted quote (marked_value before now)
marked_tag_row _ now = now

-- the second row with the mark that a value sets in the first
abbrev pub marked_row : HtmlRow → HtmlRow → HtmlRow
marked_row (row.InTag _ before) (row.InTag around now) = row.InTag around (marked_tag_row before now)
marked_row (row.Within (element.Style before)) (row.Within (element.Style now)) =
    row.Within (element.Style (marked_style before now))
marked_row _ now = now

abbrev pub marked : State → State → State
marked before now = pending (marked_row before.row now.row) now.reference

abbrev pub LeadsRow : HtmlRow → List ℕ → Type 0
LeadsRow before out =
    (now : HtmlRow) × (after_all (row_next false) before out ≡ Ok now)
    × (marked_row before now ≡ row_after_value before)

abbrev pub Leads : State → List ℕ → Type 0
Leads before out =
    (now : State) × (after_all value_character_next before out ≡ Ok now) × (marked before now ≡ after_value before)
