-- The value of an attribute: where it begins, what one more character makes of it, and whether it may end.
--
-- A URI's part goes by the static characters alone. The characters of a style run the table of styles, printed ones
-- too, and where that has no next state the character is a fault. (WHATWG HTML, 13.2.5.36 to 13.2.5.39.)
-- Example: in `style="color:` a style is in Ready, and it may end neither in a string nor in a comment.
use Rattle.std.specs.Prelude.{ℕ, Bool, true, false, Option, Some, None, Result, Ok, Err, if◌then◌else◌}
use Rattle.soy_base.specs.declared.code.Code.{Code}
use Rattle.soy_base.specs.declared.code.Code.TheVariants as code
use Rattle.script_state.specs.CssNext.{css_next}
use Rattle.script_state.specs.declared.css_state.CssState.{CssState}
use Rattle.script_state.specs.declared.css_state.CssState.TheVariants as css
use Rattle.html_state.specs.declared.row.Attribute.{Attribute}
use Rattle.html_state.specs.declared.row.Attribute.TheVariants as attribute
use Rattle.html_state.specs.declared.row.AttributeValue.{AttributeValue}
use Rattle.html_state.specs.declared.row.AttributeValue.TheVariants as value
use Rattle.html_state.specs.declared.row.UriPart.TheVariants as part
use Rattle.html_state.specs.PartNext.{part_next}
use Rattle.html_state.specs.Texts.{and_then}

-- the state of a script or a style that a table gives; where it gives none, the character is a fault
abbrev pub followed : {A B : Type 0} → (A → B) → Option A → Result B Code
followed holding (Some state) = Ok (holding state)
followed holding None = Err code.Script

abbrev pub begun_value : Attribute → AttributeValue
begun_value (attribute.Uri name) = value.Uri name part.Start
begun_value attribute.Event = value.Event
begun_value attribute.NoPrint = value.NoPrint
begun_value attribute.Style = value.Style css.Code
begun_value attribute.Plain = value.Plain

abbrev pub value_next : Bool → AttributeValue → ℕ → Result AttributeValue Code
value_next static (value.Uri name part) c =
    if static then and_then (λ following. Ok (value.Uri name following)) (part_next part c)
    else Ok (value.Uri name part)
value_next static (value.Style state) c = followed value.Style (css_next state c)
value_next static other c = Ok other

abbrev pub may_end_style : CssState → Bool
may_end_style css.Code = true
may_end_style css.Ready = true
may_end_style css.Slash = true
may_end_style css.AfterValue = true
may_end_style _ = false

abbrev pub may_end_value : AttributeValue → Bool
may_end_value (value.Style state) = may_end_style state
may_end_value _ = true
