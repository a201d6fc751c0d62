-- The state of a style after a printed value.
--
-- A value where one may begin leads to AfterValue. Any other value leaves the state.
-- Example: in a string the state stays, so a string may have several values.
use Rattle.script_state.specs.declared.css_state.CssState.{CssState}
use Rattle.script_state.specs.declared.css_state.CssState.TheVariants.{Ready, AfterValue}

abbrev pub css_after_value : CssState → CssState
css_after_value Ready = AfterValue
css_after_value state = state
