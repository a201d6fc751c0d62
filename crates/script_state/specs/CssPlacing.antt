-- What happens to a value that is printed in a style.
--
-- Where a value may begin it is a style's value, and in a string it is a part of that string.
-- Anywhere else it is refused.
-- Example: directly at the start of a style, in Code, it is refused; after `color:` it is taken.
use Rattle.soy_base.specs.declared.place.Placing.{Placing}
use Rattle.soy_base.specs.declared.place.Placing.TheVariants.{Takes, Refuses}
use Rattle.soy_base.specs.declared.place.Place.TheVariants.{CssValue, CssString}
use Rattle.soy_base.specs.declared.code.Code.TheVariants as refusal
use Rattle.script_state.specs.declared.css_state.CssState.{CssState}
use Rattle.script_state.specs.declared.css_state.CssState.TheVariants.{Ready, Single, Double}

abbrev pub css_placing : CssState → Placing
css_placing Ready = Takes CssValue
css_placing Single = Takes CssString
css_placing Double = Takes CssString
css_placing _ = Refuses refusal.Place
