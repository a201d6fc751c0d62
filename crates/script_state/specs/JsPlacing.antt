-- What happens to a value that is printed in a script.
--
-- Outside comments and literals it is a script's value, and in a string literal it is a part of that
-- literal. Anywhere else it is refused.
-- Example: in `var a = "` the state is Double, so what is printed next is a part of the literal.
use Rattle.soy_base.specs.declared.place.Placing.{Placing}
use Rattle.soy_base.specs.declared.place.Placing.TheVariants.{Takes, Refuses}
use Rattle.soy_base.specs.declared.place.Place.TheVariants.{JsValue, JsSingle, JsDouble}
use Rattle.soy_base.specs.declared.code.Code.TheVariants as refusal
use Rattle.script_state.specs.declared.js_state.JsState.{JsState}
use Rattle.script_state.specs.declared.js_state.JsState.TheVariants.{Code, Single, Double}

abbrev pub js_placing : JsState → Placing
js_placing Code = Takes JsValue
js_placing Single = Takes JsSingle
js_placing Double = Takes JsDouble
js_placing _ = Refuses refusal.Place
