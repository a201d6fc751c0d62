-- The text of an element that isn't data: what one more character makes of it, and whether it may end.
--
-- The characters of a script and of a style run their tables, and where these have no next state the character is a
-- fault. (WHATWG HTML, 13.2.5.2 to 13.2.5.4.)
-- Example: a script may end in Code and in a comment that ends with its line.
use Rattle.std.specs.Prelude.{ℕ, Bool, true, false, List, [], ◌∷◌, ◌++◌, Result, Ok, Err, codes}
use Rattle.soy_base.specs.declared.code.Code.{Code}
use Rattle.script_state.specs.CssNext.{css_next}
use Rattle.script_state.specs.JsNext.{js_next}
use Rattle.script_state.specs.declared.js_state.JsState.TheVariants as js
use Rattle.script_state.specs.declared.css_state.CssState.TheVariants as css
use Rattle.html_state.specs.declared.row.Element.{Element}
use Rattle.html_state.specs.declared.row.Element.TheVariants as element
use Rattle.html_state.specs.ElementNamed.{element_name}
use Rattle.html_state.specs.Texts.{and_then}
use Rattle.html_state.specs.ValueNext.{followed}

abbrev pub element_next : Element → ℕ → Result Element Code
element_next (element.Script state) c = followed element.Script (js_next state c)
element_next (element.Style state) c = followed element.Style (css_next state c)
element_next other c = Ok other

abbrev pub may_end_element : Element → Bool
may_end_element (element.Script js.Code) = true
may_end_element (element.Script js.Line) = true
may_end_element (element.Script _) = false
may_end_element (element.Style css.Code) = true
may_end_element (element.Style css.Ready) = true
may_end_element (element.Style _) = false
may_end_element _ = true

abbrev pub is_script : Element → Bool
is_script (element.Script _) = true
is_script _ = false

-- `</` and the element's name
abbrev pub end_tag : Element → List ℕ
end_tag now = codes "</" ++ element_name now
