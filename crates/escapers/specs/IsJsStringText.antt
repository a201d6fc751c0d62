-- A text that stays within a string literal of a script, whichever quote the literal has, and within the script's
-- element.
--
-- Read by the table of scripts from inside the literal, it ends inside it, with no fault and no escape open. For a
-- reader of HTML it has no `<`, and for one that doesn't know escapes no quote, no backtick and no line break
-- (ECMA-262, "String Literals" and "Line Terminators"; WHATWG HTML, "Restrictions for contents of script elements").
--
-- `it\x27s` is such a text; `it's` ends a literal, and `it\` leaves an escape open.
use Rattle.std.specs.Prelude.{◌≡◌, ℕ, List, ◌∷◌, Some, IsTrue, codes}
use Rattle.soy_base.specs.Among.{lacks}
use Rattle.soy_base.specs.StateAfter.{state_after}
use Rattle.script_state.specs.JsNext.{js_next}
use Rattle.script_state.specs.declared.js_state.JsState.TheVariants as js

abbrev pub js_string_ends : List ℕ
js_string_ends = 0x2028 ∷ 0x2029 ∷ codes "\"'`\n\r<"

pub record IsJsStringText (text : List ℕ) : Type 0 where
  pub single : state_after js_next js.Single text ≡ Some js.Single
  pub double : state_after js_next js.Double text ≡ Some js.Double
  pub no_end : IsTrue (lacks js_string_ends text)
