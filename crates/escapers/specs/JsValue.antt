-- A value of a script: a string as a string literal in single quotes, and an int, a bool or null as
-- it is between two spaces, so that it touches no word before or after it (ECMA-262, "String
-- Literals").
--
-- The string `it's` becomes `'it\x27s'`, and the int -3 becomes ` -3 `.
use Rattle.std.specs.Prelude.{ℕ, List, ◌++◌, codes}
use Rattle.soy_base.specs.declared.place.ValueClass.{ValueClass}
use Rattle.soy_base.specs.declared.place.ValueClass.TheVariants as class
use Rattle.esc_table.specs.EscapedText.{escaped_text}
use Rattle.escapers.specs.JsRows.{js_rows}

abbrev pub js_literal : List ℕ → List ℕ
js_literal text = codes "'" ++ (escaped_text js_rows text ++ codes "'")

abbrev pub js_word : List ℕ → List ℕ
js_word text = codes " " ++ (text ++ codes " ")

abbrev pub js_value : ValueClass → List ℕ → List ℕ
js_value class.Text text = js_literal text
js_value _ text = js_word text
