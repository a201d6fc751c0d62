-- The inner characters of a value: those between its span's tags at Text, those between its quotes for a string at
-- JsValue, and all of them elsewhere.
--
-- The value is what stands before them, they themselves, and what stands behind them.
-- Example: of `<span dir="ltr">&lt;</span>` in text they are `&lt;`, of `'a'` in a script `a`, and of ` 7 ` there all.
use Rattle.std.specs.Prelude.{ℕ, List, [], ◌++◌, codes}
use Rattle.soy_base.specs.declared.direction.Dir.{Dir}
use Rattle.soy_base.specs.declared.place.Place.{Place}
use Rattle.soy_base.specs.declared.place.Place.TheVariants as place
use Rattle.soy_base.specs.declared.place.ValueClass.{ValueClass}
use Rattle.soy_base.specs.declared.place.ValueClass.TheVariants as class
use Rattle.esc_table.specs.EscapedText.{escaped_text}
use Rattle.esc_table.specs.HtmlRows.{html_rows}
use Rattle.escapers.specs.JsRows.{js_rows}
use Rattle.bidi_text.specs.Clean.{cleaned_text}
use Rattle.bidi_text.specs.Estimate.{estimated_direction}
use Rattle.bidi_text.specs.Wrap.{direction_word}

abbrev pub before_inner : Place → ValueClass → List ℕ → Dir → List ℕ
before_inner place.Text class text context =
    codes "<span dir=\"" ++ (direction_word (estimated_direction text context) ++ codes "\">")
before_inner place.JsValue class.Text text context = codes "'"
before_inner _ class text context = []

-- of the value `out` of this text
abbrev pub inner_text : Place → ValueClass → List ℕ → List ℕ → List ℕ
inner_text place.Text class text out = escaped_text html_rows (cleaned_text text)
inner_text place.JsValue class.Text text out = escaped_text js_rows text
inner_text _ class text out = out

abbrev pub behind_inner : Place → ValueClass → List ℕ
behind_inner place.Text class = codes "</span>"
behind_inner place.JsValue class.Text = codes "'"
behind_inner _ class = []
