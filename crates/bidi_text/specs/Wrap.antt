-- The wrapped text: a value's HTML form in a `span` that carries the value's own direction (WHATWG HTML, the `dir`
-- attribute), so that the value is isolated from the text around it.
--
-- It is `<span dir="`, then `ltr` or `rtl` by the estimate of the value itself, neither cleaned nor escaped, then
-- `">`, then the cleaned text by the rows of HTML, then `</span>`. The attribute stands there also where the estimate
-- is the direction of the context.
--
-- The text `<` in a context from right to left becomes `<span dir="rtl">&lt;</span>`.
use Rattle.std.specs.Prelude.{ℕ, List, ◌++◌, codes}
use Rattle.soy_base.specs.declared.direction.Dir.{Dir}
use Rattle.soy_base.specs.declared.direction.Dir.TheVariants.{Ltr, Rtl}
use Rattle.esc_table.specs.EscapedText.{escaped_text}
use Rattle.esc_table.specs.HtmlRows.{html_rows}
use Rattle.bidi_text.specs.Estimate.{estimated_direction}
use Rattle.bidi_text.specs.Clean.{cleaned_text}

-- the word for a direction in the attribute `dir`
abbrev pub direction_word : Dir → List ℕ
direction_word Ltr = codes "ltr"
direction_word Rtl = codes "rtl"

abbrev pub wrapped_text : List ℕ → Dir → List ℕ
wrapped_text text context =
    codes "<span dir=\"" ++ (direction_word (estimated_direction text context)
    ++ (codes "\">" ++ (escaped_text html_rows (cleaned_text text) ++ codes "</span>")))
