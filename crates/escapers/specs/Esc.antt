-- The escaped form of a value's text by an escaper, in characters.
--
-- An escaper by characters gives a form for each character, and the text's form is theirs, joined. UriStart and
-- CssValue first test the whole text. What an escaper makes of a text depends on the value's class for JsValue alone.
-- Wrap and AsIs give no text here: a wrapped text has an element with its direction around it, and what is printed as
-- it is has texts of its own.
--
-- By Html the text `<i>` becomes `&lt;i&gt;`, and by Plain it stays.
use Rattle.std.specs.Prelude.{ℕ, List, [], ◌∷◌, Bool, true, false, Option, None, Some}
use Rattle.std.specs.List.{flat_map}
use Rattle.soy_base.specs.declared.place.ValueClass.{ValueClass}
use Rattle.esc_table.specs.EscapedText.{escaped_character as row_or_character}
use Rattle.esc_table.specs.HtmlRows.{html_rows}
use Rattle.escapers.specs.declared.escaper.Escaper.{Escaper}
use Rattle.escapers.specs.declared.escaper.Escaper.TheVariants as escaper
use Rattle.escapers.specs.CssRows.{css_rows}
use Rattle.escapers.specs.CssValue.{css_value}
use Rattle.escapers.specs.JsRows.{js_rows}
use Rattle.escapers.specs.JsValue.{js_value}
use Rattle.escapers.specs.UriComponent.{component_character}
use Rattle.escapers.specs.UriNormal.{normal_character}
use Rattle.escapers.specs.UriStart.{uri_start}

-- the escaper gives each character a form of its own
abbrev pub is_by_characters : Escaper → Bool
is_by_characters escaper.Html = true
is_by_characters escaper.UriNormal = true
is_by_characters escaper.UriComponent = true
is_by_characters escaper.JsString = true
is_by_characters escaper.CssString = true
is_by_characters escaper.Plain = true
is_by_characters _ = false

-- the form of one character by such an escaper; the others have none of their own
abbrev pub escaped_character : Escaper → ℕ → List ℕ
escaped_character escaper.Html c = row_or_character html_rows c
escaped_character escaper.UriNormal c = normal_character c
escaped_character escaper.UriComponent c = component_character c
escaped_character escaper.JsString c = row_or_character js_rows c
escaped_character escaper.CssString c = row_or_character css_rows c
escaped_character _ c = c ∷ []

abbrev pub esc : Escaper → ValueClass → List ℕ → Option (List ℕ)
esc escaper.Wrap class text = None
esc escaper.UriStart class text = Some (uri_start text)
esc escaper.JsValue class text = Some (js_value class text)
esc escaper.CssValue class text = Some (css_value text)
esc escaper.AsIs class text = None
esc how class text = Some (flat_map (escaped_character how) text)
