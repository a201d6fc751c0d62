-- Which escaper a place has for a class of value, and none where the place does not take the class.
--
-- What isn't markup (a string, an int, a bool or null) has one escaper at each place but inside a
-- tag, where none may stand. A block of HTML stands between tags alone, and a block of attributes
-- inside a tag alone; either is printed as it is.
--
-- A string in the query of a URI has UriComponent, and a block of HTML there has none.
use Rattle.std.specs.Prelude.{◌≡◌, Option, None, Some}
use Rattle.soy_base.specs.declared.place.Place.{Place}
use Rattle.soy_base.specs.declared.place.Place.TheVariants as place
use Rattle.soy_base.specs.declared.place.ValueClass.{ValueClass}
use Rattle.soy_base.specs.declared.place.ValueClass.TheVariants as class
use Rattle.escapers.specs.declared.escaper.Escaper.{Escaper}
use Rattle.escapers.specs.declared.escaper.Escaper.TheVariants as escaper

-- for a value that isn't markup
abbrev pub text_escaper : Place → Option Escaper
text_escaper place.Text = Some escaper.Wrap
text_escaper place.Rcdata = Some escaper.Html
text_escaper place.Tag = None
text_escaper place.Attr = Some escaper.Html
text_escaper place.UriStart = Some escaper.UriStart
text_escaper place.UriPath = Some escaper.UriNormal
text_escaper place.UriQuery = Some escaper.UriComponent
text_escaper place.UriFragment = Some escaper.UriComponent
text_escaper place.JsValue = Some escaper.JsValue
text_escaper place.JsSingle = Some escaper.JsString
text_escaper place.JsDouble = Some escaper.JsString
text_escaper place.CssValue = Some escaper.CssValue
text_escaper place.CssString = Some escaper.CssString
text_escaper place.Plain = Some escaper.Plain

-- for a block of HTML
abbrev pub html_escaper : Place → Option Escaper
html_escaper place.Text = Some escaper.AsIs
html_escaper _ = None

-- for a block of attributes
abbrev pub attributes_escaper : Place → Option Escaper
attributes_escaper place.Tag = Some escaper.AsIs
attributes_escaper _ = None

abbrev pub escaper_of : Place → ValueClass → Option Escaper
escaper_of point class.Text = text_escaper point
escaper_of point class.Int = text_escaper point
escaper_of point class.Bool = text_escaper point
escaper_of point class.Null = text_escaper point
escaper_of point class.Html = html_escaper point
escaper_of point class.Attributes = attributes_escaper point

-- the escaper is the one of this class at some place
abbrev pub IsEscaperOf : Escaper → ValueClass → Type 0
IsEscaperOf how value = (point : Place) × (escaper_of point value ≡ Some how)
