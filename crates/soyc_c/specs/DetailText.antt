-- What goes with a fault, as text: the names or types, or the words of the places, two of them with a line feed
-- between.
--
-- Example: with an operator that takes no `list<int>` and `int` goes `list<int>`, a line feed and `int`.
use Rattle.std.specs.Prelude.{ℕ, List, [], ◌∷◌, ◌++◌, codes, encode_utf8_all}
use Rattle.soy_base.specs.Code.{code_word}
use Rattle.soy_base.specs.declared.place.Place.{Place}
use Rattle.soy_base.specs.declared.place.Place.TheVariants as place
use Rattle.soy_base.specs.declared.place.Placing.{Placing}
use Rattle.soy_base.specs.declared.place.Placing.TheVariants as placing
use Rattle.soy_front.specs.declared.fault.Detail.{Detail}
use Rattle.soy_front.specs.declared.fault.Detail.TheVariants as detail

-- one or two, the second of which may be empty
abbrev pub two_lines : List ℕ → List ℕ → List ℕ
two_lines first [] = first
two_lines first (b ∷ second) = first ++ (10 ∷ b ∷ second)

abbrev pub place_word : Place → List ℕ
place_word place.Text = codes "Text"
place_word place.Rcdata = codes "Rcdata"
place_word place.Tag = codes "Tag"
place_word place.Attr = codes "Attr"
place_word place.UriStart = codes "UriStart"
place_word place.UriPath = codes "UriPath"
place_word place.UriQuery = codes "UriQuery"
place_word place.UriFragment = codes "UriFragment"
place_word place.JsValue = codes "JsValue"
place_word place.JsSingle = codes "JsSingle"
place_word place.JsDouble = codes "JsDouble"
place_word place.CssValue = codes "CssValue"
place_word place.CssString = codes "CssString"
place_word place.Plain = codes "Plain"

-- the place, or why no value may stand there
abbrev pub placing_word : Placing → List ℕ
placing_word (placing.Takes at) = place_word at
placing_word (placing.Refuses code) = code_word code

-- **of what goes with a fault**
abbrev pub detail_text : Detail → List ℕ
detail_text detail.None = []
detail_text (detail.Names left right) = two_lines (encode_utf8_all left) (encode_utf8_all right)
detail_text (detail.Placings first second) = two_lines (placing_word first) (placing_word second)
