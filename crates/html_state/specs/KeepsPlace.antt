-- What is enough for the characters of a value to keep the place where it is printed: the law `law_kept_place` says
-- that they lead each state with this placing to the same state, but that at CssValue they lead from Ready to Code.
--
-- In text they may be whole markup that leads back to data. Elsewhere they may hold no `<` or no quote, as the place
-- has it, and a script's or a style's table must come back to where it was.
-- Example: `it\'s` keeps the place of a string of a script in single quotes, and `it's` doesn't.
use Rattle.std.specs.Prelude.{◌≡◌, ℕ, List, [], ◌∷◌, Some, Ok, IsTrue, false}
use Rattle.soy_base.specs.Among.{lacks}
use Rattle.soy_base.specs.Characters.{double_quote, less_than, single_quote}
use Rattle.soy_base.specs.StateAfter.{state_after}
use Rattle.soy_base.specs.declared.place.Place.{Place}
use Rattle.soy_base.specs.declared.place.Place.TheVariants as place
use Rattle.soy_base.specs.declared.place.Placing.{Placing}
use Rattle.soy_base.specs.declared.place.Placing.TheVariants.{Takes, Refuses}
use Rattle.script_state.specs.CssNext.{css_next}
use Rattle.script_state.specs.JsNext.{js_next}
use Rattle.script_state.specs.declared.css_state.CssState.TheVariants as css
use Rattle.script_state.specs.declared.js_state.JsState.TheVariants as js
use Rattle.html_state.specs.AfterAll.{after_all}
use Rattle.html_state.specs.RowNext.{row_next}
use Rattle.html_state.specs.declared.row.HtmlRow.TheVariants as row

abbrev pub HasNoLessThan : List ℕ → Type 0
HasNoLessThan text = IsTrue (lacks (less_than ∷ []) text)

-- the text has no quote of either kind
abbrev pub HasNoQuote : List ℕ → Type 0
HasNoQuote text = IsTrue (lacks (double_quote ∷ single_quote ∷ []) text)

abbrev pub KeepsPlace : Place → List ℕ → Type 0
KeepsPlace place.Text out = after_all (row_next false) row.Data out ≡ Ok row.Data
KeepsPlace place.Rcdata out = HasNoLessThan out
KeepsPlace place.Tag out = ⊥
KeepsPlace place.Attr out = HasNoQuote out
KeepsPlace place.UriStart out = HasNoQuote out
KeepsPlace place.UriPath out = HasNoQuote out
KeepsPlace place.UriQuery out = HasNoQuote out
KeepsPlace place.UriFragment out = HasNoQuote out
KeepsPlace place.JsValue out = HasNoLessThan out × (state_after js_next js.Code out ≡ Some js.Code)
KeepsPlace place.JsSingle out = HasNoLessThan out × (state_after js_next js.Single out ≡ Some js.Single)
KeepsPlace place.JsDouble out = HasNoLessThan out × (state_after js_next js.Double out ≡ Some js.Double)
KeepsPlace place.CssValue out = HasNoLessThan out × HasNoQuote out
    × (state_after css_next css.Ready out ≡ Some css.Code)
KeepsPlace place.CssString out =
    HasNoLessThan out × HasNoQuote out × (state_after css_next css.Single out ≡ Some css.Single)
    × (state_after css_next css.Double out ≡ Some css.Double)
KeepsPlace place.Plain out = Unit {0}

-- they keep the place of this placing; where a value is refused, nothing does
abbrev pub KeepsPlaceAt : Placing → List ℕ → Type 0
KeepsPlaceAt (Takes point) out = KeepsPlace point out
KeepsPlaceAt (Refuses _) out = ⊥
