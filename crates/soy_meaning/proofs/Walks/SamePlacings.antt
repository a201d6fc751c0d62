-- Placings that `==` holds for are equal.
use Rattle.std.proofs.Common.{◌≡◌, true, false, refl, ap}
use Rattle.soy_base.specs.declared.code.Code.{Code}
use Rattle.soy_base.specs.declared.code.Code.TheVariants as code
use Rattle.soy_base.specs.contracts.code.CodePartialEq.TheImpl as code_eq
use Rattle.soy_base.specs.declared.place.Place.{Place}
use Rattle.soy_base.specs.declared.place.Place.TheVariants as place
use Rattle.soy_base.specs.contracts.place.PlacePartialEq.TheImpl as place_eq
use Rattle.soy_base.specs.declared.place.Placing.{Placing}
use Rattle.soy_base.specs.declared.place.Placing.TheVariants.{Takes, Refuses}
use Rattle.soy_base.specs.contracts.place.PlacingEq.TheImpl.Laws.{laws-law}
use Rattle.soy_meaning.specs.Walks.Walk.{is_same_placing}

never : false ≡ true → ⊥
never is = cc

same_place : (one other : Place) → (place_eq.ghosts).eq one other ≡ true → one ≡ other
same_place place.Text place.Text is = refl
same_place place.Text _ is = absurd (never is)
same_place place.Rcdata place.Rcdata is = refl
same_place place.Rcdata _ is = absurd (never is)
same_place place.Tag place.Tag is = refl
same_place place.Tag _ is = absurd (never is)
same_place place.Attr place.Attr is = refl
same_place place.Attr _ is = absurd (never is)
same_place place.UriStart place.UriStart is = refl
same_place place.UriStart _ is = absurd (never is)
same_place place.UriPath place.UriPath is = refl
same_place place.UriPath _ is = absurd (never is)
same_place place.UriQuery place.UriQuery is = refl
same_place place.UriQuery _ is = absurd (never is)
same_place place.UriFragment place.UriFragment is = refl
same_place place.UriFragment _ is = absurd (never is)
same_place place.JsValue place.JsValue is = refl
same_place place.JsValue _ is = absurd (never is)
same_place place.JsSingle place.JsSingle is = refl
same_place place.JsSingle _ is = absurd (never is)
same_place place.JsDouble place.JsDouble is = refl
same_place place.JsDouble _ is = absurd (never is)
same_place place.CssValue place.CssValue is = refl
same_place place.CssValue _ is = absurd (never is)
same_place place.CssString place.CssString is = refl
same_place place.CssString _ is = absurd (never is)
same_place place.Plain place.Plain is = refl
same_place place.Plain _ is = absurd (never is)

same_code : (one other : Code) → (code_eq.ghosts).eq one other ≡ true → one ≡ other
same_code code.NotUtf8 code.NotUtf8 is = refl
same_code code.NotUtf8 _ is = absurd (never is)
same_code code.TooLarge code.TooLarge is = refl
same_code code.TooLarge _ is = absurd (never is)
same_code code.Lex code.Lex is = refl
same_code code.Lex _ is = absurd (never is)
same_code code.Syntax code.Syntax is = refl
same_code code.Syntax _ is = absurd (never is)
same_code code.Nesting code.Nesting is = refl
same_code code.Nesting _ is = absurd (never is)
same_code code.Twice code.Twice is = refl
same_code code.Twice _ is = absurd (never is)
same_code code.Unknown code.Unknown is = refl
same_code code.Unknown _ is = absurd (never is)
same_code code.Mistyped code.Mistyped is = refl
same_code code.Mistyped _ is = absurd (never is)
same_code code.Argument code.Argument is = refl
same_code code.Argument _ is = absurd (never is)
same_code code.Place code.Place is = refl
same_code code.Place _ is = absurd (never is)
same_code code.Mixed code.Mixed is = refl
same_code code.Mixed _ is = absurd (never is)
same_code code.EndState code.EndState is = refl
same_code code.EndState _ is = absurd (never is)
same_code code.InName code.InName is = refl
same_code code.InName _ is = absurd (never is)
same_code code.States code.States is = refl
same_code code.States _ is = absurd (never is)
same_code code.Ampersand code.Ampersand is = refl
same_code code.Ampersand _ is = absurd (never is)
same_code code.Reference code.Reference is = refl
same_code code.Reference _ is = absurd (never is)
same_code code.Script code.Script is = refl
same_code code.Script _ is = absurd (never is)
same_code code.UriStart code.UriStart is = refl
same_code code.UriStart _ is = absurd (never is)
same_code code.Kind code.Kind is = refl
same_code code.Kind _ is = absurd (never is)
same_code code.Bundle code.Bundle is = refl
same_code code.Bundle _ is = absurd (never is)
same_code code.Icu code.Icu is = refl
same_code code.Icu _ is = absurd (never is)
same_code code.Rule code.Rule is = refl
same_code code.Rule _ is = absurd (never is)
same_code code.Placeholder code.Placeholder is = refl
same_code code.Placeholder _ is = absurd (never is)
same_code code.Selector code.Selector is = refl
same_code code.Selector _ is = absurd (never is)
same_code code.IdClash code.IdClash is = refl
same_code code.IdClash _ is = absurd (never is)
same_code code.NotJson code.NotJson is = refl
same_code code.NotJson _ is = absurd (never is)
same_code code.DataType code.DataType is = refl
same_code code.DataType _ is = absurd (never is)
same_code code.Entry code.Entry is = refl
same_code code.Entry _ is = absurd (never is)
same_code code.TooDeep code.TooDeep is = refl
same_code code.TooDeep _ is = absurd (never is)
same_code code.Step code.Step is = refl
same_code code.Step _ is = absurd (never is)
same_code code.TooLong code.TooLong is = refl
same_code code.TooLong _ is = absurd (never is)

pub same_placing : (one other : Placing) → is_same_placing one other ≡ true → one ≡ other
same_placing (Takes p) (Takes q) is = ap Takes (same_place p q is)
same_placing (Refuses p) (Refuses q) is = ap Refuses (same_code p q is)
same_placing (Takes p) (Refuses q) is = absurd (never is)
same_placing (Refuses p) (Takes q) is = absurd (never is)

pub placing_itself : (one : Placing) → is_same_placing one one ≡ true
placing_itself one = laws-law.refl one
