-- The value of an attribute: the page as one text goes on as the page in pieces does.
use Rattle.std.proofs.Common.{ap, refl, true, ℕ, ◌≡◌}
use Rattle.std.specs.Prelude.{Err, None, Ok, Option, Result, Some}
use Rattle.soy_base.specs.declared.code.Code.{Code}
use Rattle.script_state.specs.CssNext.{css_next}
use Rattle.script_state.specs.declared.css_state.CssState.{CssState}
use Rattle.html_state.specs.PartNext.{part_next}
use Rattle.html_state.specs.Texts.{and_then}
use Rattle.html_state.specs.ValueNext.{begun_value, followed, may_end_value, value_next}
use Rattle.html_state.specs.declared.row.Attribute.{Attribute}
use Rattle.html_state.specs.declared.row.Attribute.TheVariants as attribute
use Rattle.html_state.specs.declared.row.AttributeValue.{AttributeValue}
use Rattle.html_state.specs.declared.row.AttributeValue.TheVariants as value
use Rattle.html_state.specs.declared.row.UriPart.{UriPart}
use Rattle.html_state.specs.declared.row.UriPart.TheVariants as part
use Rattle.stable_html.proofs.AsOne.{CssOn, IsReadable, ValueOn, unmarked, value_as_one}
use Rattle.stable_html.proofs.OneElements.{style_may_end}
use Rattle.stable_html.proofs.OneParts.{readable_next}
use Rattle.stable_html.proofs.OneStyles.{css_on}

-- the value of an attribute
pub value_on : (p : UriPart) → IsReadable p → (now : AttributeValue) (c : ℕ)
    → ValueOn (value_next true now c) (value_next true (value_as_one p now) c)
value_on p is (value.Uri name before) c = uri_on (part_next before c) (readable_next p is c)
  where
    uri_on : (o : Result UriPart Code) → ((q : UriPart) × IsReadable q × (part_next p c ≡ Ok q))
        → ValueOn (and_then (λ following. Ok (value.Uri name following)) o)
        (and_then (λ following. Ok (value.Uri name following)) (part_next p c))
    uri_on (Err fault) n = tt
    uri_on (Ok now) n = (n.0, n.1, ap (and_then (λ following. Ok (value.Uri name following))) n.2)
value_on p is (value.Style now) c = style_on (css_next now c) (css_next (unmarked now) c) (css_on now c)
  where
    style_on : (o one : Option CssState) → CssOn o one
        → ValueOn (followed value.Style o) (followed value.Style one)
    style_on None one on = tt
    style_on (Some following) one on = (part.Path, tt, ap (followed value.Style) on)
value_on p is value.Event c = (p, is, refl)
value_on p is value.NoPrint c = (p, is, refl)
value_on p is value.Plain c = (p, is, refl)

-- a value that may end, may without the mark
pub value_may_end : (p : UriPart) (now : AttributeValue) → may_end_value now ≡ true
    → may_end_value (value_as_one p now) ≡ true
value_may_end p (value.Style now) is = style_may_end now is
value_may_end p (value.Uri name before) is = refl
value_may_end p value.Event is = refl
value_may_end p value.NoPrint is = refl
value_may_end p value.Plain is = refl

-- a value that begins is read as itself
pub begun_value_self : (now : Attribute) → (p : UriPart) × IsReadable p
    × (begun_value now ≡ value_as_one p (begun_value now))
begun_value_self (attribute.Uri name) = (part.Start, tt, refl)
begun_value_self attribute.Event = (part.Path, tt, refl)
begun_value_self attribute.NoPrint = (part.Path, tt, refl)
begun_value_self attribute.Style = (part.Path, tt, refl)
begun_value_self attribute.Plain = (part.Path, tt, refl)
