-- A page takes a value where its walk does.
use Rattle.std.proofs.Common.{◌≡◌, ◌⊎◌, ℕ, Bool, true, false, List, [], ◌∷◌, refl, ap, sym, subst, ◌∙◌, inl, inr}
use Rattle.std.specs.Prelude.{⊤, Option, Some, None, Result, Ok, Err, IsTrue, if◌then◌else◌}
use Rattle.soy_base.specs.declared.code.Code.{Code}
use Rattle.soy_base.specs.declared.code.Code.TheVariants as code
use Rattle.soy_base.specs.declared.kind.Kind.TheVariants as kind
use Rattle.soy_base.specs.declared.place.Place.TheVariants as place
use Rattle.soy_base.specs.declared.place.Placing.{Placing}
use Rattle.soy_base.specs.declared.place.Placing.TheVariants.{Takes, Refuses}
use Rattle.soy_base.specs.declared.place.ValueClass.TheVariants as class
use Rattle.script_state.specs.CssPlacing.{css_placing}
use Rattle.script_state.specs.JsPlacing.{js_placing}
use Rattle.script_state.specs.declared.css_state.CssState.{CssState}
use Rattle.script_state.specs.declared.css_state.CssState.TheVariants as css
use Rattle.script_state.specs.declared.js_state.JsState.{JsState}
use Rattle.script_state.specs.declared.js_state.JsState.TheVariants as js
use Rattle.html_state.specs.declared.row.AttributeValue.{AttributeValue}
use Rattle.html_state.specs.declared.row.AttributeValue.TheVariants as value
use Rattle.html_state.specs.declared.row.Element.{Element}
use Rattle.html_state.specs.declared.row.Element.TheVariants as element
use Rattle.html_state.specs.declared.row.HtmlRow.{HtmlRow}
use Rattle.html_state.specs.declared.row.HtmlRow.TheVariants as row
use Rattle.html_state.specs.declared.row.Quote.{Quote}
use Rattle.html_state.specs.declared.row.Reference.{Reference}
use Rattle.html_state.specs.declared.row.Reference.TheVariants as reference
use Rattle.html_state.specs.declared.row.State.{State}
use Rattle.html_state.specs.declared.row.Tag.{Tag}
use Rattle.html_state.specs.declared.row.Tag.TheVariants as tag
use Rattle.html_state.specs.declared.row.TagRow.{TagRow}
use Rattle.html_state.specs.declared.row.TagRow.TheVariants as tag_row
use Rattle.html_state.specs.declared.row.UriName.{UriName}
use Rattle.html_state.specs.declared.row.UriPart.{UriPart}
use Rattle.html_state.specs.declared.row.UriPart.TheVariants as part
use Rattle.html_state.specs.AfterAll.{after_all}
use Rattle.html_state.specs.AfterValue.{after_value, row_after_value, tag_row_after_value, value_after_value}
use Rattle.html_state.specs.Follows.{Follows, FollowsOutside, FollowsRow, FollowsTag, FollowsTagRow, FramesAttributes}
use Rattle.html_state.specs.Follows.{FramesHtml, IsPastPrinted, LeadsPage, PlacedAlike}
use Rattle.html_state.specs.KeepsPlace.{KeepsPlaceAt}
use Rattle.html_state.specs.Leads.{LeadsRow, marked_row}
use Rattle.html_state.specs.MayEnd.{may_end, may_end_in_tag, may_end_row}
use Rattle.html_state.specs.Next.{pending}
use Rattle.html_state.specs.RowNext.{row_next}
use Rattle.html_state.specs.Start.{start}
use Rattle.html_state.specs.StatePlacing.{element_placing, placing, quoted_placing, refuses_start, row_placing}
use Rattle.html_state.specs.StatePlacing.{tag_name, tag_row_placing, uri_placing}
use Rattle.html_state.specs.TakesClass.{takes_class}
use Rattle.html_state.specs.Texts.{and_then}
use Rattle.html_state.proofs.PageSteps.{same_row, same_tag_row}
use Rattle.html_state.proofs.KeptPlaces.{in_quotes, quoted_holds, row_holds, value_rows}

alike : (around : Option Tag) (at : Placing) → PlacedAlike around at at
alike around (Refuses fault) = tt
alike None (Takes place.Text) = refl
alike (Some around) (Takes place.Text) = refl
alike None (Takes place.Rcdata) = refl
alike (Some around) (Takes place.Rcdata) = refl
alike None (Takes place.Tag) = refl
alike (Some around) (Takes place.Tag) = refl
alike None (Takes place.Attr) = refl
alike (Some around) (Takes place.Attr) = refl
alike None (Takes place.UriStart) = refl
alike (Some around) (Takes place.UriStart) = inl refl
alike None (Takes place.UriPath) = refl
alike (Some around) (Takes place.UriPath) = refl
alike None (Takes place.UriQuery) = refl
alike (Some around) (Takes place.UriQuery) = refl
alike None (Takes place.UriFragment) = refl
alike (Some around) (Takes place.UriFragment) = refl
alike None (Takes place.JsValue) = refl
alike (Some around) (Takes place.JsValue) = refl
alike None (Takes place.JsSingle) = refl
alike (Some around) (Takes place.JsSingle) = refl
alike None (Takes place.JsDouble) = refl
alike (Some around) (Takes place.JsDouble) = refl
alike None (Takes place.CssValue) = refl
alike (Some around) (Takes place.CssValue) = refl
alike None (Takes place.CssString) = refl
alike (Some around) (Takes place.CssString) = refl
alike None (Takes place.Plain) = refl
alike (Some around) (Takes place.Plain) = refl

start_alike : (around : Tag) (page walk : Bool) →
    PlacedAlike (Some around) (if page then Refuses code.UriStart else Takes place.UriStart)
    (if walk then Refuses code.UriStart else Takes place.UriStart)
start_alike around true true = tt
start_alike around false true = tt
start_alike around true false = inr refl
start_alike around false false = inl refl

uri_alike : (around : Tag) (attribute : UriName) (page walk : List ℕ) (now : UriPart) →
    PlacedAlike (Some around) (uri_placing attribute page now) (uri_placing attribute walk now)
uri_alike around attribute page walk part.Start = start_alike around (refuses_start attribute page)
    (refuses_start attribute walk)
uri_alike around attribute page walk part.Path = refl
uri_alike around attribute page walk part.Query = refl
uri_alike around attribute page walk part.Fragment = refl
uri_alike around attribute page walk (part.Scheme prefix) = tt
uri_alike around attribute page walk part.NoScheme = tt
uri_alike around attribute page walk part.AfterStart = tt
uri_alike around attribute page walk part.BadScheme = tt

quoted_alike : (around : Tag) (page walk : List ℕ) (now : AttributeValue) →
    PlacedAlike (Some around) (quoted_placing page now) (quoted_placing walk now)
quoted_alike around page walk (value.Uri attribute part) = uri_alike around attribute page walk part
quoted_alike around page walk (value.Style state) = alike (Some around) (css_placing state)
quoted_alike around page walk value.Plain = refl
quoted_alike around page walk value.Event = tt
quoted_alike around page walk value.NoPrint = tt

tag_alike : (around : Option Tag) (page walk : Tag) (quote : Quote) (now : AttributeValue) →
    FollowsTag around page walk →
    PlacedAlike around (quoted_placing (tag_name page) now) (quoted_placing (tag_name walk) now)
tag_alike None page walk quote now is = subst (λ t. PlacedAlike None (quoted_placing (tag_name t) now)
    (quoted_placing (tag_name walk) now)) (sym is) (alike None (quoted_placing (tag_name walk) now))
tag_alike (Some around) page walk quote now is = quoted_alike around (tag_name page) (tag_name walk) now

in_tag_alike : (around : Option Tag) (page walk : Tag) (inner within : TagRow) → FollowsTag around page walk →
    FollowsTagRow inner within →
    PlacedAlike around (tag_row_placing page inner) (tag_row_placing walk within)
in_tag_alike around page walk inner tag_row.AfterPrinted is past = tt
in_tag_alike around page walk inner tag_row.BeforeName is same =
    subst (λ i. PlacedAlike around (tag_row_placing page i) (Takes place.Tag)) (sym same)
    (alike around (Takes place.Tag))
in_tag_alike around page walk inner (tag_row.Quoted quote now) is same =
    subst (λ i. PlacedAlike around (tag_row_placing page i) (quoted_placing (tag_name walk) now)) (sym same)
    (tag_alike around page walk quote now is)
in_tag_alike around page walk inner (tag_row.AttributeName n) is same = tt
in_tag_alike around page walk inner (tag_row.BeforeValue a) is same = tt
in_tag_alike around page walk inner (tag_row.Unquoted v) is same = tt
in_tag_alike around page walk inner tag_row.AfterQuoted is same = tt
in_tag_alike around page walk inner tag_row.SelfClosing is same = tt

outside_alike : (around : Option Tag) (page walk : HtmlRow) → FollowsOutside around page walk →
    PlacedAlike around (row_placing page) (row_placing walk)
outside_alike None page walk same = subst (λ r. PlacedAlike None (row_placing r) (row_placing walk)) (sym same)
    (alike None (row_placing walk))
outside_alike (Some around) page walk never = absurd never

row_alike : (around : Option Tag) (page walk : HtmlRow) → FollowsRow around page walk →
    PlacedAlike around (row_placing page) (row_placing walk)
row_alike around (row.InTag page inner) (row.InTag walk within) f = in_tag_alike around page walk inner within f.0 f.1
row_alike around page row.Outside f = tt
row_alike around page row.Data f = outside_alike around page row.Data f
row_alike around page row.TagOpen f = outside_alike around page row.TagOpen f
row_alike around page row.EndTagOpen f = outside_alike around page row.EndTagOpen f
row_alike around page (row.TagName k n) f = outside_alike around page (row.TagName k n) f
row_alike around page (row.MarkupDeclaration p) f = outside_alike around page (row.MarkupDeclaration p) f
row_alike around page (row.InDeclaration d) f = outside_alike around page (row.InDeclaration d) f
row_alike around page (row.Within e) f = outside_alike around page (row.Within e) f
row_alike around page (row.BegunEndTag e b) f = outside_alike around page (row.BegunEndTag e b) f
row_alike around page row.Plain f = outside_alike around page row.Plain f
row_alike around row.Data (row.InTag walk within) f = outside_alike around row.Data (row.InTag walk within) f
row_alike around row.TagOpen (row.InTag walk within) f = outside_alike around row.TagOpen (row.InTag walk within) f
row_alike around row.EndTagOpen (row.InTag walk within) f =
    outside_alike around row.EndTagOpen (row.InTag walk within) f
row_alike around (row.TagName k n) (row.InTag walk within) f =
    outside_alike around (row.TagName k n) (row.InTag walk within) f
row_alike around (row.MarkupDeclaration p) (row.InTag walk within) f =
    outside_alike around (row.MarkupDeclaration p) (row.InTag walk within) f
row_alike around (row.InDeclaration d) (row.InTag walk within) f =
    outside_alike around (row.InDeclaration d) (row.InTag walk within) f
row_alike around (row.Within e) (row.InTag walk within) f =
    outside_alike around (row.Within e) (row.InTag walk within) f
row_alike around (row.BegunEndTag e b) (row.InTag walk within) f =
    outside_alike around (row.BegunEndTag e b) (row.InTag walk within) f
row_alike around row.Plain (row.InTag walk within) f = outside_alike around row.Plain (row.InTag walk within) f
row_alike around row.Outside (row.InTag walk within) f = outside_alike around row.Outside (row.InTag walk within) f

pub page_place : (around : Option Tag) (page walk : State) → Follows around page walk →
    PlacedAlike around (placing page) (placing walk)
page_place around page walk f = row_alike around page.row walk.row f.0
