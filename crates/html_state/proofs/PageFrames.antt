-- A page goes on as its walk past a value, and past a block.
use Rattle.std.proofs.Common.{◌≡◌, ◌⊎◌, ℕ, Bool, true, false, List, [], ◌∷◌, refl, ap, sym, subst, ◌∙◌, inl, inr}
use Rattle.std.specs.Prelude.{⊤, Option, Some, None, Result, Ok, Err, IsTrue, if◌then◌else◌}
use Rattle.soy_base.specs.declared.code.Code.{Code}
use Rattle.soy_base.specs.declared.code.Code.TheVariants as code
use Rattle.soy_base.specs.declared.kind.Kind.TheVariants as kind
use Rattle.soy_base.specs.declared.place.Place.TheVariants as place
use Rattle.soy_base.specs.declared.place.Placing.{Placing}
use Rattle.soy_base.specs.declared.place.Placing.TheVariants.{Takes, Refuses}
use Rattle.soy_base.specs.declared.place.ValueClass.TheVariants as class
use Rattle.script_state.specs.CssPlacing.{css_placing}
use Rattle.script_state.specs.JsPlacing.{js_placing}
use Rattle.script_state.specs.declared.css_state.CssState.{CssState}
use Rattle.script_state.specs.declared.css_state.CssState.TheVariants as css
use Rattle.script_state.specs.declared.js_state.JsState.{JsState}
use Rattle.script_state.specs.declared.js_state.JsState.TheVariants as js
use Rattle.html_state.specs.declared.row.AttributeValue.{AttributeValue}
use Rattle.html_state.specs.declared.row.AttributeValue.TheVariants as value
use Rattle.html_state.specs.declared.row.Element.{Element}
use Rattle.html_state.specs.declared.row.Element.TheVariants as element
use Rattle.html_state.specs.declared.row.HtmlRow.{HtmlRow}
use Rattle.html_state.specs.declared.row.HtmlRow.TheVariants as row
use Rattle.html_state.specs.declared.row.Quote.{Quote}
use Rattle.html_state.specs.declared.row.Reference.{Reference}
use Rattle.html_state.specs.declared.row.Reference.TheVariants as reference
use Rattle.html_state.specs.declared.row.State.{State}
use Rattle.html_state.specs.declared.row.Tag.{Tag}
use Rattle.html_state.specs.declared.row.Tag.TheVariants as tag
use Rattle.html_state.specs.declared.row.TagRow.{TagRow}
use Rattle.html_state.specs.declared.row.TagRow.TheVariants as tag_row
use Rattle.html_state.specs.declared.row.UriName.{UriName}
use Rattle.html_state.specs.declared.row.UriPart.{UriPart}
use Rattle.html_state.specs.declared.row.UriPart.TheVariants as part
use Rattle.html_state.specs.AfterAll.{after_all}
use Rattle.html_state.specs.AfterValue.{after_value, row_after_value, tag_row_after_value, value_after_value}
use Rattle.html_state.specs.Follows.{Follows, FollowsOutside, FollowsRow, FollowsTag, FollowsTagRow, FramesAttributes}
use Rattle.html_state.specs.Follows.{FramesHtml, IsPastPrinted, LeadsPage, PlacedAlike}
use Rattle.html_state.specs.KeepsPlace.{KeepsPlaceAt}
use Rattle.html_state.specs.Leads.{LeadsRow, marked_row}
use Rattle.html_state.specs.MayEnd.{may_end, may_end_in_tag, may_end_row}
use Rattle.html_state.specs.Next.{pending}
use Rattle.html_state.specs.RowNext.{row_next}
use Rattle.html_state.specs.Start.{start}
use Rattle.html_state.specs.StatePlacing.{element_placing, placing, quoted_placing, refuses_start, row_placing}
use Rattle.html_state.specs.StatePlacing.{tag_name, tag_row_placing, uri_placing}
use Rattle.html_state.specs.TakesClass.{takes_class}
use Rattle.html_state.specs.Texts.{and_then}
use Rattle.html_state.proofs.PageSteps.{same_row, same_tag_row}
use Rattle.html_state.proofs.KeptPlaces.{in_quotes, quoted_holds, row_holds, value_rows}

-- ---- a value

abbrev pub LeadsPageRow : Option Tag → HtmlRow → HtmlRow → List ℕ → Type 0
LeadsPageRow around page walk out =
    (now : HtmlRow) × (after_all (row_next false) page out ≡ Ok now)
    × FollowsRow around (marked_row page now) (row_after_value walk)

quoted_value : (around : Option Tag) (page walk : Tag) (quote : Quote) (now : AttributeValue) (out : List ℕ) →
    FollowsTag around page walk →
    KeepsPlaceAt (quoted_placing (tag_name walk) now) out →
    LeadsPageRow around (in_quotes page quote now) (in_quotes walk quote now) out
quoted_value around page walk quote now out is safe =
    let leads = quoted_holds page quote (tag_name walk) now out safe in (
      leads.0,
      leads.1,
      subst (λ r. FollowsRow around r (in_quotes walk quote (value_after_value now))) (sym leads.2)
          (is, refl),
    )

in_tag_value : (around : Option Tag) (page walk : Tag) (inner within : TagRow) (out : List ℕ) →
    FollowsTag around page walk → FollowsTagRow inner within →
    KeepsPlaceAt (tag_row_placing walk within) out →
    LeadsPageRow around (row.InTag page inner) (row.InTag walk within) out
in_tag_value around page walk inner (tag_row.Quoted quote now) out is same safe =
    subst (λ i. LeadsPageRow around (row.InTag page i) (in_quotes walk quote now) out) (sym same)
    (quoted_value around page walk quote now out is safe)
in_tag_value around page walk inner tag_row.AfterPrinted out is past never = absurd never
in_tag_value around page walk inner tag_row.BeforeName out is same never = absurd never
in_tag_value around page walk inner (tag_row.AttributeName n) out is same never = absurd never
in_tag_value around page walk inner (tag_row.BeforeValue a) out is same never = absurd never
in_tag_value around page walk inner (tag_row.Unquoted v) out is same never = absurd never
in_tag_value around page walk inner tag_row.AfterQuoted out is same never = absurd never
in_tag_value around page walk inner tag_row.SelfClosing out is same never = absurd never

itself : (now : HtmlRow) (out : List ℕ) → LeadsRow now out → LeadsPageRow None now now out
itself now out leads = (
  leads.0,
  leads.1,
  subst (λ r. FollowsRow None r (row_after_value now)) (sym leads.2)
      (same_row (row_after_value now)),
)

outside_value : (around : Option Tag) (page walk : HtmlRow) (out : List ℕ) → FollowsOutside around page walk →
    KeepsPlaceAt (row_placing walk) out → LeadsPageRow around page walk out
outside_value None page walk out same safe = subst (λ r. LeadsPageRow None r walk out) (sym same)
    (itself walk out (row_holds walk out safe))
outside_value (Some around) page walk out never safe = absurd never

row_value : (around : Option Tag) (page walk : HtmlRow) (out : List ℕ) → FollowsRow around page walk →
    KeepsPlaceAt (row_placing walk) out → LeadsPageRow around page walk out
row_value around (row.InTag page inner) (row.InTag walk within) out f safe =
    in_tag_value around page walk inner within out f.0 f.1 safe
row_value around page row.Outside out f never = absurd never
row_value around page row.Data out f safe = outside_value around page row.Data out f safe
row_value around page row.TagOpen out f safe = outside_value around page row.TagOpen out f safe
row_value around page row.EndTagOpen out f safe = outside_value around page row.EndTagOpen out f safe
row_value around page (row.TagName k n) out f safe = outside_value around page (row.TagName k n) out f safe
row_value around page (row.MarkupDeclaration p) out f safe =
    outside_value around page (row.MarkupDeclaration p) out f safe
row_value around page (row.InDeclaration d) out f safe = outside_value around page (row.InDeclaration d) out f safe
row_value around page (row.Within e) out f safe = outside_value around page (row.Within e) out f safe
row_value around page (row.BegunEndTag e b) out f safe = outside_value around page (row.BegunEndTag e b) out f safe
row_value around page row.Plain out f safe = outside_value around page row.Plain out f safe
row_value around row.Data (row.InTag walk within) out f safe =
    outside_value around row.Data (row.InTag walk within) out f safe
row_value around row.TagOpen (row.InTag walk within) out f safe =
    outside_value around row.TagOpen (row.InTag walk within) out f safe
row_value around row.EndTagOpen (row.InTag walk within) out f safe =
    outside_value around row.EndTagOpen (row.InTag walk within) out f safe
row_value around (row.TagName k n) (row.InTag walk within) out f safe =
    outside_value around (row.TagName k n) (row.InTag walk within) out f safe
row_value around (row.MarkupDeclaration p) (row.InTag walk within) out f safe =
    outside_value around (row.MarkupDeclaration p) (row.InTag walk within) out f safe
row_value around (row.InDeclaration d) (row.InTag walk within) out f safe =
    outside_value around (row.InDeclaration d) (row.InTag walk within) out f safe
row_value around (row.Within e) (row.InTag walk within) out f safe =
    outside_value around (row.Within e) (row.InTag walk within) out f safe
row_value around (row.BegunEndTag e b) (row.InTag walk within) out f safe =
    outside_value around (row.BegunEndTag e b) (row.InTag walk within) out f safe
row_value around row.Plain (row.InTag walk within) out f safe =
    outside_value around row.Plain (row.InTag walk within) out f safe
row_value around row.Outside (row.InTag walk within) out f safe =
    outside_value around row.Outside (row.InTag walk within) out f safe

pub page_value : (around : Option Tag) (page walk : State) (out : List ℕ) → Follows around page walk →
    KeepsPlaceAt (placing walk) out → LeadsPage around page walk out
page_value around page walk out f safe =
    let leads = row_value around page.row walk.row out f.0 safe in (
      pending leads.0 page.reference,
      value_rows page.reference page.row out ∙ ap (and_then (λ now. Ok (pending now page.reference))) leads.1,
      (leads.2, f.1),
    )

-- ---- where a block of attributes may stand, and one of HTML

differ : false ≡ true → ⊥
differ is = cc

abbrev pub IsBeforeName : HtmlRow → Type 0
IsBeforeName (row.InTag _ tag_row.BeforeName) = ⊤
IsBeforeName _ = ⊥

abbrev pub IsData : HtmlRow → Type 0
IsData row.Data = ⊤
IsData _ = ⊥

attributes_css : (state : CssState) → takes_class (css_placing state) class.Attributes ≡ false
attributes_css css.Code = refl
attributes_css css.Ready = refl
attributes_css css.Slash = refl
attributes_css css.Comment = refl
attributes_css css.CommentStar = refl
attributes_css css.CodeEscape = refl
attributes_css css.Single = refl
attributes_css css.Double = refl
attributes_css css.SingleEscape = refl
attributes_css css.DoubleEscape = refl
attributes_css css.AfterValue = refl

attributes_js : (state : JsState) → takes_class (js_placing state) class.Attributes ≡ false
attributes_js js.Code = refl
attributes_js js.Slash = refl
attributes_js js.Line = refl
attributes_js js.Block = refl
attributes_js js.BlockStar = refl
attributes_js js.Single = refl
attributes_js js.Double = refl
attributes_js js.SingleEscape = refl
attributes_js js.DoubleEscape = refl

attributes_start : (refused : Bool) → takes_class (if refused then Refuses code.UriStart
    else Takes place.UriStart) class.Attributes ≡ false
attributes_start true = refl
attributes_start false = refl

attributes_quoted : (name : List ℕ) (now : AttributeValue) →
    takes_class (quoted_placing name now) class.Attributes ≡ false
attributes_quoted name (value.Uri attribute part.Start) = attributes_start (refuses_start attribute name)
attributes_quoted name (value.Uri attribute (part.Scheme prefix)) = refl
attributes_quoted name (value.Uri attribute part.NoScheme) = refl
attributes_quoted name (value.Uri attribute part.AfterStart) = refl
attributes_quoted name (value.Uri attribute part.Path) = refl
attributes_quoted name (value.Uri attribute part.Query) = refl
attributes_quoted name (value.Uri attribute part.Fragment) = refl
attributes_quoted name (value.Uri attribute part.BadScheme) = refl
attributes_quoted name (value.Style state) = attributes_css state
attributes_quoted name value.Event = refl
attributes_quoted name value.NoPrint = refl
attributes_quoted name value.Plain = refl

attributes_element : (now : Element) → takes_class (element_placing now) class.Attributes ≡ false
attributes_element element.Title = refl
attributes_element element.Textarea = refl
attributes_element (element.Style state) = attributes_css state
attributes_element (element.Script state) = attributes_js state
attributes_element element.Xmp = refl
attributes_element element.Iframe = refl
attributes_element element.Noembed = refl
attributes_element element.Noframes = refl
attributes_element element.Noscript = refl

attributes_row : (now : HtmlRow) → takes_class (row_placing now) class.Attributes ≡ true → IsBeforeName now
attributes_row row.Data is = cc
attributes_row row.TagOpen is = cc
attributes_row row.EndTagOpen is = cc
attributes_row (row.TagName k n) is = cc
attributes_row (row.MarkupDeclaration p) is = cc
attributes_row (row.InDeclaration d) is = cc
attributes_row (row.Within e) is = absurd (differ (sym (attributes_element e) ∙ is))
attributes_row (row.BegunEndTag e b) is = cc
attributes_row row.Plain is = cc
attributes_row row.Outside is = cc
attributes_row (row.InTag around tag_row.BeforeName) is = tt
attributes_row (row.InTag around (tag_row.AttributeName n)) is = cc
attributes_row (row.InTag around (tag_row.BeforeValue a)) is = cc
attributes_row (row.InTag around (tag_row.Quoted q v)) is =
    absurd (differ (sym (attributes_quoted (tag_name around) v) ∙ is))
attributes_row (row.InTag around (tag_row.Unquoted v)) is = cc
attributes_row (row.InTag around tag_row.AfterQuoted) is = cc
attributes_row (row.InTag around tag_row.SelfClosing) is = cc
attributes_row (row.InTag around tag_row.AfterPrinted) is = cc

html_css : (state : CssState) → takes_class (css_placing state) class.Html ≡ false
html_css css.Code = refl
html_css css.Ready = refl
html_css css.Slash = refl
html_css css.Comment = refl
html_css css.CommentStar = refl
html_css css.CodeEscape = refl
html_css css.Single = refl
html_css css.Double = refl
html_css css.SingleEscape = refl
html_css css.DoubleEscape = refl
html_css css.AfterValue = refl

html_js : (state : JsState) → takes_class (js_placing state) class.Html ≡ false
html_js js.Code = refl
html_js js.Slash = refl
html_js js.Line = refl
html_js js.Block = refl
html_js js.BlockStar = refl
html_js js.Single = refl
html_js js.Double = refl
html_js js.SingleEscape = refl
html_js js.DoubleEscape = refl

html_start : (refused : Bool) → takes_class (if refused then Refuses code.UriStart else Takes place.UriStart) class.Html
    ≡ false
html_start true = refl
html_start false = refl

html_quoted : (name : List ℕ) (now : AttributeValue) → takes_class (quoted_placing name now) class.Html ≡ false
html_quoted name (value.Uri attribute part.Start) = html_start (refuses_start attribute name)
html_quoted name (value.Uri attribute (part.Scheme prefix)) = refl
html_quoted name (value.Uri attribute part.NoScheme) = refl
html_quoted name (value.Uri attribute part.AfterStart) = refl
html_quoted name (value.Uri attribute part.Path) = refl
html_quoted name (value.Uri attribute part.Query) = refl
html_quoted name (value.Uri attribute part.Fragment) = refl
html_quoted name (value.Uri attribute part.BadScheme) = refl
html_quoted name (value.Style state) = html_css state
html_quoted name value.Event = refl
html_quoted name value.NoPrint = refl
html_quoted name value.Plain = refl

html_element : (now : Element) → takes_class (element_placing now) class.Html ≡ false
html_element element.Title = refl
html_element element.Textarea = refl
html_element (element.Style state) = html_css state
html_element (element.Script state) = html_js state
html_element element.Xmp = refl
html_element element.Iframe = refl
html_element element.Noembed = refl
html_element element.Noframes = refl
html_element element.Noscript = refl

html_row : (now : HtmlRow) → takes_class (row_placing now) class.Html ≡ true → IsData now
html_row row.Data is = tt
html_row row.TagOpen is = cc
html_row row.EndTagOpen is = cc
html_row (row.TagName k n) is = cc
html_row (row.MarkupDeclaration p) is = cc
html_row (row.InDeclaration d) is = cc
html_row (row.Within e) is = absurd (differ (sym (html_element e) ∙ is))
html_row (row.BegunEndTag e b) is = cc
html_row row.Plain is = cc
html_row row.Outside is = cc
html_row (row.InTag around tag_row.BeforeName) is = cc
html_row (row.InTag around (tag_row.AttributeName n)) is = cc
html_row (row.InTag around (tag_row.BeforeValue a)) is = cc
html_row (row.InTag around (tag_row.Quoted q v)) is = absurd (differ (sym (html_quoted (tag_name around) v) ∙ is))
html_row (row.InTag around (tag_row.Unquoted v)) is = cc
html_row (row.InTag around tag_row.AfterQuoted) is = cc
html_row (row.InTag around tag_row.SelfClosing) is = cc
html_row (row.InTag around tag_row.AfterPrinted) is = cc

-- ---- blocks of attributes

-- the page's tag and its row within it, where the walk is within a tag
abbrev pub InTagOf : Option Tag → HtmlRow → Tag → TagRow → Type 0
InTagOf around page walk within =
    (tag_of : Tag) × (inner : TagRow) × (page ≡ row.InTag tag_of inner) × FollowsTag around tag_of walk
    × FollowsTagRow inner within

outside_tag : (around : Option Tag) (page : HtmlRow) (walk : Tag) (within : TagRow) →
    FollowsOutside around page (row.InTag walk within) → InTagOf around page walk within
outside_tag None page walk within same = (walk, within, same, refl, same_tag_row within)
outside_tag (Some around) page walk within never = absurd never

page_tag : (around : Option Tag) (page : HtmlRow) (walk : Tag) (within : TagRow) →
    FollowsRow around page (row.InTag walk within) → InTagOf around page walk within
page_tag around (row.InTag page inner) walk within f = (page, inner, refl, f.0, f.1)
page_tag around row.Data walk within f = outside_tag around row.Data walk within f
page_tag around row.TagOpen walk within f = outside_tag around row.TagOpen walk within f
page_tag around row.EndTagOpen walk within f = outside_tag around row.EndTagOpen walk within f
page_tag around (row.TagName k n) walk within f = outside_tag around (row.TagName k n) walk within f
page_tag around (row.MarkupDeclaration p) walk within f = outside_tag around (row.MarkupDeclaration p) walk within f
page_tag around (row.InDeclaration d) walk within f = outside_tag around (row.InDeclaration d) walk within f
page_tag around (row.Within e) walk within f = outside_tag around (row.Within e) walk within f
page_tag around (row.BegunEndTag e b) walk within f = outside_tag around (row.BegunEndTag e b) walk within f
page_tag around row.Plain walk within f = outside_tag around row.Plain walk within f
page_tag around row.Outside walk within f = outside_tag around row.Outside walk within f

past_block : (inner within : TagRow) → FollowsTagRow inner within → may_end_in_tag within ≡ true → IsPastPrinted inner
past_block inner tag_row.BeforeName same ends = subst IsPastPrinted (sym same) tt
past_block inner tag_row.AfterPrinted past ends = past
past_block inner (tag_row.AttributeName name) same ends = subst IsPastPrinted (sym same) tt
past_block inner tag_row.AfterQuoted same ends = subst IsPastPrinted (sym same) tt
past_block inner (tag_row.BeforeValue attribute) same ends = absurd (differ ends)
past_block inner (tag_row.Quoted quote now) same ends = absurd (differ ends)
past_block inner (tag_row.Unquoted now) same ends = absurd (differ ends)
past_block inner tag_row.SelfClosing same ends = absurd (differ ends)

-- where the block may end, the page's row is one past a printed block, in the tag around it
block_end : (inside : Tag) (now ended : HtmlRow) → FollowsRow (Some inside) now ended →
    may_end_row kind.Attributes ended ≡ true →
    (inner : TagRow) × (now ≡ row.InTag inside inner) × IsPastPrinted inner
block_end inside now (row.InTag walk within) f ends =
    let found = page_tag (Some inside) now walk within f in
    (found.1, found.2 ∙ ap (λ t. row.InTag t found.1) found.3.0, past_block found.1 within found.4 ends)
block_end inside now row.Outside f ends = absurd (differ ends)
block_end inside now row.Data f ends = absurd (differ ends)
block_end inside now row.TagOpen f ends = absurd (differ ends)
block_end inside now row.EndTagOpen f ends = absurd (differ ends)
block_end inside now (row.TagName k n) f ends = absurd (differ ends)
block_end inside now (row.MarkupDeclaration p) f ends = absurd (differ ends)
block_end inside now (row.InDeclaration d) f ends = absurd (differ ends)
block_end inside now (row.Within e) f ends = absurd (differ ends)
block_end inside now (row.BegunEndTag e b) f ends = absurd (differ ends)
block_end inside now row.Plain f ends = absurd (differ ends)

module _ (around : Option Tag) (page walk : State) (walk_tag : Tag)
    (is_row : walk.row ≡ row.InTag walk_tag tag_row.BeforeName) (f : Follows around page walk)
    (decided : walk.reference ≡ reference.Decided) where
  pub attributes_frame : FramesAttributes around page walk
  attributes_frame =
      let found = page_tag around page.row walk_tag tag_row.BeforeName
      (subst (λ r. FollowsRow around page.row r) is_row f.0) in
      let page_row : page.row ≡ row.InTag found.0 tag_row.BeforeName = found.2 ∙ ap (row.InTag found.0) found.4 in (
        found.0,
        (
          subst (λ r. FollowsRow (Some found.0) r (row.InTag tag.Block tag_row.BeforeName)) (sym page_row)
              ((refl, refl), refl),
          f.1 ∙ decided,
        ),
        λ now ended in_block ends none.
            let past = block_end found.0 now.row ended.row in_block.0 ends in (
              subst (λ r. FollowsRow around now.row (row_after_value r)) (sym is_row)
                  (subst (λ r. FollowsRow around r (row.InTag walk_tag tag_row.AfterPrinted)) (sym past.1)
                  (found.3, past.2)),
              in_block.1 ∙ (none ∙ sym decided),
            ),
      )

before_name_row : (now : HtmlRow) → IsBeforeName now → (around : Tag) × (now ≡ row.InTag around tag_row.BeforeName)
before_name_row (row.InTag around tag_row.BeforeName) is = (around, refl)
before_name_row (row.InTag around (tag_row.AttributeName n)) never = absurd never
before_name_row (row.InTag around (tag_row.BeforeValue a)) never = absurd never
before_name_row (row.InTag around (tag_row.Quoted q v)) never = absurd never
before_name_row (row.InTag around (tag_row.Unquoted v)) never = absurd never
before_name_row (row.InTag around tag_row.AfterQuoted) never = absurd never
before_name_row (row.InTag around tag_row.SelfClosing) never = absurd never
before_name_row (row.InTag around tag_row.AfterPrinted) never = absurd never
before_name_row row.Data never = absurd never
before_name_row row.TagOpen never = absurd never
before_name_row row.EndTagOpen never = absurd never
before_name_row (row.TagName k n) never = absurd never
before_name_row (row.MarkupDeclaration p) never = absurd never
before_name_row (row.InDeclaration d) never = absurd never
before_name_row (row.Within e) never = absurd never
before_name_row (row.BegunEndTag e b) never = absurd never
before_name_row row.Plain never = absurd never
before_name_row row.Outside never = absurd never

pub page_attributes : (around : Option Tag) (page walk : State) → Follows around page walk →
    IsTrue (takes_class (placing walk) class.Attributes) → walk.reference ≡ reference.Decided →
    FramesAttributes around page walk
page_attributes around page walk f takes decided =
    let found = before_name_row walk.row (attributes_row walk.row takes) in attributes_frame around page walk found.0
    found.1 f decided

-- ---- blocks of HTML

data_row : (now : HtmlRow) → IsData now → now ≡ row.Data
data_row row.Data is = refl
data_row (row.InTag around inner) never = absurd never
data_row row.TagOpen never = absurd never
data_row row.EndTagOpen never = absurd never
data_row (row.TagName k n) never = absurd never
data_row (row.MarkupDeclaration p) never = absurd never
data_row (row.InDeclaration d) never = absurd never
data_row (row.Within e) never = absurd never
data_row (row.BegunEndTag e b) never = absurd never
data_row row.Plain never = absurd never
data_row row.Outside never = absurd never

ended_row : (now : HtmlRow) → may_end_row kind.Html now ≡ true → now ≡ row.Data
ended_row row.Data ends = refl
ended_row (row.InTag around inner) ends = absurd (differ ends)
ended_row row.TagOpen ends = absurd (differ ends)
ended_row row.EndTagOpen ends = absurd (differ ends)
ended_row (row.TagName k n) ends = absurd (differ ends)
ended_row (row.MarkupDeclaration p) ends = absurd (differ ends)
ended_row (row.InDeclaration d) ends = absurd (differ ends)
ended_row (row.Within e) ends = absurd (differ ends)
ended_row (row.BegunEndTag e b) ends = absurd (differ ends)
ended_row row.Plain ends = absurd (differ ends)
ended_row row.Outside ends = absurd (differ ends)

data_outside : (around : Option Tag) (page now : HtmlRow) → FollowsOutside around page row.Data → now ≡ row.Data →
    FollowsOutside around now row.Data
data_outside None page now same is = is
data_outside (Some around) page now never is = absurd never

page_data : (around : Option Tag) (page : HtmlRow) → FollowsOutside around page row.Data → page ≡ row.Data
page_data None page same = same
page_data (Some around) page never = absurd never

pub page_html : (around : Option Tag) (page walk : State) → Follows around page walk →
    IsTrue (takes_class (placing walk) class.Html) → walk.reference ≡ reference.Decided →
    FramesHtml around page walk
page_html around page walk f takes decided =
    let is_row : walk.row ≡ row.Data = data_row walk.row (html_row walk.row takes) in
    let in_data : FollowsOutside around page.row row.Data = subst (λ r. FollowsRow around page.row r) is_row f.0 in (
      (page_data around page.row in_data, f.1 ∙ decided),
      λ now ended in_block ends none.
          let is_data : now.row ≡ row.Data = subst (λ r. FollowsRow None now.row r)
          (ended_row ended.row ends) in_block.0 in (
            subst (λ r. FollowsRow around now.row (row_after_value r)) (sym is_row)
                (data_outside around page.row now.row in_data is_data),
            in_block.1 ∙ (none ∙ sym decided),
          ),
    )
