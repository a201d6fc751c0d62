-- Where the walk takes a value, the page's state is the walk's, but for the tag around a frame of attributes; so its
-- place is the walk's, but that the real tag may refuse the start of a URI.
use Rattle.std.proofs.Common.{◌≡◌, ◌⊎◌, inl, inr, ℕ, Bool, true, false, List, [], Option, Some, None, refl, ap, sym}
use Rattle.std.proofs.Common.{◌∙◌, subst}
use Rattle.std.specs.Prelude.{if◌then◌else◌}
use Rattle.soy_base.specs.declared.code.Code.TheVariants as code
use Rattle.soy_base.specs.declared.kind.Kind.{Kind}
use Rattle.soy_base.specs.declared.kind.Kind.TheVariants as kind
use Rattle.soy_base.specs.declared.place.Place.{Place}
use Rattle.soy_base.specs.declared.place.Place.TheVariants as place
use Rattle.soy_base.specs.declared.place.Placing.{Placing}
use Rattle.soy_base.specs.declared.place.Placing.TheVariants.{Takes, Refuses}
use Rattle.soy_base.specs.declared.place.ValueClass.{ValueClass}
use Rattle.html_state.specs.Follows.{Follows, FollowsOutside, FollowsRow, FollowsTag, FramesAttributes, FramesHtml}
use Rattle.html_state.specs.Next.{pending}
use Rattle.html_state.specs.Start.{start}
use Rattle.html_state.specs.StatePlacing.{placing, quoted_placing, refuses_start, row_placing, tag_row_placing}
use Rattle.html_state.specs.StatePlacing.{uri_placing}
use Rattle.html_state.specs.TakesClass.{takes_class}
use Rattle.html_state.specs.declared.row.AttributeValue.{AttributeValue}
use Rattle.html_state.specs.declared.row.AttributeValue.TheVariants as value
use Rattle.html_state.specs.declared.row.HtmlRow.{HtmlRow}
use Rattle.html_state.specs.declared.row.HtmlRow.TheVariants as row
use Rattle.html_state.specs.declared.row.State.{State}
use Rattle.html_state.specs.declared.row.Tag.{Tag}
use Rattle.html_state.specs.declared.row.Tag.TheVariants as tag
use Rattle.html_state.specs.declared.row.TagRow.{TagRow}
use Rattle.html_state.specs.declared.row.TagRow.TheVariants as tag_row
use Rattle.html_state.specs.declared.row.UriName.{UriName}
use Rattle.html_state.specs.declared.row.UriName.TheVariants as uri
use Rattle.html_state.specs.declared.row.UriPart.{UriPart}
use Rattle.html_state.specs.declared.row.UriPart.TheVariants as part
use Rattle.html_state.proofs.PageFrames.{page_attributes, page_html}
use Rattle.soy_meaning.specs.Paths.Filled.{IsBlockKind}
use Rattle.soy_meaning.specs.Walks.FourPoints.{takes_classes}
use Rattle.soy_meaning.specs.Paths.PlanOfNodes.{kind_class}
use Rattle.soy_meaning.proofs.Paths.Pages.{IsSettled}
use Rattle.stable_html.specs.FrameStates.{StandsIn}
use Rattle.stable_html.specs.PlacedValue.{IsPlaceOf}
use Rattle.stable_html.specs.RealTag.{in_real_tag, row_in_other}

-- ---- the state

-- the row, where the frame stands in this tag or in none
abbrev real_row : Option Tag → HtmlRow → HtmlRow
real_row None own = own
real_row (Some tag) own = row_in_other tag own

-- equal tags and equal rows in them are equal rows
in_tag_is : (t u : Tag) (i j : TagRow) → t ≡ u → i ≡ j → row.InTag t i ≡ row.InTag u j
in_tag_is t u i j tags rows = ap (λ x. row.InTag x i) tags ∙ ap (λ x. row.InTag u x) rows

-- in a tag, the page's row is the walk's in the real tag
tag_is : (around : Option Tag) (t u : Tag) (i j : TagRow) → FollowsTag around t u → i ≡ j
    → row.InTag t i ≡ real_row around (row.InTag u j)
tag_is None t u i j tags rows = in_tag_is t u i j tags rows
tag_is (Some tag) t u i j tags rows = in_tag_is t tag i j tags.0 rows

-- elsewhere it is the walk's
outside_is : (around : Option Tag) (page walk : HtmlRow) → FollowsOutside around page walk → page ≡ real_row around walk
outside_is None page walk f = f
outside_is (Some tag) page walk f = absurd f

-- every row in which the walk takes a value
row_is : (around : Option Tag) (page walk : HtmlRow) (classes : List ValueClass) → FollowsRow around page walk
    → takes_classes (row_placing walk) classes ≡ true → page ≡ real_row around walk
row_is around page row.Outside classes f takes = let never : ⊥ = cc in absurd never
row_is around (row.InTag t i) (row.InTag u tag_row.AfterPrinted) classes f takes = let never : ⊥ = cc in absurd never
row_is around (row.InTag t i) (row.InTag u tag_row.BeforeName) classes f takes =
    tag_is around t u i tag_row.BeforeName f.0 f.1
row_is around (row.InTag t i) (row.InTag u (tag_row.AttributeName n)) classes f takes =
    tag_is around t u i (tag_row.AttributeName n) f.0 f.1
row_is around (row.InTag t i) (row.InTag u (tag_row.BeforeValue a)) classes f takes =
    tag_is around t u i (tag_row.BeforeValue a) f.0 f.1
row_is around (row.InTag t i) (row.InTag u (tag_row.Quoted q v)) classes f takes =
    tag_is around t u i (tag_row.Quoted q v) f.0 f.1
row_is around (row.InTag t i) (row.InTag u (tag_row.Unquoted v)) classes f takes =
    tag_is around t u i (tag_row.Unquoted v) f.0 f.1
row_is around (row.InTag t i) (row.InTag u tag_row.AfterQuoted) classes f takes =
    tag_is around t u i tag_row.AfterQuoted f.0 f.1
row_is around (row.InTag t i) (row.InTag u tag_row.SelfClosing) classes f takes =
    tag_is around t u i tag_row.SelfClosing f.0 f.1
row_is around page walk classes f takes = outside_is around page walk f

-- the page's state is the walk's, but for the real tag
pub page_is : (around : Option Tag) (page walk : State) (classes : List ValueClass) → Follows around page walk
    → takes_classes (placing walk) classes ≡ true → page ≡ in_real_tag around walk
page_is None page walk classes f takes =
    let same : page.row ≡ walk.row = row_is None page.row walk.row classes f.0 takes in
    ap (λ r. pending r page.reference) same ∙ ap (λ r. pending walk.row r) f.1
page_is (Some tag) page walk classes f takes =
    let same : page.row ≡ row_in_other tag walk.row = row_is (Some tag) page.row walk.row classes f.0 takes in
    ap (λ r. pending r page.reference) same ∙ ap (λ r. pending (row_in_other tag walk.row) r) f.1

-- ---- the place

-- the walk of a block of attributes is in a tag without a name
block_is : (around : Tag) (page walk : HtmlRow) → FollowsRow (Some around) page walk
    → row_in_other tag.Block walk ≡ walk
block_is around (row.InTag t i) (row.InTag u j) f = in_tag_is tag.Block u j j (sym f.0.1) refl
block_is around _ (row.InTag u j) f = absurd f
block_is around page _ f = refl

-- a row that is taken from one tag to another, and to a third, is taken to the third
twice_is : (first second : Tag) (now : HtmlRow) → row_in_other second (row_in_other first now) ≡ row_in_other second now
twice_is first second (row.InTag t i) = refl
twice_is first second _ = refl

-- the page takes a value where the walk does, or would in a tag without a name
pub page_placed : (around : Option Tag) (page walk : State) (classes : List ValueClass) → Follows around page walk
    → takes_classes (placing walk) classes ≡ true → (point : Place) → placing walk ≡ Takes point → IsPlaceOf page point
page_placed None page walk classes f takes point is = inl (ap placing (page_is None page walk classes f takes) ∙ is)
page_placed (Some around) page walk classes f takes point is =
    let same : page.row ≡ row_in_other around walk.row = row_is (Some around) page.row walk.row classes f.0 takes in
    inr (ap (λ r. row_placing (row_in_other tag.Block r)) same
    ∙ (ap row_placing (twice_is around tag.Block walk.row ∙ block_is around page.row walk.row f.0) ∙ is))

-- a placing is at this place, or refuses the start of a URI there
abbrev pub PlacesAt : Placing → Place → Type 0
PlacesAt own point = (own ≡ Takes point) ⊎ ((own ≡ Refuses code.UriStart) × (point ≡ place.UriStart))

-- placings that take are at one place
takes_same : (a b : Place) → Takes a ≡ Takes b → a ≡ b
takes_same a b is = cc

-- the start of a URI is taken or refused
start_places : (refused : Bool)
    → PlacesAt (if refused then Refuses code.UriStart else Takes place.UriStart) place.UriStart
start_places true = inr (refl, refl)
start_places false = inl refl

-- the start of a URI, in a tag of any name
begun_places : (name : UriName) (tag_ : List ℕ) (point : Place) → Takes place.UriStart ≡ Takes point
    → PlacesAt (uri_placing name tag_ part.Start) point
begun_places name tag_ point is = subst (λ p. PlacesAt (uri_placing name tag_ part.Start) p)
    (takes_same place.UriStart point is) (start_places (refuses_start name tag_))

-- what a tag without a name takes in a URI, a real tag takes, or it refuses its start
uri_places : (name : UriName) (tag_ : List ℕ) (before : UriPart) (point : Place)
    → uri_placing name [] before ≡ Takes point → PlacesAt (uri_placing name tag_ before) point
uri_places uri.Src tag_ part.Start point is = begun_places uri.Src tag_ point is
uri_places uri.Data tag_ part.Start point is = begun_places uri.Data tag_ point is
uri_places uri.Href tag_ part.Start point is = begun_places uri.Href tag_ point is
uri_places uri.Other tag_ part.Start point is = begun_places uri.Other tag_ point is
uri_places name tag_ _ point is = inl is

-- a quoted value's place by a tag without a name, and by a real one
quoted_places : (tag_ : List ℕ) (now : AttributeValue) (point : Place) → quoted_placing [] now ≡ Takes point
    → PlacesAt (quoted_placing tag_ now) point
quoted_places tag_ (value.Uri name before) point is = uri_places name tag_ before point is
quoted_places tag_ _ point is = inl is

-- a row's place in a tag, likewise
tag_row_places : (around : Tag) (inner : TagRow) (point : Place) → tag_row_placing tag.Block inner ≡ Takes point
    → PlacesAt (tag_row_placing around inner) point
tag_row_places (tag.Named k name) (tag_row.Quoted q now) point is = quoted_places name now point is
tag_row_places tag.Block (tag_row.Quoted q now) point is = inl is
tag_row_places around _ point is = inl is

-- every row
row_places : (now : HtmlRow) (point : Place) → row_placing (row_in_other tag.Block now) ≡ Takes point
    → PlacesAt (row_placing now) point
row_places (row.InTag around inner) point is = tag_row_places around inner point is
row_places _ point is = inl is

-- a state's placing, by the place of a value in it
pub state_places : (now : State) (point : Place) → IsPlaceOf now point → PlacesAt (placing now) point
state_places now point (inl is) = inl is
state_places now point (inr is) = row_places now.row point is

-- ---- frames

-- the tag that the page is in where a frame in a hole begins, or none
pub record FrameBegins (page : State) (kind : Kind) : Type 0 where
  pub inside : Option Tag
  pub stands : StandsIn kind inside
  pub follows : Follows inside page (start kind)

-- a frame of attributes begins in a tag, and one of HTML in none
pub frame_begins : (around : Option Tag) (page walk : State) (kind : Kind) → IsBlockKind kind
    → Follows around page walk → takes_class (placing walk) (kind_class kind) ≡ true → IsSettled walk
    → FrameBegins page kind
frame_begins around page walk kind.Html block follows takes settled =
    let f : FramesHtml around page walk = page_html around page walk follows takes settled in
    record { inside = None; stands = tt; follows = f.0 }
frame_begins around page walk kind.Attributes block follows takes settled =
    let f : FramesAttributes around page walk = page_attributes around page walk follows takes settled in
    record { inside = Some f.0; stands = tt; follows = f.1 }
frame_begins around page walk kind.Text block follows takes settled = absurd block
