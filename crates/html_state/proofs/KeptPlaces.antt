-- Characters that keep a place lead to the row that a value leaves behind.
use Rattle.std.proofs.Common.{◌≡◌, ℕ, Bool, true, false, not, eqb, List, [], ◌∷◌, refl, ap, ◌∙◌}
use Rattle.std.specs.Prelude.{Option, Some, None, Result, Ok, Err, IsTrue, if◌then◌else◌}
use Rattle.soy_base.specs.Among.{is_one_of, lacks}
use Rattle.soy_base.specs.Characters.{double_quote, less_than, single_quote}
use Rattle.soy_base.specs.StateAfter.{state_after}
use Rattle.soy_base.specs.declared.code.Code.{Code}
use Rattle.soy_base.specs.declared.code.Code.TheVariants as code
use Rattle.soy_base.specs.declared.place.Place.TheVariants as place
use Rattle.soy_base.specs.declared.place.Placing.TheVariants.{Takes, Refuses}
use Rattle.script_state.specs.CssNext.{css_next}
use Rattle.script_state.specs.CssPlacing.{css_placing}
use Rattle.script_state.specs.JsNext.{js_next}
use Rattle.script_state.specs.JsPlacing.{js_placing}
use Rattle.script_state.specs.declared.css_state.CssState.{CssState}
use Rattle.script_state.specs.declared.css_state.CssState.TheVariants as css
use Rattle.script_state.specs.declared.js_state.JsState.{JsState}
use Rattle.script_state.specs.declared.js_state.JsState.TheVariants as js
use Rattle.html_state.specs.declared.row.AttributeValue.{AttributeValue}
use Rattle.html_state.specs.declared.row.AttributeValue.TheVariants as value
use Rattle.html_state.specs.declared.row.Element.{Element}
use Rattle.html_state.specs.declared.row.Element.TheVariants as element
use Rattle.html_state.specs.declared.row.HtmlRow.{HtmlRow}
use Rattle.html_state.specs.declared.row.HtmlRow.TheVariants as row
use Rattle.html_state.specs.declared.row.Quote.{Quote}
use Rattle.html_state.specs.declared.row.Quote.TheVariants as quote
use Rattle.html_state.specs.declared.row.Reference.{Reference}
use Rattle.html_state.specs.declared.row.State.{State}
use Rattle.html_state.specs.declared.row.Tag.{Tag}
use Rattle.html_state.specs.declared.row.TagRow.{TagRow}
use Rattle.html_state.specs.declared.row.TagRow.TheVariants as tag_row
use Rattle.html_state.specs.declared.row.UriName.{UriName}
use Rattle.html_state.specs.declared.row.UriPart.{UriPart}
use Rattle.html_state.specs.declared.row.UriPart.TheVariants as part
use Rattle.html_state.specs.AfterAll.{after_all}
use Rattle.html_state.specs.AfterValue.{part_after_value}
use Rattle.html_state.specs.ElementNext.{element_next}
use Rattle.html_state.specs.KeepsPlace.{HasNoQuote, HasNoLessThan, KeepsPlaceAt}
use Rattle.html_state.specs.Leads.{Leads, LeadsRow, marked_part}
use Rattle.html_state.specs.Next.{pending, value_character_next}
use Rattle.html_state.specs.RowNext.{in_tag, row_next}
use Rattle.html_state.specs.StatePlacing.{element_placing, placing, quoted_placing, refuses_start, row_placing}
use Rattle.html_state.specs.StatePlacing.{tag_name, tag_row_placing, uri_placing}
use Rattle.html_state.specs.Texts.{and_then}
use Rattle.html_state.specs.QuoteCharacter.{quote_character}
use Rattle.html_state.specs.ValueNext.{followed, value_next}
use Rattle.html_state.proofs.Pieces.{none_of_one, none_of_two, still_text, table_text, within_text}

-- ---- a value's characters in a quoted value

abbrev pub in_quotes : Tag → Quote → AttributeValue → HtmlRow
in_quotes around quote now = row.InTag around (tag_row.Quoted quote now)

no_own_quote : (quote : Quote) (c : ℕ) → not (is_one_of (double_quote ∷ single_quote ∷ []) c) ≡ true →
    (eqb c (quote_character quote)) ≡ false
no_own_quote quote.Single c is = (none_of_two (eqb c double_quote) (eqb c single_quote) is).1
no_own_quote quote.Double c is = (none_of_two (eqb c double_quote) (eqb c single_quote) is).0

module _ (around : Tag) (quote : Quote) where
  quoted_one : (now : AttributeValue) (c : ℕ) → (eqb c (quote_character quote)) ≡ false →
      row_next false (in_quotes around quote now) c ≡ and_then (λ following. Ok (in_quotes around quote following))
      (value_next false now c)
  quoted_one now c no_quote =
      rw (no_quote) (elim (value_next false now c)
      as (λ o. and_then (λ following. Ok (in_tag around following))
      (and_then (λ following. Ok (Some (tag_row.Quoted quote following))) o)
      ≡ and_then (λ following. Ok (in_quotes around quote following)) o)
      [ Ok following ↦ refl | Err fault ↦ refl ])

  quoted_text : (now : AttributeValue) (out : List ℕ) → HasNoQuote out →
      after_all (row_next false) (in_quotes around quote now) out
      ≡ and_then (λ following. Ok (in_quotes around quote following)) (after_all (value_next false) now out)
  quoted_text now out none =
      within_text (row_next false) (value_next false) (in_quotes around quote) (double_quote ∷ single_quote ∷ [])
      (λ x c is. quoted_one x c (no_own_quote quote c is)) now out none

  still_quoted : (now : AttributeValue) → ((c : ℕ) → value_next false now c ≡ Ok now) → (out : List ℕ) →
      HasNoQuote out →
      after_all (row_next false) (in_quotes around quote now) out ≡ Ok (in_quotes around quote now)
  still_quoted now still out none =
      quoted_text now out none ∙ ap (and_then (λ following. Ok (in_quotes around quote following)))
      (still_text (value_next false) now still out)

  uri_leads : (attribute : UriName) (before : UriPart) (out : List ℕ) → HasNoQuote out →
      marked_part before before ≡ part_after_value before →
      LeadsRow (in_quotes around quote (value.Uri attribute before)) out
  uri_leads attribute before out none mark = (
    in_quotes around quote (value.Uri attribute before),
    still_quoted (value.Uri attribute before) (λ c. refl) out none,
    ap (λ p. in_quotes around quote (value.Uri attribute p)) mark,
  )

  start_safe : (refused : Bool) (out : List ℕ) → KeepsPlaceAt
      (if refused then Refuses code.UriStart else Takes place.UriStart) out → HasNoQuote out
  start_safe true out never = absurd never
  start_safe false out none = none

  pub uri_holds : (name : List ℕ) (attribute : UriName) (before : UriPart) (out : List ℕ) →
      KeepsPlaceAt (uri_placing attribute name before) out →
      LeadsRow (in_quotes around quote (value.Uri attribute before)) out
  uri_holds name attribute part.Start out safe = uri_leads attribute part.Start out
      (start_safe (refuses_start attribute name) out safe) refl
  uri_holds name attribute part.Path out safe = uri_leads attribute part.Path out safe refl
  uri_holds name attribute part.Query out safe = uri_leads attribute part.Query out safe refl
  uri_holds name attribute part.Fragment out safe = uri_leads attribute part.Fragment out safe refl
  uri_holds name attribute (part.Scheme prefix) out never = absurd never
  uri_holds name attribute part.NoScheme out never = absurd never
  uri_holds name attribute part.AfterStart out never = absurd never
  uri_holds name attribute part.BadScheme out never = absurd never

  style_leads : (before now : CssState) (out : List ℕ) → HasNoQuote out → state_after css_next before out ≡ Some now →
      after_all (row_next false) (in_quotes around quote (value.Style before)) out
      ≡ Ok (in_quotes around quote (value.Style now))
  style_leads before now out none led =
      quoted_text (value.Style before) out none
      ∙ ap (and_then (λ following. Ok (in_quotes around quote following)))
      (table_text css_next value.Style (value_next false) (λ s c. refl) before out ∙ ap (followed value.Style) led)

  style_holds : (before : CssState) (out : List ℕ) → KeepsPlaceAt (css_placing before) out →
      LeadsRow (in_quotes around quote (value.Style before)) out
  style_holds css.Ready out safe = (
    in_quotes around quote (value.Style css.Code),
    style_leads css.Ready css.Code out safe.1 safe.2,
    refl,
  )
  style_holds css.Single out safe = (
    in_quotes around quote (value.Style css.Single),
    style_leads css.Single css.Single out safe.1 safe.2,
    refl,
  )
  style_holds css.Double out safe = (
    in_quotes around quote (value.Style css.Double),
    style_leads css.Double css.Double out safe.1 safe.3,
    refl,
  )
  style_holds css.Code out never = absurd never
  style_holds css.Slash out never = absurd never
  style_holds css.Comment out never = absurd never
  style_holds css.CommentStar out never = absurd never
  style_holds css.CodeEscape out never = absurd never
  style_holds css.SingleEscape out never = absurd never
  style_holds css.DoubleEscape out never = absurd never
  style_holds css.AfterValue out never = absurd never

  pub quoted_holds : (name : List ℕ) (now : AttributeValue) (out : List ℕ) →
      KeepsPlaceAt (quoted_placing name now) out → LeadsRow (in_quotes around quote now) out
  quoted_holds name (value.Uri attribute before) out safe = uri_holds name attribute before out safe
  quoted_holds name (value.Style before) out safe = style_holds before out safe
  quoted_holds name value.Plain out safe = (
    in_quotes around quote value.Plain,
    still_quoted value.Plain (λ c. refl) out safe,
    refl,
  )
  quoted_holds name value.Event out never = absurd never
  quoted_holds name value.NoPrint out never = absurd never

-- ---- in an element's text

element_one : (now : Element) (c : ℕ) → (eqb c less_than) ≡ false →
    row_next false (row.Within now) c ≡ and_then (λ following. Ok (row.Within following)) (element_next now c)
element_one now c no_tag = rw (no_tag) refl

element_text : (now : Element) (out : List ℕ) → HasNoLessThan out →
    after_all (row_next false) (row.Within now) out
    ≡ and_then (λ following. Ok (row.Within following)) (after_all element_next now out)
element_text now out none =
    within_text (row_next false) element_next row.Within (less_than ∷ [])
    (λ x c is. element_one x c (none_of_one (eqb c less_than) is)) now out none

still_element : (now : Element) → ((c : ℕ) → element_next now c ≡ Ok now) → (out : List ℕ) → HasNoLessThan out →
    after_all (row_next false) (row.Within now) out ≡ Ok (row.Within now)
still_element now still out none =
    element_text now out none ∙ ap (and_then (λ following. Ok (row.Within following)))
    (still_text element_next now still out)

sheet_leads : (before now : CssState) (out : List ℕ) → HasNoLessThan out → state_after css_next before out ≡ Some now →
    after_all (row_next false) (row.Within (element.Style before)) out ≡ Ok (row.Within (element.Style now))
sheet_leads before now out none led =
    element_text (element.Style before) out none
    ∙ ap (and_then (λ following. Ok (row.Within following)))
    (table_text css_next element.Style element_next (λ s c. refl) before out ∙ ap (followed element.Style) led)

sheet_holds : (before : CssState) (out : List ℕ) → KeepsPlaceAt (css_placing before) out →
    LeadsRow (row.Within (element.Style before)) out
sheet_holds css.Ready out safe = (
  row.Within (element.Style css.Code),
  sheet_leads css.Ready css.Code out safe.0 safe.2,
  refl,
)
sheet_holds css.Single out safe = (
  row.Within (element.Style css.Single),
  sheet_leads css.Single css.Single out safe.0 safe.2,
  refl,
)
sheet_holds css.Double out safe = (
  row.Within (element.Style css.Double),
  sheet_leads css.Double css.Double out safe.0 safe.3,
  refl,
)
sheet_holds css.Code out never = absurd never
sheet_holds css.Slash out never = absurd never
sheet_holds css.Comment out never = absurd never
sheet_holds css.CommentStar out never = absurd never
sheet_holds css.CodeEscape out never = absurd never
sheet_holds css.SingleEscape out never = absurd never
sheet_holds css.DoubleEscape out never = absurd never
sheet_holds css.AfterValue out never = absurd never

script_leads : (state : JsState) (out : List ℕ) → HasNoLessThan out → state_after js_next state out ≡ Some state →
    LeadsRow (row.Within (element.Script state)) out
script_leads state out none led = (
  row.Within (element.Script state),
  element_text (element.Script state) out none
      ∙ ap (and_then (λ following. Ok (row.Within following)))
      (table_text js_next element.Script element_next (λ s c. refl) state out ∙ ap (followed element.Script) led),
  refl,
)

script_holds : (state : JsState) (out : List ℕ) → KeepsPlaceAt (js_placing state) out →
    LeadsRow (row.Within (element.Script state)) out
script_holds js.Code out safe = script_leads js.Code out safe.0 safe.1
script_holds js.Single out safe = script_leads js.Single out safe.0 safe.1
script_holds js.Double out safe = script_leads js.Double out safe.0 safe.1
script_holds js.Slash out never = absurd never
script_holds js.Line out never = absurd never
script_holds js.Block out never = absurd never
script_holds js.BlockStar out never = absurd never
script_holds js.SingleEscape out never = absurd never
script_holds js.DoubleEscape out never = absurd never

element_holds : (now : Element) (out : List ℕ) → KeepsPlaceAt (element_placing now) out → LeadsRow (row.Within now) out
element_holds element.Title out safe = (
  row.Within element.Title,
  still_element element.Title (λ c. refl) out safe,
  refl,
)
element_holds element.Textarea out safe = (
  row.Within element.Textarea,
  still_element element.Textarea (λ c. refl) out safe,
  refl,
)
element_holds (element.Style state) out safe = sheet_holds state out safe
element_holds (element.Script state) out safe = script_holds state out safe
element_holds element.Xmp out never = absurd never
element_holds element.Iframe out never = absurd never
element_holds element.Noembed out never = absurd never
element_holds element.Noframes out never = absurd never
element_holds element.Noscript out never = absurd never

-- ---- every row, and every state

tag_holds : (around : Tag) (inner : TagRow) (out : List ℕ) → KeepsPlaceAt (tag_row_placing around inner) out →
    LeadsRow (row.InTag around inner) out
tag_holds around (tag_row.Quoted quote now) out safe = quoted_holds around quote (tag_name around) now out safe
tag_holds around tag_row.BeforeName out never = absurd never
tag_holds around tag_row.AfterPrinted out never = absurd never
tag_holds around (tag_row.AttributeName name) out never = absurd never
tag_holds around (tag_row.BeforeValue attribute) out never = absurd never
tag_holds around (tag_row.Unquoted now) out never = absurd never
tag_holds around tag_row.AfterQuoted out never = absurd never
tag_holds around tag_row.SelfClosing out never = absurd never

pub row_holds : (before : HtmlRow) (out : List ℕ) → KeepsPlaceAt (row_placing before) out → LeadsRow before out
row_holds row.Data out safe = (row.Data, safe, refl)
row_holds (row.InTag around inner) out safe = tag_holds around inner out safe
row_holds (row.Within now) out safe = element_holds now out safe
row_holds row.Plain out safe = (row.Plain, still_text (row_next false) row.Plain (λ c. refl) out, refl)
row_holds row.TagOpen out never = absurd never
row_holds row.EndTagOpen out never = absurd never
row_holds (row.TagName kind name) out never = absurd never
row_holds (row.MarkupDeclaration prefix) out never = absurd never
row_holds (row.InDeclaration inner) out never = absurd never
row_holds (row.BegunEndTag now begun) out never = absurd never
row_holds row.Outside out never = absurd never

-- a value's characters leave the reference
pub value_rows : (reference : Reference) (before : HtmlRow) (out : List ℕ) →
    after_all value_character_next (pending before reference) out
    ≡ and_then (λ now. Ok (pending now reference)) (after_all (row_next false) before out)
value_rows reference before [] = refl
value_rows reference before (c ∷ rest) =
    elim (row_next false before c) as (λ o. and_then (λ s. after_all value_character_next s rest)
    (and_then (λ now. Ok (pending now reference)) o)
    ≡ and_then (λ now. Ok (pending now reference)) (and_then (λ r. after_all (row_next false) r rest) o))
    [ Ok now ↦ value_rows reference now rest | Err fault ↦ refl ]

pub holds : (before : State) (out : List ℕ) → KeepsPlaceAt (placing before) out → Leads before out
holds before out safe =
    let leads = row_holds before.row out safe in (
      pending leads.0 before.reference,
      value_rows before.reference before.row out ∙ ap (and_then (λ now. Ok (pending now before.reference))) leads.1,
      ap (λ r. pending r before.reference) leads.2,
    )

-- text without `<` keeps the place Text
data_one : (c : ℕ) → (eqb c less_than) ≡ false → row_next false row.Data c ≡ Ok row.Data
data_one c no_tag = rw (no_tag) refl

pub safe_text : (out : List ℕ) → HasNoLessThan out → after_all (row_next false) row.Data out ≡ Ok row.Data
safe_text out none =
    within_text (row_next false) (λ (x : Unit {0}) c. Ok x) (λ x. row.Data) (less_than ∷ [])
    (λ x c is. data_one c (none_of_one (eqb c less_than) is)) tt out none
    ∙ ap (and_then (λ x. Ok row.Data)) (still_text (λ (x : Unit {0}) c. Ok x) tt (λ c. refl) out)
