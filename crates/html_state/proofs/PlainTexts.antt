-- Static text that stays in its row.
use Rattle.std.proofs.Common.{◌≡◌, ℕ, Bool, true, false, not, eqb, ◌&&◌, List, [], ◌∷◌, refl, ap, ◌∙◌}
use Rattle.std.specs.Prelude.{Option, Some, None, Result, Ok, Err, IsTrue, if◌then◌else◌}
use Rattle.soy_base.specs.Among.{is_one_of, lacks}
use Rattle.soy_base.specs.Characters.{ampersand, less_than}
use Rattle.soy_base.specs.StateAfter.{state_after}
use Rattle.soy_base.specs.declared.code.Code.{Code}
use Rattle.script_state.specs.CssNext.{css_next}
use Rattle.script_state.specs.JsNext.{js_next}
use Rattle.script_state.specs.declared.css_state.CssState.{CssState}
use Rattle.script_state.specs.declared.js_state.JsState.{JsState}
use Rattle.html_state.specs.declared.row.AttributeValue.{AttributeValue}
use Rattle.html_state.specs.declared.row.AttributeValue.TheVariants as value
use Rattle.html_state.specs.declared.row.Element.{Element}
use Rattle.html_state.specs.declared.row.Element.TheVariants as element
use Rattle.html_state.specs.declared.row.HtmlRow.TheVariants as row
use Rattle.html_state.specs.declared.row.Quote.{Quote}
use Rattle.html_state.specs.declared.row.Reference.{Reference}
use Rattle.html_state.specs.declared.row.Reference.TheVariants as reference
use Rattle.html_state.specs.declared.row.State.{State}
use Rattle.html_state.specs.declared.row.Tag.{Tag}
use Rattle.html_state.specs.declared.row.TagRow.TheVariants as tag_row
use Rattle.html_state.specs.declared.row.UriName.{UriName}
use Rattle.html_state.specs.declared.row.UriPart.{UriPart}
use Rattle.html_state.specs.AfterAll.{after_all}
use Rattle.html_state.specs.ElementNext.{element_next}
use Rattle.html_state.specs.Next.{at_row, has_references, next, pending}
use Rattle.html_state.specs.PartNext.{part_next}
use Rattle.html_state.specs.RowAt.{in_script, in_style, inside, quoted}
use Rattle.html_state.specs.RowNext.{in_tag}
use Rattle.html_state.specs.TextKinds.{IsPlainRawtext, IsRcdata, RunsNothing}
use Rattle.html_state.specs.Texts.{and_then}
use Rattle.html_state.specs.QuoteCharacter.{quote_character}
use Rattle.html_state.specs.ValueNext.{followed, value_next}
use Rattle.html_state.proofs.Pieces.{and_no, none_of_one, none_of_two, still_text, table_text, within_text}

-- ---- data

data_one : (c : ℕ) → (eqb c less_than) ≡ false → (eqb c ampersand) ≡ false →
    next (at_row row.Data) c ≡ Ok (at_row row.Data)
data_one c no_tag no_reference = rw (no_tag, no_reference) refl

pub plain_data : (text : List ℕ) → IsTrue (lacks (less_than ∷ ampersand ∷ []) text) →
    after_all next (at_row row.Data) text ≡ Ok (at_row row.Data)
plain_data text none =
    within_text next (λ (x : Unit {0}) c. Ok x) (λ x. at_row row.Data) (less_than ∷ ampersand ∷ [])
    (λ x c is. let no = none_of_two (eqb c less_than) (eqb c ampersand) is in data_one c no.0 no.1) tt text none
    ∙ ap (and_then (λ x. Ok (at_row row.Data))) (still_text (λ (x : Unit {0}) c. Ok x) tt (λ c. refl) text)

-- ---- the text of elements

-- without `<` and `&` in any of them
element_one : (now : Element) (c : ℕ) → (eqb c less_than) ≡ false → (eqb c ampersand) ≡ false →
    next (inside now) c ≡ and_then (λ following. Ok (inside following)) (element_next now c)
element_one now c no_tag no_reference =
    rw (no_tag, no_reference) (elim (element_next now c)
    as (λ o. and_then (λ following. Ok (pending following reference.Decided))
    (and_then (λ following. Ok (row.Within following)) o) ≡ and_then (λ following. Ok (inside following)) o)
    [ Ok following ↦ refl | Err fault ↦ refl ])

pub plain_element : (now : Element) (text : List ℕ) → IsTrue (lacks (less_than ∷ ampersand ∷ []) text) →
    after_all next (inside now) text ≡ and_then (λ following. Ok (inside following)) (after_all element_next now text)
plain_element now text none =
    within_text next element_next inside (less_than ∷ ampersand ∷ [])
    (λ x c is. let no = none_of_two (eqb c less_than) (eqb c ampersand) is in element_one x c no.0 no.1) now text none

rcdata_still : (now : Element) → IsRcdata now → (c : ℕ) → element_next now c ≡ Ok now
rcdata_still element.Title is c = refl
rcdata_still element.Textarea is c = refl
rcdata_still (element.Style state) never c = absurd never
rcdata_still element.Xmp never c = absurd never
rcdata_still element.Iframe never c = absurd never
rcdata_still element.Noembed never c = absurd never
rcdata_still element.Noframes never c = absurd never
rcdata_still element.Noscript never c = absurd never
rcdata_still (element.Script state) never c = absurd never

pub plain_rcdata : (now : Element) (text : List ℕ) → IsRcdata now → IsTrue (lacks (less_than ∷ ampersand ∷ []) text) →
    after_all next (inside now) text ≡ Ok (inside now)
plain_rcdata now text is none =
    plain_element now text none ∙ ap (and_then (λ following. Ok (inside following)))
    (still_text element_next now (rcdata_still now is) text)

rawtext_one : (now : Element) → IsPlainRawtext now → (c : ℕ) → (eqb c less_than) ≡ false →
    next (inside now) c ≡ Ok (inside now)
rawtext_one element.Xmp is c no_tag = rw (no_tag, and_no (eqb c ampersand)) refl
rawtext_one element.Iframe is c no_tag = rw (no_tag, and_no (eqb c ampersand)) refl
rawtext_one element.Noembed is c no_tag = rw (no_tag, and_no (eqb c ampersand)) refl
rawtext_one element.Noframes is c no_tag = rw (no_tag, and_no (eqb c ampersand)) refl
rawtext_one element.Noscript is c no_tag = rw (no_tag, and_no (eqb c ampersand)) refl
rawtext_one element.Title never c no_tag = absurd never
rawtext_one element.Textarea never c no_tag = absurd never
rawtext_one (element.Style state) never c no_tag = absurd never
rawtext_one (element.Script state) never c no_tag = absurd never

pub plain_rawtext : (now : Element) (text : List ℕ) → IsPlainRawtext now → IsTrue (lacks (less_than ∷ []) text) →
    after_all next (inside now) text ≡ Ok (inside now)
plain_rawtext now text is none =
    within_text next (λ (x : Unit {0}) c. Ok x) (λ x. inside now) (less_than ∷ [])
    (λ x c lacking. rawtext_one now is c (none_of_one (eqb c less_than) lacking)) tt text none
    ∙ ap (and_then (λ x. Ok (inside now))) (still_text (λ (x : Unit {0}) c. Ok x) tt (λ c. refl) text)

-- ---- scripts and styles, where an `&` has no rule

script_one : (state : JsState) (c : ℕ) → (eqb c less_than) ≡ false →
    next (in_script state) c ≡ and_then (λ following. Ok (in_script following)) (followed (λ s. s) (js_next state c))
script_one state c no_tag =
    rw (no_tag, and_no (eqb c ampersand)) (elim (js_next state c)
    as (λ o. and_then (λ following. Ok (pending following
    (if eqb c ampersand && has_references following then reference.Begun [] else reference.Decided)))
    (and_then (λ following. Ok (row.Within following)) (followed element.Script o))
    ≡ and_then (λ following. Ok (in_script following)) (followed (λ s. s) o))
    [ Some following ↦ rw (and_no (eqb c ampersand)) refl | None ↦ refl ])

pub plain_script : (state : JsState) (text : List ℕ) → IsTrue (lacks (less_than ∷ []) text) →
    after_all next (in_script state) text ≡ followed in_script (state_after js_next state text)
plain_script state text none =
    within_text next (λ s c. followed (λ t. t) (js_next s c)) in_script (less_than ∷ [])
    (λ s c is. script_one s c (none_of_one (eqb c less_than) is)) state text none
    ∙ (ap (and_then (λ following. Ok (in_script following)))
    (table_text js_next (λ s. s) (λ s c. followed (λ t. t) (js_next s c)) (λ s c. refl) state text)
    ∙ elim (state_after js_next state text) as (λ o. and_then (λ following. Ok (in_script following))
    (followed (λ s. s) o) ≡ followed in_script o)
    [ Some following ↦ refl | None ↦ refl ])

style_one : (state : CssState) (c : ℕ) → (eqb c less_than) ≡ false →
    next (in_style state) c ≡ and_then (λ following. Ok (in_style following)) (followed (λ s. s) (css_next state c))
style_one state c no_tag =
    rw (no_tag, and_no (eqb c ampersand)) (elim (css_next state c)
    as (λ o. and_then (λ following. Ok (pending following
    (if eqb c ampersand && has_references following then reference.Begun [] else reference.Decided)))
    (and_then (λ following. Ok (row.Within following)) (followed element.Style o))
    ≡ and_then (λ following. Ok (in_style following)) (followed (λ s. s) o))
    [ Some following ↦ rw (and_no (eqb c ampersand)) refl | None ↦ refl ])

pub plain_style : (state : CssState) (text : List ℕ) → IsTrue (lacks (less_than ∷ []) text) →
    after_all next (in_style state) text ≡ followed in_style (state_after css_next state text)
plain_style state text none =
    within_text next (λ s c. followed (λ t. t) (css_next s c)) in_style (less_than ∷ [])
    (λ s c is. style_one s c (none_of_one (eqb c less_than) is)) state text none
    ∙ (ap (and_then (λ following. Ok (in_style following)))
    (table_text css_next (λ s. s) (λ s c. followed (λ t. t) (css_next s c)) (λ s c. refl) state text)
    ∙ elim (state_after css_next state text) as (λ o. and_then (λ following. Ok (in_style following))
    (followed (λ s. s) o) ≡ followed in_style o)
    [ Some following ↦ refl | None ↦ refl ])

-- ---- quoted values

module _ (around : Tag) (quote : Quote) where
  quoted_one : (now : AttributeValue) (c : ℕ) → (eqb c (quote_character quote)) ≡ false → (eqb c ampersand) ≡ false →
      next (quoted around quote now) c ≡ and_then (λ following. Ok (quoted around quote following))
      (value_next true now c)
  quoted_one now c no_quote no_reference =
      rw (no_reference, no_quote) (elim (value_next true now c)
      as (λ o. and_then (λ following. Ok (pending following reference.Decided))
      (and_then (λ following. Ok (in_tag around following))
      (and_then (λ following. Ok (Some (tag_row.Quoted quote following))) o))
      ≡ and_then (λ following. Ok (quoted around quote following)) o)
      [ Ok following ↦ refl | Err fault ↦ refl ])

  pub plain_quoted : (now : AttributeValue) (text : List ℕ) →
      IsTrue (lacks (quote_character quote ∷ ampersand ∷ []) text) →
      after_all next (quoted around quote now) text ≡ and_then (λ following. Ok (quoted around quote following))
      (after_all (value_next true) now text)
  plain_quoted now text none =
      within_text next (value_next true) (quoted around quote) (quote_character quote ∷ ampersand ∷ [])
      (λ x c is. let no = none_of_two (eqb c (quote_character quote)) (eqb c ampersand) is in quoted_one x c no.0 no.1)
      now text none

runs_nothing : (now : AttributeValue) → RunsNothing now → (c : ℕ) → value_next true now c ≡ Ok now
runs_nothing value.Event is c = refl
runs_nothing value.NoPrint is c = refl
runs_nothing value.Plain is c = refl
runs_nothing (value.Uri name part) never c = absurd never
runs_nothing (value.Style state) never c = absurd never

pub plain_value : (now : AttributeValue) (text : List ℕ) → RunsNothing now →
    after_all (value_next true) now text ≡ Ok now
plain_value now text is = still_text (value_next true) now (runs_nothing now is) text

pub plain_style_value : (state : CssState) (text : List ℕ) →
    after_all (value_next true) (value.Style state) text ≡ followed value.Style (state_after css_next state text)
plain_style_value state text = table_text css_next value.Style (value_next true) (λ s c. refl) state text

pub plain_uri : (name : UriName) (part : UriPart) (text : List ℕ) →
    after_all (value_next true) (value.Uri name part) text
    ≡ and_then (λ following. Ok (value.Uri name following)) (after_all part_next part text)
plain_uri name part [] = refl
plain_uri name part (c ∷ rest) =
    elim (part_next part c) as (λ o. and_then (λ v. after_all (value_next true) v rest)
    (and_then (λ following. Ok (value.Uri name following)) o)
    ≡ and_then (λ following. Ok (value.Uri name following)) (and_then (λ p. after_all part_next p rest) o))
    [ Ok following ↦ plain_uri name following rest | Err fault ↦ refl ]
