-- The text of an element: the page as one text goes on as the page in pieces does.
use Rattle.std.proofs.Common.{Bool, List, [], ap, eqb, false, refl, subst, sym, true, ℕ, ◌∷◌, ◌≡◌}
use Rattle.std.specs.Prelude.{Err, None, Ok, Option, Result, Some, if◌then◌else◌}
use Rattle.soy_base.specs.Characters.{less_than}
use Rattle.soy_base.specs.declared.code.Code.{Code}
use Rattle.script_state.specs.CssNext.{css_next}
use Rattle.script_state.specs.JsNext.{js_next}
use Rattle.script_state.specs.declared.css_state.CssState.{CssState}
use Rattle.script_state.specs.declared.css_state.CssState.TheVariants as css
use Rattle.html_state.specs.AfterAll.{after_all}
use Rattle.html_state.specs.ElementNamed.{element_name}
use Rattle.html_state.specs.ElementNext.{element_next, end_tag, may_end_element}
use Rattle.html_state.specs.RowNext.{given_up, goes_on_begun, within_next}
use Rattle.html_state.specs.Texts.{and_then}
use Rattle.html_state.specs.ValueNext.{followed, may_end_style}
use Rattle.html_state.specs.declared.row.Begun.{Begun}
use Rattle.html_state.specs.declared.row.Begun.TheVariants as begun
use Rattle.html_state.specs.declared.row.Element.{Element}
use Rattle.html_state.specs.declared.row.Element.TheVariants as element
use Rattle.html_state.specs.declared.row.HtmlRow.{HtmlRow}
use Rattle.html_state.specs.declared.row.HtmlRow.TheVariants as row
use Rattle.html_state.specs.declared.row.UriPart.TheVariants as part
use Rattle.stable_html.proofs.AsOne.{CssOn, ElementOn, RowOn, element_as_one, unmarked}
use Rattle.stable_html.proofs.OneStyles.{css_on}

-- ---- the text of an element

-- a text whose states have no mark goes on as itself
followed_element : {S : Type 0} (holding : S → Element) (o : Option S)
    → ((s : S) → holding s ≡ element_as_one (holding s))
    → ElementOn (followed holding o) (followed holding o)
followed_element holding (Some now) self = ap Ok (self now)
followed_element holding None self = tt

-- the text of a style goes on by its table
style_element : (o one : Option CssState) → CssOn o one
    → ElementOn (followed element.Style o) (followed element.Style one)
style_element None one on = tt
style_element (Some now) one on = ap (followed element.Style) on

-- every element
element_on : (now : Element) (c : ℕ) → ElementOn (element_next now c) (element_next (element_as_one now) c)
element_on (element.Style now) c = style_element (css_next now c) (css_next (unmarked now) c) (css_on now c)
element_on (element.Script now) c = followed_element element.Script (js_next now c) (λ s. refl)
element_on element.Title c = refl
element_on element.Textarea c = refl
element_on element.Xmp c = refl
element_on element.Iframe c = refl
element_on element.Noembed c = refl
element_on element.Noframes c = refl
element_on element.Noscript c = refl

-- what follows a text of an element, on either side
element_then : (o one : Result Element Code) → ElementOn o one → (f g : Element → Result HtmlRow Code)
    → ((now : Element) → RowOn (f now) (g (element_as_one now))) → RowOn (and_then f o) (and_then g one)
element_then (Err fault) one on f g each = tt
element_then (Ok now) one on f g each = subst (λ o. RowOn (f now) (and_then g o)) (sym on) (each now)

-- several characters
elements_on : (text : List ℕ) (now : Element) → ElementOn (after_all element_next now text)
    (after_all element_next (element_as_one now) text)
elements_on [] now = refl
elements_on (c ∷ text) now =
    first_on text (element_next now c) (element_next (element_as_one now) c) (element_on now c) (elements_on text)
  where
    first_on : (more : List ℕ) (o one : Result Element Code) → ElementOn o one
        → ((now : Element)
        → ElementOn (after_all element_next now more) (after_all element_next (element_as_one now) more))
        → ElementOn (and_then (λ s. after_all element_next s more) o)
        (and_then (λ s. after_all element_next s more) one)
    first_on more (Err fault) one on rest = tt
    first_on more (Ok now) one on rest =
        subst (λ o. ElementOn (after_all element_next now more) (and_then (λ s. after_all element_next s more) o))
        (sym on) (rest now)

-- either way, where the tests are the same
pub row_if : (test same : Bool) (one other two also : Result HtmlRow Code) → same ≡ test → RowOn one two
    → RowOn other also
    → RowOn (if test then one else other) (if same then two else also)
row_if true same one other two also is on on_other = subst (λ b. RowOn one (if b then two else also)) (sym is) on
row_if false same one other two also is on on_other = subst (λ b. RowOn other (if b then two else also)) (sym is)
    on_other

-- a character in an element's text
pub within_on : (now : Element) (c : ℕ) → RowOn (within_next now c) (within_next (element_as_one now) c)
within_on now c =
    row_if (eqb c less_than) (eqb c less_than) (Ok (row.BegunEndTag now (begun.EndTag 1)))
    (and_then (λ following. Ok (row.Within following)) (element_next now c))
    (Ok (row.BegunEndTag (element_as_one now) (begun.EndTag 1)))
    (and_then (λ following. Ok (row.Within following)) (element_next (element_as_one now) c)) refl (part.Path, tt, refl)
    (element_then (element_next now c) (element_next (element_as_one now) c) (element_on now c)
    (λ following. Ok (row.Within following)) (λ following. Ok (row.Within following))
    (λ following. (part.Path, tt, refl)))

-- what proved to be no end tag, and the character that showed it
pub given_up_on : (now : Element) (text : List ℕ) (c : ℕ)
    → RowOn (given_up now text c) (given_up (element_as_one now) text c)
given_up_on now text c =
    element_then (after_all element_next now text) (after_all element_next (element_as_one now) text)
    (elements_on text now) (λ following. within_next following c) (λ following. within_next following c)
    (λ following. within_on following c)

-- the element's end tag is the same
pub end_tag_same : (now : Element) → end_tag (element_as_one now) ≡ end_tag now
end_tag_same (element.Style now) = refl
end_tag_same _ = refl

-- so is its name
pub name_same : (now : Element) → element_name (element_as_one now) ≡ element_name now
name_same (element.Style now) = refl
name_same _ = refl

-- so is what goes on with an end tag
pub goes_on_same : (now : Element) (begun : Begun) (c : ℕ) → goes_on_begun (element_as_one now) begun c
    ≡ goes_on_begun now begun c
goes_on_same now begun.Bang c = refl
goes_on_same now begun.BangDash c = refl
goes_on_same (element.Style now) (begun.EndTag count) c = refl
goes_on_same _ (begun.EndTag count) c = refl

-- a value of a style that may end, may without the mark
pub style_may_end : (now : CssState) → may_end_style now ≡ true → may_end_style (unmarked now) ≡ true
style_may_end css.AfterValue is = refl
style_may_end css.Code is = refl
style_may_end css.Ready is = refl
style_may_end css.Slash is = refl
style_may_end _ is = is

-- so may the text of a style
sheet_may_end : (now : CssState) → may_end_element (element.Style now) ≡ true
    → may_end_element (element.Style (unmarked now)) ≡ true
sheet_may_end css.AfterValue is = refl
sheet_may_end _ is = is

-- so may the text of every element
pub element_may_end : (now : Element) → may_end_element now ≡ true → may_end_element (element_as_one now) ≡ true
element_may_end (element.Style now) is = sheet_may_end now is
element_may_end _ is = is

-- where the page has no fault, the one text has none
pub unless_fault : (test same : Bool) (fault : Code) (one two : Result HtmlRow Code) → (test ≡ true → same ≡ true)
    → RowOn one two → RowOn (if test then one else Err fault) (if same then two else Err fault)
unless_fault true same fault one two is on = subst (λ b. RowOn one (if b then two else Err fault)) (sym (is refl)) on
unless_fault false same fault one two is on = tt
