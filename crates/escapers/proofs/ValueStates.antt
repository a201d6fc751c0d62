-- Whole values of a script and of a style lead back to where no literal, comment or escape is open.
use Rattle.std.proofs.Common.{◌≡◌, ℕ, true, false, List, [], ◌∷◌, ◌++◌, Some, refl, sym, subst, ◌∙◌, ⊎_elim, codes}
use Rattle.std.proofs.Common.{arith}
use Rattle.std.specs.List.{list_all}
use Rattle.std.proofs.lemmas.Bool.{and_parts, both_ways, cases_Bool, cond-true, cond-false}
use Rattle.std.proofs.lemmas.Bool.Decides.{nat_tests}
use Rattle.soy_base.specs.StateAfter.{state_after}
use Rattle.soy_base.proofs.States.{state_after-append_some, state_after-cons}
use Rattle.esc_table.specs.EscapedText.{escaped_text}
use Rattle.escapers.specs.CssValue.{css_value, is_css_value, is_value_character}
use Rattle.escapers.specs.IsJsWord.{is_word_character}
use Rattle.escapers.specs.JsRows.{js_rows}
use Rattle.escapers.specs.JsValue.{js_literal, js_word}
use Rattle.escapers.proofs.StringStates.{js_single_stays}
use Rattle.script_state.specs.CssNext.{css_next}
use Rattle.script_state.specs.JsNext.{js_next}
use Rattle.script_state.specs.declared.js_state.JsState.TheVariants as js
use Rattle.script_state.specs.declared.css_state.CssState.TheVariants as css

-- a string literal: a quote, the text within it, a quote
pub literal_leads : (text : List ℕ) → state_after js_next js.Code (js_literal text) ≡ Some js.Code
literal_leads text =
    state_after-append_some js_next js.Single js.Single (escaped_text js_rows text) (codes "'") (js_single_stays text)

-- a word between spaces
word_character : (c : ℕ) → is_word_character c ≡ true → js_next js.Code c ≡ Some js.Code
word_character c is = grind (arith, nat_tests)

word_leads : (text rest : List ℕ) → list_all is_word_character text ≡ true
    → state_after js_next js.Code (text ++ rest) ≡ state_after js_next js.Code rest
word_leads [] rest are = refl
word_leads (c ∷ text) rest are =
    let parts = and_parts _ _ are in
    state_after-cons js_next js.Code js.Code c (text ++ rest) (word_character c parts.0) ∙ word_leads text rest parts.1

pub js_word_leads : (text : List ℕ) → list_all is_word_character text ≡ true
    → state_after js_next js.Code (js_word text) ≡ Some js.Code
js_word_leads text are = word_leads text (codes " ") are

-- a character of a style's value
ready_character : (c : ℕ) → is_value_character c ≡ true → css_next css.Ready c ≡ Some css.Code
ready_character c is = grind (arith, nat_tests)

code_character : (c : ℕ) → is_value_character c ≡ true → css_next css.Code c ≡ Some css.Code
code_character c is = grind (arith, nat_tests)

code_leads : (text : List ℕ) → list_all is_value_character text ≡ true
    → state_after css_next css.Code text ≡ Some css.Code
code_leads [] are = refl
code_leads (c ∷ text) are =
    let parts = and_parts _ _ are in
    state_after-cons css_next css.Code css.Code c text (code_character c parts.0) ∙ code_leads text parts.1

value_leads : (text : List ℕ) → is_css_value text ≡ true → state_after css_next css.Ready text ≡ Some css.Code
value_leads [] is = absurd (both_ways false refl is)
value_leads (c ∷ text) is =
    let parts = and_parts _ _ is in
    state_after-cons css_next css.Ready css.Code c text (ready_character c parts.0) ∙ code_leads text parts.1

-- what stands for a value of a style is a value
pub css_value_is : (text : List ℕ) → is_css_value (css_value text) ≡ true
css_value_is text =
    ⊎_elim
    (λ is. subst (λ l. is_css_value l ≡ true) (sym (cond-true (is_css_value text) text (codes "zSoyz") is)) is)
    (λ is_not. subst (λ l. is_css_value l ≡ true) (sym (cond-false (is_css_value text) text (codes "zSoyz") is_not))
    refl)
    (cases_Bool (is_css_value text))

pub css_value_leads : (text : List ℕ) → state_after css_next css.Ready (css_value text) ≡ Some css.Code
css_value_leads text = value_leads (css_value text) (css_value_is text)
