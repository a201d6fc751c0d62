-- Lemmas on plain text of script and style, and on lines.
use Rattle.std.proofs.Common.{◌≡◌, ◌⊎◌, ℕ, List, [], ◌∷◌, ◌++◌, refl, ◌∙◌, ap, inl, inr}
use Rattle.std.specs.Prelude.{Option, Some, All, Bool, true, false, if◌then◌else◌}
use Rattle.std.proofs.lemmas.Bool.{ne_eqb}
use Rattle.std.proofs.lemmas.List.Elements.{All-head, All-tail}
use Rattle.soy_base.specs.Characters.{slash, backslash, single_quote, double_quote, backtick}
use Rattle.script_state.specs.CssNext.{css_next, css_code_next, is_before_value}
use Rattle.script_state.specs.IsPlainScript.{IsPlainScript}
use Rattle.script_state.specs.IsPlainStyle.{IsPlainStyle}
use Rattle.script_state.specs.JsNext.{js_next}
use Rattle.soy_base.specs.StateAfter.{state_after}
use Rattle.script_state.specs.declared.js_state.JsState.TheVariants as js
use Rattle.script_state.specs.declared.css_state.CssState.{CssState}
use Rattle.script_state.specs.declared.css_state.CssState.TheVariants as css
use Rattle.soy_base.proofs.States.{state_after-cons, state_after-append_some}

-- a plain character stays in script's Code
pub js_next-plain : (c : ℕ) → IsPlainScript c → js_next js.Code c ≡ Some js.Code
js_next-plain c is =
    rw (ne_eqb c slash is.0, ne_eqb c single_quote is.1, ne_eqb c double_quote is.2, ne_eqb c backtick is.3) refl

-- and so does plain text
pub plain_script : (text : List ℕ) → All IsPlainScript text → state_after js_next js.Code text ≡ Some js.Code
plain_script [] is = refl
plain_script (c ∷ rest) is =
    state_after-cons js_next js.Code js.Code c rest (js_next-plain c (All-head IsPlainScript c rest is))
    ∙ plain_script rest (All-tail IsPlainScript c rest is)

-- a plain character of a style leads to Ready or to Code
pub css_code_next-plain : (c : ℕ) → IsPlainStyle c
    → css_code_next c ≡ (if is_before_value c then css.Ready else css.Code)
css_code_next-plain c is =
    rw (ne_eqb c slash is.0, ne_eqb c backslash is.1, ne_eqb c single_quote is.2, ne_eqb c double_quote is.3) refl

-- where a character of a style leads, Code or Ready
abbrev pub led_to : ℕ → CssState
led_to c = (if is_before_value c then css.Ready else css.Code)

-- Code or Ready
abbrev pub IsBetween : Option CssState → Type 0
IsBetween o = (o ≡ Some css.Code) ⊎ (o ≡ Some css.Ready)

css_next-plain : (from : CssState) (c : ℕ) → IsBetween (Some from) → IsPlainStyle c → css_next from c ≡ Some (led_to c)
css_next-plain css.Code c between is = ap Some (css_code_next-plain c is)
css_next-plain css.Ready c between is = ap Some (css_code_next-plain c is)
css_next-plain _ c (inl never) is = cc
css_next-plain _ c (inr never) is = cc

led_between : (b : Bool) → IsBetween (Some (if b then css.Ready else css.Code))
led_between true = inr refl
led_between false = inl refl

-- plain text of a style stays between Code and Ready
plain_style_from : (from : CssState) (text : List ℕ) → IsBetween (Some from) → All IsPlainStyle text
    → IsBetween (state_after css_next from text)
plain_style_from from [] between all = between
plain_style_from from (c ∷ rest) between all =
    rw (state_after-cons css_next from (led_to c) c rest
    (css_next-plain from c between (All-head IsPlainStyle c rest all)))
    (plain_style_from (led_to c) rest (led_between (is_before_value c)) (All-tail IsPlainStyle c rest all))

plain_style_last : (text : List ℕ) (last : ℕ) → IsBetween (state_after css_next css.Code text) → IsPlainStyle last
    → state_after css_next css.Code (text ++ last ∷ []) ≡ Some (led_to last)
plain_style_last text last (inl is) plain =
    state_after-append_some css_next css.Code css.Code text (last ∷ []) is
    ∙ state_after-cons css_next css.Code (led_to last) last [] (css_next-plain css.Code last (inl refl) plain)
plain_style_last text last (inr is) plain =
    state_after-append_some css_next css.Code css.Ready text (last ∷ []) is
    ∙ state_after-cons css_next css.Ready (led_to last) last [] (css_next-plain css.Ready last (inr refl) plain)

-- after plain text of a style the last character alone decides
pub plain_style : (text : List ℕ) (last : ℕ) → All IsPlainStyle text → IsPlainStyle last
    → state_after css_next css.Code (text ++ last ∷ []) ≡ Some (led_to last)
plain_style text last all plain = plain_style_last text last (plain_style_from css.Code text (inl refl) all) plain
