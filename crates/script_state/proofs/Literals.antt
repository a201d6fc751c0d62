-- Lemmas on string literals, for any table that has their rows.
use Rattle.std.proofs.Common.{◌≡◌, ◌≢◌, ℕ, List, [], ◌∷◌, ◌++◌, refl, ◌∙◌, ap}
use Rattle.std.specs.Prelude.{Option, Some, false, ◌==◌}
use Rattle.std.proofs.lemmas.Bool.{ne_eqb}
use Rattle.soy_base.specs.Characters.{backslash, line_feed, carriage_return, asterisk}
use Rattle.script_state.specs.IsLiteralText.{IsLiteralText, empty, plain, escape}
use Rattle.soy_base.specs.StateAfter.{state_after}
use Rattle.script_state.specs.StringNext.{string_next}
use Rattle.script_state.specs.declared.css_state.CssState.{CssState}
use Rattle.script_state.specs.CssNext.{css_next, css_code_next}
use Rattle.script_state.specs.IsStyleCode.{IsStyleCode}
use Rattle.script_state.proofs.StyleCode.{style_code_next}
use Rattle.soy_base.proofs.States.{state_after-cons, state_after-append_some}

-- a plain character stays in the literal
pub string_next-plain : {S : Type 0} (quote : ℕ) (within escaped past : S) (c : ℕ) → c ≢ quote → c ≢ backslash
    → c ≢ line_feed → c ≢ carriage_return → string_next quote within escaped past c ≡ Some within
string_next-plain quote within escaped past c not_quote not_backslash not_feed not_return =
    rw (
      ne_eqb c backslash not_backslash,
      ne_eqb c quote not_quote,
      ne_eqb c line_feed not_feed,
      ne_eqb c
          carriage_return not_return,
    ) refl

module _ {S : Type 0} (next : S → ℕ → Option S) (quote : ℕ) (within escaped past : S)
    (rows : (c : ℕ) → next within c ≡ string_next quote within escaped past c)
    (opened : (c : ℕ) → next escaped c ≡ Some within) where
  -- a literal's text leads back to where it began
  pub within_literal : {text : List ℕ} → IsLiteralText quote text → state_after next within text ≡ Some within
  within_literal empty = refl
  within_literal (plain {c} {rest} not_quote not_backslash not_feed not_return more) =
      state_after-cons next within within c rest
      (rows c ∙ string_next-plain quote within escaped past c not_quote not_backslash not_feed not_return)
      ∙ within_literal more
  within_literal (escape {c} {rest} more) =
      state_after-cons next within escaped backslash (c ∷ rest) (rows backslash)
      ∙ (state_after-cons next escaped within c rest (opened c) ∙ within_literal more)

  -- and its quote after it leads out
  pub past_literal : {text : List ℕ} → next within quote ≡ Some past → IsLiteralText quote text
      → state_after next within (text ++ quote ∷ []) ≡ Some past
  past_literal {text} closes is =
      state_after-append_some next within within text (quote ∷ []) (within_literal is)
      ∙ state_after-cons next within past quote [] closes

-- a quote that begins a string of a style leads to the same state from wherever a string may begin
pub style_quote : (quote : ℕ) (inside state : CssState) (text : List ℕ) → (quote == asterisk) ≡ false
    → css_code_next quote ≡ inside → IsStyleCode state
    → state_after css_next state (quote ∷ text) ≡ state_after css_next inside text
style_quote quote inside state text other leads outside =
    state_after-cons css_next state inside quote text (style_code_next state quote other outside ∙ ap Some leads)
