-- A lemma on the states of a style in which a comment or a string may begin.
use Rattle.std.proofs.Common.{◌≡◌, ℕ, refl}
use Rattle.std.specs.Prelude.{Some, false, ◌==◌}
use Rattle.soy_base.specs.Characters.{asterisk}
use Rattle.script_state.specs.CssNext.{css_next, css_code_next}
use Rattle.script_state.specs.IsStyleCode.{IsStyleCode}
use Rattle.script_state.specs.declared.css_state.CssState.{CssState}
use Rattle.script_state.specs.declared.css_state.CssState.TheVariants as css

-- they have the rows of code, but for an asterisk after a slash
pub style_code_next : (state : CssState) (c : ℕ) → (c == asterisk) ≡ false → IsStyleCode state
    → css_next state c ≡ Some (css_code_next c)
style_code_next css.Code c other _ = refl
style_code_next css.Ready c other _ = refl
style_code_next css.Slash c other _ = rw other refl
style_code_next _ c other never = absurd never
