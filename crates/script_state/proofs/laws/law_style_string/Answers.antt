use Rattle.std.proofs.Common.{◌∙◌, ◌∷◌, ◌++◌, [], refl}
use Rattle.script_state.specs.CssNext.{css_next}
use Rattle.soy_base.specs.Characters.{single_quote, double_quote}
use Rattle.script_state.specs.declared.css_state.CssState.TheVariants as css
use Rattle.script_state.proofs.Literals.{within_literal, past_literal, style_quote}
use Rattle.script_state.proofs.laws.law_style_string.Goals as goal

pub returns-clause-within_single : goal.returns-clause-within_single
returns-clause-within_single c =
    λ state text outside is. style_quote single_quote css.Single state text refl refl outside
    ∙ within_literal css_next single_quote css.Single css.SingleEscape css.Code (λ c. refl) (λ c. refl) is

pub returns-clause-within_double : goal.returns-clause-within_double
returns-clause-within_double c =
    λ state text outside is. style_quote double_quote css.Double state text refl refl outside
    ∙ within_literal css_next double_quote css.Double css.DoubleEscape css.Code (λ c. refl) (λ c. refl) is

pub returns-clause-after_single : goal.returns-clause-after_single
returns-clause-after_single c =
    λ state text outside is. style_quote single_quote css.Single state (text ++ single_quote ∷ []) refl refl outside
    ∙ past_literal css_next single_quote css.Single css.SingleEscape css.Code (λ c. refl) (λ c. refl) refl is

pub returns-clause-after_double : goal.returns-clause-after_double
returns-clause-after_double c =
    λ state text outside is. style_quote double_quote css.Double state (text ++ double_quote ∷ []) refl refl outside
    ∙ past_literal css_next double_quote css.Double css.DoubleEscape css.Code (λ c. refl) (λ c. refl) refl is
