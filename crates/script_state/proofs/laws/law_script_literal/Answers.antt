use Rattle.std.proofs.Common.{refl}
use Rattle.script_state.specs.JsNext.{js_next}
use Rattle.soy_base.specs.Characters.{single_quote, double_quote}
use Rattle.script_state.specs.declared.js_state.JsState.TheVariants as js
use Rattle.script_state.proofs.Literals.{within_literal, past_literal}
use Rattle.script_state.proofs.laws.law_script_literal.Goals as goal

pub returns-clause-within_single : goal.returns-clause-within_single
returns-clause-within_single c =
    λ text is. within_literal js_next single_quote js.Single js.SingleEscape js.Code (λ c. refl) (λ c. refl) is

pub returns-clause-within_double : goal.returns-clause-within_double
returns-clause-within_double c =
    λ text is. within_literal js_next double_quote js.Double js.DoubleEscape js.Code (λ c. refl) (λ c. refl) is

pub returns-clause-after_single : goal.returns-clause-after_single
returns-clause-after_single c =
    λ text is. past_literal js_next single_quote js.Single js.SingleEscape js.Code (λ c. refl) (λ c. refl) refl is

pub returns-clause-after_double : goal.returns-clause-after_double
returns-clause-after_double c =
    λ text is. past_literal js_next double_quote js.Double js.DoubleEscape js.Code (λ c. refl) (λ c. refl) refl is
