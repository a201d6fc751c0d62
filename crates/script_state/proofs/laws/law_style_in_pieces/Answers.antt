use Rattle.script_state.specs.CssNext.{css_next}
use Rattle.soy_base.proofs.States.{state_after-append}
use Rattle.script_state.proofs.laws.law_style_in_pieces.Goals as goal

pub returns : goal.returns
returns c = state_after-append css_next
