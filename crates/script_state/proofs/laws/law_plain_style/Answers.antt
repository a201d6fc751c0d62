use Rattle.script_state.proofs.PlainTexts.{plain_style}
use Rattle.script_state.proofs.laws.law_plain_style.Goals as goal

pub returns : goal.returns
returns c = plain_style
