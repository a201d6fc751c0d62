use Rattle.script_state.proofs.PlainTexts.{plain_script}
use Rattle.script_state.proofs.laws.law_plain_script.Goals as goal

pub returns : goal.returns
returns c = plain_script
