use Rattle.html_state.proofs.PageFrames.{page_value}
use Rattle.html_state.proofs.laws.law_page_value.Goals as goal

pub returns : goal.returns
returns c = page_value
