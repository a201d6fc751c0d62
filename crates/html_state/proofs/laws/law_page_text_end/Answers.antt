use Rattle.html_state.proofs.PageSteps.{page_text_end}
use Rattle.html_state.proofs.laws.law_page_text_end.Goals as goal

pub returns : goal.returns
returns c = page_text_end
