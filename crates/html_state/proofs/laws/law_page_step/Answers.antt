use Rattle.html_state.proofs.PageSteps.{page_step}
use Rattle.html_state.proofs.laws.law_page_step.Goals as goal

pub returns : goal.returns
returns c = page_step
