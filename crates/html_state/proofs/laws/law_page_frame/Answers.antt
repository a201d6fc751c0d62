use Rattle.html_state.proofs.PageFrames.{page_attributes, page_html}
use Rattle.html_state.proofs.laws.law_page_frame.Goals as goal

pub returns-clause-attributes : goal.returns-clause-attributes
returns-clause-attributes c = page_attributes

pub returns-clause-html : goal.returns-clause-html
returns-clause-html c = page_html
