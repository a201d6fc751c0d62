use Rattle.soy_top.proofs.KeptPages.{one_text}
use Rattle.soy_top.proofs.laws.law_page_is_one_text.Goals as goal

pub returns : goal.returns
returns c = one_text
