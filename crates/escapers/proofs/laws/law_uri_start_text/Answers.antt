use Rattle.escapers.proofs.StartTexts.{start_text}
use Rattle.escapers.proofs.laws.law_uri_start_text.Goals as goal

pub returns : goal.returns
returns c = start_text
