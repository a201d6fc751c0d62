use Rattle.msg_extract.proofs.Texts.TextOfParts.{equal_texts}
use Rattle.msg_extract.proofs.laws.law_equal_parts.Goals as goal

pub returns : goal.returns
returns c = equal_texts
