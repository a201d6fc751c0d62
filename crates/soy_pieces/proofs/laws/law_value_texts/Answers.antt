use Rattle.soy_pieces.proofs.ValueTexts.{text_of_value}
use Rattle.soy_pieces.proofs.laws.law_value_texts.Goals as goal

pub returns : goal.returns
returns c = text_of_value
