use Rattle.soy_io.proofs.AddedParts.{added-added}
use Rattle.soy_io.proofs.laws.law_taken_in_parts.Goals as goal

pub returns : goal.returns
returns c = added-added
