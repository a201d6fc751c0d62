use Rattle.formatted_source.proofs.ReadParts.{type_read}
use Rattle.formatted_source.proofs.laws.law_formatted_type.Goals as goal

pub returns : goal.returns
returns c = λ tokens depths words x named spells names rest ends.
    type_read tokens depths words x named spells names rest ends
