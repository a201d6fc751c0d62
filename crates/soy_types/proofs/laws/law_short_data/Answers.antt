use Rattle.soy_types.proofs.ReadWithin.{data_short, data_within}
use Rattle.soy_types.proofs.laws.law_short_data.Goals as goal

pub returns-clause-within : goal.returns-clause-within
returns-clause-within c = data_within

pub returns-clause-short : goal.returns-clause-short
returns-clause-short c = data_short
