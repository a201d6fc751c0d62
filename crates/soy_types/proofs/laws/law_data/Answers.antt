use Rattle.soy_types.proofs.ParamsRead.{data_have}
use Rattle.soy_types.proofs.laws.law_data.Goals as goal

pub returns : goal.returns
returns c = data_have
