use Rattle.soy_front.proofs.DataFits.{data_fits}
use Rattle.soy_front.proofs.laws.law_data_fits.Goals as goal

pub returns : goal.returns
returns c = data_fits
