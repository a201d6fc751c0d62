use Rattle.soy_meaning.proofs.Paths.KeptForms.{value_leads}
use Rattle.soy_meaning.proofs.laws.law_hole.Goals as goal

pub returns : goal.returns
returns c = value_leads
