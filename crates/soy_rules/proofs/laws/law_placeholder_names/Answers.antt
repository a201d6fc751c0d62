use Rattle.soy_rules.proofs.PlaceholderNames.{names_apart}
use Rattle.soy_rules.proofs.laws.law_placeholder_names.Goals as goal

pub returns : goal.returns
returns c = names_apart
