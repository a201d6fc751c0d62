use Rattle.soy_top.proofs.FormatRefusals.{format_refused, refused_format}
use Rattle.soy_top.proofs.laws.law_refused_format.Goals as goal

pub returns-clause-refused : goal.returns-clause-refused
returns-clause-refused c = format_refused

pub returns-clause-only_refused : goal.returns-clause-only_refused
returns-clause-only_refused c = refused_format
