use Rattle.escapers.proofs.ValueStates.{css_value_is, css_value_leads}
use Rattle.escapers.proofs.laws.law_css_values.Goals as goal

pub returns-clause-values : goal.returns-clause-values
returns-clause-values c = css_value_is

pub returns-clause-code : goal.returns-clause-code
returns-clause-code c = css_value_leads
