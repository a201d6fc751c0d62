use Rattle.escapers.proofs.ComponentTexts.{component_read_back, component_written}
use Rattle.escapers.proofs.laws.law_uri_component_text.Goals as goal

pub returns-clause-written : goal.returns-clause-written
returns-clause-written c = component_written

pub returns-clause-read_back : goal.returns-clause-read_back
returns-clause-read_back c = component_read_back
