use Rattle.escapers.proofs.ValueStates.{js_word_leads, literal_leads}
use Rattle.escapers.proofs.laws.law_js_values.Goals as goal

pub returns-clause-literals : goal.returns-clause-literals
returns-clause-literals c = literal_leads

pub returns-clause-words : goal.returns-clause-words
returns-clause-words c = js_word_leads
