use Rattle.html_state.proofs.KeptPlaces.{holds, safe_text}
use Rattle.html_state.proofs.laws.law_kept_place.Goals as goal

pub returns-clause-each_place : goal.returns-clause-each_place
returns-clause-each_place c = holds

pub returns-clause-text_place : goal.returns-clause-text_place
returns-clause-text_place c = safe_text
