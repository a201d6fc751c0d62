use Rattle.html_state.specs.Next.{next, value_character_next}
use Rattle.html_state.proofs.Pieces.{after_all-append}
use Rattle.html_state.proofs.laws.law_joined_texts.Goals as goal

pub returns-clause-static_text : goal.returns-clause-static_text
returns-clause-static_text c = after_all-append next

pub returns-clause-value : goal.returns-clause-value
returns-clause-value c = after_all-append value_character_next
