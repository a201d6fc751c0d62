use Rattle.bidi_text.proofs.CleanedTwice.{cleaned_text-cleaned_text, cleaned_text-paired}
use Rattle.bidi_text.proofs.laws.law_cleaned.Goals as goal

pub returns-clause-unchanged : goal.returns-clause-unchanged
returns-clause-unchanged c = cleaned_text-cleaned_text

pub returns-clause-paired : goal.returns-clause-paired
returns-clause-paired c = cleaned_text-paired
