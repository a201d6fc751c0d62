use Rattle.soy_top.proofs.Previews.PreviewAnswers.{preview_refused, refused_preview}
use Rattle.soy_top.proofs.laws.law_refused_preview.Goals as goal

pub returns-clause-refused : goal.returns-clause-refused
returns-clause-refused c = λ files words line preview h. preview_refused files words preview line h

pub returns-clause-only_refused : goal.returns-clause-only_refused
returns-clause-only_refused c = refused_preview
