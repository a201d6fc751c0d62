use Rattle.soy_top.proofs.AnsweredTexts.{page_refused, refused_answered, stopped_answered, text_answered}
use Rattle.soy_top.proofs.Texts.{stopped-answered, text-answered}
use Rattle.soy_top.proofs.laws.law_answer_is_text.Goals as goal

pub returns-clause-text : goal.returns-clause-text
returns-clause-text c = text-answered

pub returns-clause-only_text : goal.returns-clause-only_text
returns-clause-only_text c = text_answered

pub returns-clause-stopped : goal.returns-clause-stopped
returns-clause-stopped c = stopped-answered

pub returns-clause-only_stopped : goal.returns-clause-only_stopped
returns-clause-only_stopped c = stopped_answered

pub returns-clause-refused : goal.returns-clause-refused
returns-clause-refused c = λ files words line render h. page_refused files words render line h

pub returns-clause-only_refused : goal.returns-clause-only_refused
returns-clause-only_refused c = refused_answered
