use Rattle.soy_top.specs.Answer.{Done, TooDeep}
use Rattle.soy_top.proofs.Rendering.{page_is_answer, render_has}
use Rattle.soy_top.proofs.laws.law_rendered_answer.Goals as goal

pub returns-clause-answer : goal.returns-clause-answer
returns-clause-answer c = page_is_answer

pub returns-clause-whole : goal.returns-clause-whole
returns-clause-whole c = λ held words text render known.
    render_has held words (Done text) render known (λ never. never)

pub returns-clause-stopped : goal.returns-clause-stopped
returns-clause-stopped c = λ held words text line render known.
    render_has held words (TooDeep text line) render known (λ never. never)
