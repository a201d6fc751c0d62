use Rattle.template_ir.proofs.CompiledRuns.{compiled_input, compiled_run}
use Rattle.template_ir.proofs.laws.law_compiled_run_is_pieces.Goals as goal

pub returns-clause-variables : goal.returns-clause-variables
returns-clause-variables c = λ trees l v p typed fits walks compiles number d found env data_.
    compiled_run trees l v p typed fits walks compiles number d found env data_

pub returns-clause-input : goal.returns-clause-input
returns-clause-input c = λ trees l v p typed fits walks compiles number d found input data_.
    compiled_input trees l v p typed fits walks compiles number d found input data_
