use Rattle.template_ir.proofs.CompiledRuns.{compiled_input, compiled_run}
use Rattle.template_ir.proofs.SoundPrograms.{compiled_is_sound}
use Rattle.ir_build.specs.Translated.{language_by}
use Rattle.ir_build.proofs.FittingTrees.{trees_fit}
use Rattle.ir_build.proofs.laws.law_fitting_program.Goals as goal

pub returns-clause-sound : goal.returns-clause-sound
returns-clause-sound c = λ b trees v p typed fits walks compiles.
    let all = trees_fit b.translation 0 trees typed.formed fits in
    compiled_is_sound trees (language_by b) v p typed all.0 all.1 walks compiles

pub returns-clause-variables : goal.returns-clause-variables
returns-clause-variables c = λ b trees v p typed fits walks compiles number d found env data_.
    let all = trees_fit b.translation 0 trees typed.formed fits in
    compiled_run trees (language_by b) v p typed all.0 walks compiles number d found env data_

pub returns-clause-input : goal.returns-clause-input
returns-clause-input c = λ b trees v p typed fits walks compiles number d found input data_.
    let all = trees_fit b.translation 0 trees typed.formed fits in
    compiled_input trees (language_by b) v p typed all.0 walks compiles number d found input data_
