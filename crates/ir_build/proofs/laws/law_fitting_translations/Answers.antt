use Rattle.ir_build.proofs.FittingTrees.{trees_fit}
use Rattle.ir_build.proofs.laws.law_fitting_translations.Goals as goal

pub returns-clause-fit : goal.returns-clause-fit
returns-clause-fit c = λ translation trees formed fits. (trees_fit translation 0 trees formed fits).0

pub returns-clause-patterns : goal.returns-clause-patterns
returns-clause-patterns c = λ translation trees formed fits. (trees_fit translation 0 trees formed fits).1
