use Rattle.soy_expr.proofs.Growth.{grown_one}
use Rattle.html_context.proofs.scope.declare.Goals as goal

pub returns-clause-grown : goal.returns-clause-grown
returns-clause-grown c = grown_one _ _ _ c.in_ok-add.ensures
