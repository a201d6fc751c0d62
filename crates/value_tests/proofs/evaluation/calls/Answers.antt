use Rattle.value_tests.proofs.IntRow.{seven_formed, seven_typed}
use Rattle.value_tests.proofs.evaluation.calls.Goals as goal

pub eval-requires-clause-formed : goal.eval-requires-clause-formed
eval-requires-clause-formed g c = seven_formed _ _ c.in_ok-seven.ensures

pub eval-requires-clause-typed : goal.eval-requires-clause-typed
eval-requires-clause-typed g c = seven_typed _ _ _ c.in_ok-seven.ensures c.no_variables-none.ensures
