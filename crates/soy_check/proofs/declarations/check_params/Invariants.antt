use Rattle.std.proofs.Common.{◌≡◌, [], drop}
use Rattle.soy_rules.specs.Declarations.{params_fault}
use Rattle.soy_tree.specs.ViewTrees.{view_params}
use Rattle.soy_check.proofs.declarations.check_params.Given as goal

abbrev pub invariant-loop-param : goal.invariant-loop-param
invariant-loop-param l =
    params_fault (view_params l.params) [] ≡ params_fault (view_params (drop l.param-index l.params)) l.names
