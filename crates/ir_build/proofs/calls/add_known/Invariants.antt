use Rattle.std.proofs.Common.{◌≡◌, ◌++◌, drop, map}
use Rattle.soy_tree.specs.ViewTrees.{view_params}
use Rattle.template_ir.specs.Compiles.{same_handed}
use Rattle.template_ir.specs.ViewOps.{view_handed}
use Rattle.ir_build.specs.KnownNames.{known_names, known_params}
use Rattle.ir_build.proofs.calls.add_known.Given as goal

abbrev pub invariant-loop-param : goal.invariant-loop-param
invariant-loop-param l =
    map view_handed l.handed.items
    ++ map same_handed (known_params (known_names l.own) (known_names l.given)
    (view_params (drop l.param-index l.params)))
    ≡ map view_handed l.initial.handed.items
    ++ map same_handed (known_params (known_names l.own) (known_names l.given) (view_params l.params))
