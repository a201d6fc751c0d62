use Rattle.std.proofs.Common.{◌≡◌, ◌++◌, drop, map}
use Rattle.ir_build.specs.KnownNames.{param_names}
use Rattle.ir_build.proofs.known_names.KnownNames.of_params.Given as goal

abbrev pub invariant-loop-param : goal.invariant-loop-param
invariant-loop-param l =
    map (λ name. name.now) l.names.items ++ param_names (drop l.param-index l.params) ≡ param_names l.params
