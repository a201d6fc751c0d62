use Rattle.std.proofs.Common.{◌≡◌, ◌++◌, drop}
use Rattle.soy_check.specs.Named.{in_row, required_in}
use Rattle.soy_check.proofs.template.required_in.Given as goal

abbrev pub invariant-loop-param : goal.invariant-loop-param
invariant-loop-param l =
    in_row l.required.items ++ required_in (drop l.param-index l.params) ≡ required_in l.params
