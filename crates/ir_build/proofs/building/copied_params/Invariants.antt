use Rattle.std.proofs.Common.{◌≡◌, take}
use Rattle.ir_build.proofs.building.copied_params.Given as goal

abbrev pub invariant-loop-param : goal.invariant-loop-param
invariant-loop-param l = l.copied.items ≡ take l.param-index l.params
