use Rattle.std.proofs.Common.{◌≡◌, drop}
use Rattle.soy_rules.specs.Demands.{bodies_fault}
use Rattle.soy_check.specs.ViewAround.{view_all}
use Rattle.soy_check.proofs.checker.check_bodies.Given as goal

abbrev pub invariant-loop-one : goal.invariant-loop-one
invariant-loop-one l =
    bodies_fault (view_all l.all) (view_all l.all)
    ≡ bodies_fault (view_all l.all) (view_all (drop l.one-index l.all))
