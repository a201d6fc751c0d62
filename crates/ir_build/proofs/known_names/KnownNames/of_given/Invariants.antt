use Rattle.std.proofs.Common.{◌≡◌, ◌++◌, drop, map}
use Rattle.soy_rules.specs.Bodies.{names_given}
use Rattle.soy_tree.specs.ViewNodes.{view_arguments}
use Rattle.ir_build.proofs.known_names.KnownNames.of_given.Given as goal

abbrev pub invariant-loop-argument : goal.invariant-loop-argument
invariant-loop-argument l =
    map (λ name. name.now) l.names.items ++ names_given (view_arguments (drop l.argument-index l.given))
    ≡ names_given (view_arguments l.given)
