use Rattle.std.proofs.Common.{drop, map}
use Rattle.soy_rules.specs.FirstNames.{HasFirstsBefore}
use Rattle.soy_rules.proofs.names.first_numbers.Given as goal

abbrev pub invariant-loop-number : goal.invariant-loop-number
invariant-loop-number l =
    HasFirstsBefore l.numbers l.number (map (λ name. name.now) (drop l.number l.names)) (map (λ name. name.now) l.names)
