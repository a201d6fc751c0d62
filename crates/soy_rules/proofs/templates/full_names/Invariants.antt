use Rattle.std.proofs.Common.{◌≡◌, ◌++◌, drop, map}
use Rattle.soy_rules.specs.FullNames.{full_names}
use Rattle.soy_rules.proofs.templates.full_names.Given as goal

abbrev pub invariant-loop-one : goal.invariant-loop-one
invariant-loop-one l =
    map (λ name. name.now) l.names.items ++ full_names (drop l.one-index l.declared) ≡ full_names l.declared
