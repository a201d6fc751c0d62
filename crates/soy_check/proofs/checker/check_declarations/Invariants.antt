use Rattle.std.proofs.Common.{◌≡◌, ◌++◌, [], drop, reverse}
use Rattle.soy_rules.specs.Demands.{declarations_fault}
use Rattle.soy_check.specs.FullNames.{full_names}
use Rattle.soy_check.specs.ViewAround.{view_all}
use Rattle.soy_check.proofs.checker.check_declarations.Given as goal

abbrev pub invariant-loop-one : goal.invariant-loop-one
invariant-loop-one l = record {
  found : declarations_fault (view_all l.all) []
      ≡ declarations_fault (view_all (drop l.one-index l.all)) l.names;
  names : reverse (full_names (drop l.one-index l.all)) ++ l.names ≡ reverse (full_names l.all);
}
