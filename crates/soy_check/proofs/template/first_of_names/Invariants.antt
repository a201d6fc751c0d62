use Rattle.std.proofs.Common.{◌≤◌, drop, length}
use Rattle.soy_check.specs.Named.{FindsParams}
use Rattle.soy_check.proofs.template.first_of_names.Given as goal

abbrev pub invariant-loop-left : goal.invariant-loop-left
invariant-loop-left l = record {
  within : l.left ≤ length l.params;
  found : FindsParams l.first.entries (drop l.left l.params);
}

abbrev pub decreases-loop-left : goal.decreases-loop-left
decreases-loop-left l = l.left
