use Rattle.std.proofs.Common.{◌≡◌, ◌≤◌, None, drop, length, reverse}
use Rattle.soy_expr.specs.TypeNamed.{type_named}
use Rattle.soy_expr.proofs.visible_variables.last_named.Given as goal

abbrev pub invariant-loop-left : goal.invariant-loop-left
invariant-loop-left l = record {
  within : l.left ≤ length l.vars;
  none : type_named l.name (reverse (drop l.left l.vars)) ≡ None;
}

abbrev pub decreases-loop-left : goal.decreases-loop-left
decreases-loop-left l = l.left
