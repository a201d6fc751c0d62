use Rattle.std.proofs.Common.{◌≡◌, drop, map}
use Rattle.std.specs.List.{list_any}
use Rattle.soy_rules.specs.Members.{is_same_type}
use Rattle.soy_tree.specs.ViewTypes.{view_type}
use Rattle.soy_expr.proofs.joining.is_among.Given as goal

abbrev pub invariant-loop-other : goal.invariant-loop-other
invariant-loop-other l =
    list_any (is_same_type (view_type l.of)) (map view_type l.types) ≡ list_any (is_same_type (view_type l.of))
    (map view_type (drop l.other-index l.types))
