use Rattle.std.proofs.Common.{◌≡◌, drop}
use Rattle.soy_rules.specs.Members.{are_same_members, are_same_fields}
use Rattle.soy_tree.specs.ViewTypes.{view_members, view_fields}
use Rattle.soy_expr.proofs.joining.+comparing.Given as goal

abbrev pub invariant-are_same_members-loop-number : goal.invariant-are_same_members-loop-number
invariant-are_same_members-loop-number l =
    are_same_members (view_members l.left) (view_members l.right) ≡ are_same_members
    (view_members (drop l.number l.left)) (view_members (drop l.number l.right))

abbrev pub invariant-are_same_fields-loop-number : goal.invariant-are_same_fields-loop-number
invariant-are_same_fields-loop-number l =
    are_same_fields (view_fields l.left) (view_fields l.right) ≡ are_same_fields (view_fields (drop l.number l.left))
    (view_fields (drop l.number l.right))
