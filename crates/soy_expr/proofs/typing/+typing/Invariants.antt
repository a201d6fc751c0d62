use Rattle.std.proofs.Common.{◌+◌, ◌*◌}
use Rattle.soy_rules.specs.Cost.{node_count}
use Rattle.soy_tree.specs.ViewExpressions.{view_expr}
use Rattle.soy_expr.proofs.typing.+typing.Given as goal

abbrev pub decreases-type_in : goal.decreases-type_in
decreases-type_in g l = 2 * node_count (view_expr l.expr.now)

abbrev pub decreases-member_typing : goal.decreases-member_typing
decreases-member_typing g l = 2 * node_count (view_expr l.of.now) + 1

abbrev pub decreases-index_typing : goal.decreases-index_typing
decreases-index_typing g l = 2 * (node_count (view_expr l.of.now) + node_count (view_expr l.index.now)) + 1

abbrev pub decreases-minus_typing : goal.decreases-minus_typing
decreases-minus_typing g l = 2 * node_count (view_expr l.of.now) + 1

abbrev pub decreases-not_typing : goal.decreases-not_typing
decreases-not_typing g l = 2 * node_count (view_expr l.of.now) + 1

abbrev pub decreases-binary_typing : goal.decreases-binary_typing
decreases-binary_typing g l = 2 * (node_count (view_expr l.left.now) + node_count (view_expr l.right.now)) + 1

abbrev pub decreases-coalesce_typing : goal.decreases-coalesce_typing
decreases-coalesce_typing g l = 2 * (node_count (view_expr l.left.now) + node_count (view_expr l.right.now)) + 1

abbrev pub decreases-choice_typing : goal.decreases-choice_typing
decreases-choice_typing g l =
    2 * (node_count (view_expr l.when.now) + (node_count (view_expr l.left.now) + node_count (view_expr l.right.now)))
    + 1
