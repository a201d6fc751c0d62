use Rattle.std.proofs.Common.{◌+◌, ◌*◌}
use Rattle.soy_rules.specs.Cost.{node_count}
use Rattle.soy_tree.specs.ViewExpressions.{view_expr}
use Rattle.render_core.proofs.valuing.+valuing.Given as goal

abbrev pub decreases-value_of : goal.decreases-value_of
decreases-value_of g l = 2 * node_count (view_expr l.expr.now)

abbrev pub decreases-value_or : goal.decreases-value_or
decreases-value_or g l = 2 * (node_count (view_expr l.left.now) + node_count (view_expr l.right.now)) + 1

abbrev pub decreases-chosen_value : goal.decreases-chosen_value
decreases-chosen_value g l =
    2 * (node_count (view_expr l.when.now) + (node_count (view_expr l.left.now) + node_count (view_expr l.right.now)))
    + 1
