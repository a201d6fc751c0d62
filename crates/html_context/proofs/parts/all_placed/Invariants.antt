use Rattle.std.proofs.Common.{drop}
use Rattle.soy_tree.specs.ViewNodes.{view_nodes}
use Rattle.soy_expr.specs.ViewScope.{view_vars}
use Rattle.html_context.specs.PlacedNodes.{placed_nodes}
use Rattle.html_context.specs.Walks.{view_site}
use Rattle.html_context.proofs.WrittenLists.{InTurnSoFar}
use Rattle.html_context.proofs.parts.all_placed.Given as goal

abbrev pub invariant-loop-node : goal.invariant-loop-node
invariant-loop-node l =
    InTurnSoFar l.initial.rows.items l.rows.items l.numbers.items
    (placed_nodes (view_vars l.source.vars.now) (view_site l.source.at) (view_nodes (drop l.node-index l.nodes)))
    (placed_nodes (view_vars l.source.vars.now) (view_site l.source.at) (view_nodes l.nodes))
