use Rattle.std.proofs.Common.{ℕ, ◌+◌, List, [], drop, subst, sym}
use Rattle.soy_tree.specs.ViewNodes.{view_node, view_nodes}
use Rattle.soy_tree.specs.declared.node.Node as code
use Rattle.soy_expr.specs.ViewScope.{view_vars}
use Rattle.soy_meaning.specs.Paths.Plan.{Plan}
use Rattle.html_context.specs.PlacedNodes.{placed_node, placed_nodes}
use Rattle.html_context.specs.Walks.{view_site}
use Rattle.html_context.proofs.WrittenLists.{InTurnSoFar, next_in_turn, written_in_turn}
use Rattle.html_context.proofs.WrittenRows.{first_of, none_of}
use Rattle.html_context.proofs.parts.all_placed.Goals as goal

pub loop-node-preserved : goal.loop-node-preserved
loop-node-preserved c =
    let source = c.args.source.now in
    let plan : List code.Node → Plan = λ ns. placed_nodes (view_vars source.vars.now) (view_site source.at)
    (view_nodes ns) in
    let x = c.node-item.result in
    let nodes = c.args.nodes.now in
    rw c.in_ok-push.ensures.items
    (next_in_turn c.args.rows.now.items c.loop-node.rows.items c.placed.new.rows.items c.loop-node.numbers.items
    c.in_ok-number.number (placed_node (view_vars source.vars.now) (view_site source.at) (view_node x))
    (plan (drop (c.loop-node.node-index + 1) nodes)) (plan nodes)
    (subst (λ (ns : List code.Node). InTurnSoFar c.args.rows.now.items c.loop-node.rows.items c.loop-node.numbers.items
    (plan ns) (plan nodes)) (first_of nodes c.loop-node.node-index x c.loop-node-test.true c.node-item.is)
    c.loop-node.invariant)
    c.in_ok-number.ensures)

pub returns : goal.returns
returns c =
    let source = c.args.source.now in
    let plan : List code.Node → Plan = λ ns. placed_nodes (view_vars source.vars.now) (view_site source.at)
    (view_nodes ns) in
    let nodes = c.args.nodes.now in
    written_in_turn c.args.rows.now.items c.loop-node.rows.items c.write.new.rows.items c.new.result (plan nodes)
    c.write.result
    (subst (λ (ks : List ℕ). InTurnSoFar c.args.rows.now.items c.loop-node.rows.items ks (plan []) (plan nodes))
    (sym c.new.ensures)
    (subst (λ (ns : List code.Node). InTurnSoFar c.args.rows.now.items c.loop-node.rows.items c.loop-node.numbers.items
    (plan ns) (plan nodes)) (none_of nodes c.loop-node.node-index c.loop-node-test.false) c.loop-node.invariant))
    c.write.ensures.rows c.write.ensures.number
