use Rattle.std.proofs.Common.{◌∙◌, Err, ap}
use Rattle.std.proofs.lemmas.Result.{err_from_is_err_and}
use Rattle.soy_tree.specs.ViewTrees.{view_param}
use Rattle.soy_tree.specs.ViewTypes.{view_type}
use Rattle.soy_expr.specs.ViewScope.{view_vars}
use Rattle.soy_expr.proofs.Growth.{grown_further}
use Rattle.soy_check.specs.ViewAround.{view_around}
use Rattle.soy_check.proofs.Rows.{block_refused, nodes_step}
use Rattle.soy_check.proofs.bodies.+checking.Goals as goal

pub check_given-returns-in_err-check_accepted-in-Block-clause-passes :
    goal.check_given-returns-in_err-check_accepted-in-Block-clause-passes
check_given-returns-in_err-check_accepted-in-Block-clause-passes t c =
    let scope = view_vars c.args.vars.now in
    let refused = c.in_err-check_accepted-in-Block in
    let out = c.from_residual-in_err-check_accepted-in-Block in
    let p = err_from_is_err_and out.result out.ensures.1 in
    block_refused (view_around c.args.around.now) c.args.given.now c.in-Block.kind c.in-Block.body c.args.span
    (view_param c.args.param.now) scope (view_type c.in_ok-param_type-in-Block.field-0) (view_type c.kind_type.result)
    c.check_accepted.result refused.field-0.0 out.result c.in-Block.is c.in_ok-param_type-in-Block.ensures
    c.kind_type.ensures refused.was (p.1 ∙ ap Err p.2) (c.check_accepted.ensures scope)

pub check_nodes-loop-node-preserved : goal.check_nodes-loop-node-preserved
check_nodes-loop-node-preserved t c = record {
  left = c.loop-node.invariant.left
      ∙ nodes_step (view_around c.args.around.now) c.args.nodes.now c.loop-node.node-index c.node-item.result
      (view_vars c.loop-node.vars) (view_vars c.check_node.new.vars) c.loop-node-test.true c.node-item.is
      c.in_ok-check_node.ensures.passes;
  grown = grown_further c.args.vars.now c.loop-node.vars c.check_node.new.vars
      c.loop-node.invariant.grown c.in_ok-check_node.ensures.grown;
  count = c.loop-node.invariant.count;
}
