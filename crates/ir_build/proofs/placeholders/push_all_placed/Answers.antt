use Rattle.std.proofs.Common.{arith, drop}
use Rattle.template_ir.specs.ViewOps.{view_ops}
use Rattle.ir_build.specs.Laid.{view_output}
use Rattle.ir_build.proofs.OpLists.{drop_all}
use Rattle.ir_build.proofs.Placing.{placed_end, placed_step}
use Rattle.ir_build.proofs.placeholders.push_all_placed.Goals as goal

pub loop-node-init : goal.loop-node-init
loop-node-init c = λ later own_later p. p

pub loop-node-preserved : goal.loop-node-preserved
loop-node-preserved c =
    placed_step c.args.source.now.places.now c.args.nodes.now c.loop-node.node-index c.node-item.result
    (view_output c.args.out.now) (view_output c.loop-node.out) (view_output c.push_placed.new.out)
    (view_ops c.args.own.now.items) (view_ops c.loop-node.own.items) (view_ops c.push_placed.new.own.items)
    c.loop-node-test.true c.node-item.is c.in_ok-push_placed.ensures c.loop-node.invariant

pub returns : goal.returns
returns c =
    placed_end c.args.source.now.places.now c.args.nodes.now (drop c.loop-node.node-index c.args.nodes.now)
    (view_output c.args.out.now) (view_output c.loop-node.out) (view_ops c.args.own.now.items)
    (view_ops c.loop-node.own.items) (drop_all c.args.nodes.now c.loop-node.node-index (omega arith))
    c.loop-node.invariant
