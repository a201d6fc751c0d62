use Rattle.std.proofs.Common.{◌∙◌, ap, map}
use Rattle.std.proofs.lemmas.Result.{on_ok_weaker}
use Rattle.soy_tree.specs.ViewNodes.{view_arguments}
use Rattle.soy_tree.specs.ViewTrees.{view_params}
use Rattle.template_ir.specs.Ops.{CallOp}
use Rattle.template_ir.specs.ViewOps.{view_callee, view_handed, view_ops}
use Rattle.ir_build.proofs.Callees.{call_is}
use Rattle.ir_build.proofs.OpLists.{last_is}
use Rattle.ir_build.proofs.calls.push_call.Goals as goal

pub returns : goal.returns
returns c =
    on_ok_weaker c.push_op.result
    (last_is (view_ops c.args.own.now.items) (view_ops c.push_op.new.own.items) _ _
    (ap (λ callee. CallOp (view_callee callee)) c.in_ok-new.ensures
    ∙ call_is c.args.scene.now c.args.name.now c.args.all (view_arguments c.args.given.now)
    (map view_handed c.args.handed.items) (map view_handed c.new.result) (view_params c.params_at-params.result.now)
    c.args.place c.args.span c.in_ok-number.number c.in_ok-number.ensures c.params_at-params.ensures
    (ap (map view_handed) c.new.ensures ∙ c.in_ok-add_same.ensures))) c.push_op.ensures
