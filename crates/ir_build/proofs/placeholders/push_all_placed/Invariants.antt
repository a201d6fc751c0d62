use Rattle.template_ir.specs.ViewOps.{view_ops}
use Rattle.ir_build.specs.Laid.{view_output}
use Rattle.ir_build.proofs.Placing.{PlacedOn}
use Rattle.ir_build.proofs.placeholders.push_all_placed.Given as goal

abbrev pub invariant-loop-node : goal.invariant-loop-node
invariant-loop-node l =
    PlacedOn l.source.places.now l.nodes l.node-index (view_output l.initial.out) (view_output l.out)
    (view_ops l.initial.own.items) (view_ops l.own.items)
