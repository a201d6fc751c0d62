use Rattle.std.proofs.Common.{map}
use Rattle.template_ir.specs.ViewOps.{view_branch, view_choice, view_handed, view_ops}
use Rattle.ir_build.specs.Laid.{view_output}
use Rattle.ir_build.proofs.NodeSteps.{ArmsOn, CasesOn, GivenOn, NodesOn, PluralCasesOn, SelectCasesOn}
use Rattle.ir_build.proofs.bodies.+building.Given as goal

abbrev pub invariant-push_nodes-loop-node : goal.invariant-push_nodes-loop-node
invariant-push_nodes-loop-node l =
    NodesOn l.scene l.nodes l.node-index (view_output l.initial.out) (view_output l.out) (view_ops l.initial.own.items)
    (view_ops l.own.items)

abbrev pub invariant-branches-loop-arm : goal.invariant-branches-loop-arm
invariant-branches-loop-arm l =
    ArmsOn l.scene l.arms l.arm-index (view_output l.initial.out) (view_output l.out) (map view_branch l.branches.items)

abbrev pub invariant-choices-loop-case : goal.invariant-choices-loop-case
invariant-choices-loop-case l =
    CasesOn l.scene l.cases l.case-index (view_output l.initial.out) (view_output l.out)
    (map view_choice l.choices.items)

abbrev pub invariant-handed-loop-argument : goal.invariant-handed-loop-argument
invariant-handed-loop-argument l =
    GivenOn l.scene l.given l.argument-index (view_output l.initial.out) (view_output l.out)
    (map view_handed l.handed.items)

abbrev pub invariant-exact_blocks-loop-case : goal.invariant-exact_blocks-loop-case
invariant-exact_blocks-loop-case l =
    PluralCasesOn l.scene l.cases l.case-index (view_output l.initial.out) (view_output l.out) l.blocks.items

abbrev pub invariant-word_blocks-loop-case : goal.invariant-word_blocks-loop-case
invariant-word_blocks-loop-case l =
    SelectCasesOn l.scene l.cases l.case-index (view_output l.initial.out) (view_output l.out) l.blocks.items
