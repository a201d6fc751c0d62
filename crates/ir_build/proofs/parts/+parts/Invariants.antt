use Rattle.template_ir.specs.ViewOps.{view_ops}
use Rattle.ir_build.specs.Laid.{view_output}
use Rattle.ir_build.proofs.PartSteps.{ExactOn, NamedOn, PartsOn, WordsOn}
use Rattle.ir_build.proofs.parts.+parts.Given as goal

abbrev pub invariant-push_parts-loop-part : goal.invariant-push_parts-loop-part
invariant-push_parts-loop-part l =
    PartsOn l.source l.parts l.part-index (view_output l.initial.out) (view_output l.out) (view_ops l.initial.own.items)
    (view_ops l.own.items)

abbrev pub invariant-exact_blocks-loop-arm : goal.invariant-exact_blocks-loop-arm
invariant-exact_blocks-loop-arm l =
    ExactOn l.source l.arms l.arm-index (view_output l.initial.out) (view_output l.out) l.blocks.items

abbrev pub invariant-named_blocks-loop-arm : goal.invariant-named_blocks-loop-arm
invariant-named_blocks-loop-arm l =
    NamedOn l.source l.arms l.arm-index (view_output l.initial.out) (view_output l.out) l.blocks.items

abbrev pub invariant-word_blocks-loop-arm : goal.invariant-word_blocks-loop-arm
invariant-word_blocks-loop-arm l =
    WordsOn l.source l.arms l.arm-index (view_output l.initial.out) (view_output l.out) l.blocks.items
