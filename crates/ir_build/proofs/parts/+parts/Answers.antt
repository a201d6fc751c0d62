use mir.Syntax.{w64}
use mir.Val.{SFits}
use Rattle.std.proofs.lemmas.Int.{to_z-of_z}
use Rattle.std.proofs.Common.{rules, ap, arith, drop}
use Rattle.std.proofs.lemmas.Result.{on_ok_weaker}
use Rattle.template_ir.specs.ViewOps.{view_ops}
use Rattle.ir_build.specs.Laid.{view_output}
use Rattle.ir_build.proofs.OpLists.{drop_all, on_ok_both}
use Rattle.ir_build.proofs.Loops.{exact_last}
use Rattle.ir_build.proofs.PartOps.{at_number_part, at_plural_part, at_select_part, at_text_part}
use Rattle.ir_build.proofs.PartSteps.{exact_begin, exact_end, exact_step, named_begin, named_end, named_step, parts_end}
use Rattle.ir_build.proofs.PartSteps.{parts_step, word_begin, word_end, word_step}
use Rattle.ir_build.proofs.parts.+parts.Goals as goal

pub push_part-returns-in-Text : goal.push_part-returns-in-Text
push_part-returns-in-Text t c =
    on_ok_weaker c.push_text.result
    (at_text_part c.args.source.now c.args.part.now c.in-Text.text (view_output c.args.out.now)
    (view_ops c.args.own.now.items) (view_ops c.push_text.new.own.items) c.in-Text.is) c.push_text.ensures

pub push_part-returns-in-Number : goal.push_part-returns-in-Number
push_part-returns-in-Number t c =
    on_ok_both c.push_number.result _ _ _
    (at_number_part c.args.source.now c.args.part.now (view_output c.args.out.now) (view_output c.push_number.new.out)
    (view_ops c.args.own.now.items) (view_ops c.push_number.new.own.items) c.in-Number.is) c.push_number.ensures.own
    c.push_number.ensures.made

pub push_part-returns-in_ok-named-in-Plural : goal.push_part-returns-in_ok-named-in-Plural
push_part-returns-in_ok-named-in-Plural t c =
    on_ok_weaker c.push_plural_part.result
    (at_plural_part c.args.source.now c.args.part.now c.in-Plural.plural c.items.result.now
    c.items-in-Plural.result.now c.in_ok-exact-in-Plural.exact.items c.in_ok-named-in-Plural.named.items
    (view_output c.args.out.now) (view_output c.exact_blocks.new.out) (view_output c.named_blocks.new.out)
    (view_ops c.args.own.now.items) (view_ops c.push_plural_part.new.own.items) c.in-Plural.is c.items.ensures
    c.items-in-Plural.ensures c.in_ok-exact-in-Plural.ensures c.in_ok-named-in-Plural.ensures)
    c.push_plural_part.ensures

pub push_part-returns-in_ok-arms-in-Select : goal.push_part-returns-in_ok-arms-in-Select
push_part-returns-in_ok-arms-in-Select t c =
    on_ok_weaker c.push_select_part.result
    (at_select_part c.args.source.now c.args.part.now c.in-Select.select c.items-in-Select.result.now
    c.in_ok-arms-in-Select.arms.items (view_output c.args.out.now) (view_output c.word_blocks.new.out)
    (view_ops c.args.own.now.items) (view_ops c.push_select_part.new.own.items) c.in-Select.is
    c.items-in-Select.ensures c.in_ok-arms-in-Select.ensures) c.push_select_part.ensures

pub push_parts-loop-part-init : goal.push_parts-loop-part-init
push_parts-loop-part-init t c = λ later own_later p. p

pub push_parts-loop-part-preserved : goal.push_parts-loop-part-preserved
push_parts-loop-part-preserved t c =
    parts_step c.args.source.now c.args.parts.now c.loop-part.part-index c.part-item.result
    (view_output c.args.out.now) (view_output c.loop-part.out) (view_output c.push_part.new.out)
    (view_ops c.args.own.now.items) (view_ops c.loop-part.own.items) (view_ops c.push_part.new.own.items)
    c.loop-part-test.true c.part-item.is c.in_ok-push_part.ensures c.loop-part.invariant

pub push_parts-returns : goal.push_parts-returns
push_parts-returns t c =
    parts_end c.args.source.now c.args.parts.now (drop c.loop-part.part-index c.args.parts.now)
    (view_output c.args.out.now) (view_output c.loop-part.out) (view_ops c.args.own.now.items)
    (view_ops c.loop-part.own.items) (drop_all c.args.parts.now c.loop-part.part-index (omega arith))
    c.loop-part.invariant

pub exact_blocks-loop-arm-init : goal.exact_blocks-loop-arm-init
exact_blocks-loop-arm-init t c =
    exact_begin c.args.source.now c.args.arms.now (view_output c.args.out.now) c.new-blocks.result.items
    c.new-blocks.ensures.items

pub exact_blocks-loop-arm-preserved : goal.exact_blocks-loop-arm-preserved
exact_blocks-loop-arm-preserved t c =
    let fits : SFits w64 c.arm-item.result.is = search rules in
    exact_step c.args.source.now c.args.arms.now c.loop-arm.arm-index c.arm-item.result c.items.result.now
    (view_output c.args.out.now) (view_output c.loop-arm.out) (view_output c.push_parts.new.out)
    (view_output c.lay.new.self) (view_ops c.new-inner.result.items) (view_ops c.push_parts.new.own.items)
    c.loop-arm.blocks.items c.push.new.self.items c.loop-arm-test.true c.arm-item.is c.items.ensures
    (ap view_ops c.new-inner.ensures.items) c.in_ok-push_parts.ensures c.in_ok-body.ensures.made
    (exact_last c.loop-arm.blocks.items c.push.new.self.items _ c.arm-item.result.is c.in_ok-body.body _
    (to_z-of_z w64 c.arm-item.result.is fits) c.in_ok-body.ensures.block c.in_ok-push.ensures.items)
    c.loop-arm.invariant

pub exact_blocks-returns : goal.exact_blocks-returns
exact_blocks-returns t c =
    exact_end c.args.source.now c.args.arms.now c.loop-arm.arm-index (view_output c.args.out.now)
    (view_output c.loop-arm.out) c.loop-arm.blocks.items (omega arith) c.loop-arm.invariant

pub named_blocks-loop-arm-init : goal.named_blocks-loop-arm-init
named_blocks-loop-arm-init t c =
    named_begin c.args.source.now c.args.arms.now (view_output c.args.out.now) c.new-blocks.result.items
    c.new-blocks.ensures.items

pub named_blocks-loop-arm-preserved : goal.named_blocks-loop-arm-preserved
named_blocks-loop-arm-preserved t c =
    named_step c.args.source.now c.args.arms.now c.loop-arm.arm-index c.arm-item.result c.items.result.now
    (view_output c.args.out.now) (view_output c.loop-arm.out) (view_output c.push_parts.new.out)
    (view_output c.push_named.new.out) (view_ops c.new-body.result.items) (view_ops c.push_parts.new.own.items)
    c.loop-arm.blocks.items c.push_named.new.blocks.items c.loop-arm-test.true c.arm-item.is c.items.ensures
    (ap view_ops c.new-body.ensures.items) c.in_ok-push_parts.ensures c.in_ok-push_named.ensures.made
    c.in_ok-push_named.ensures.blocks c.loop-arm.invariant

pub named_blocks-returns : goal.named_blocks-returns
named_blocks-returns t c =
    named_end c.args.source.now c.args.arms.now c.loop-arm.arm-index (view_output c.args.out.now)
    (view_output c.loop-arm.out) c.loop-arm.blocks.items (omega arith) c.loop-arm.invariant

pub word_blocks-loop-arm-init : goal.word_blocks-loop-arm-init
word_blocks-loop-arm-init t c =
    word_begin c.args.source.now c.args.arms.now (view_output c.args.out.now) c.new-blocks.result.items
    c.new-blocks.ensures.items

pub word_blocks-loop-arm-preserved : goal.word_blocks-loop-arm-preserved
word_blocks-loop-arm-preserved t c =
    word_step c.args.source.now c.args.arms.now c.loop-arm.arm-index c.arm-item.result c.items.result.now
    (view_output c.args.out.now) (view_output c.loop-arm.out) (view_output c.push_parts.new.out)
    (view_output c.push_word.new.out) (view_ops c.new-body.result.items) (view_ops c.push_parts.new.own.items)
    c.loop-arm.blocks.items c.push_word.new.blocks.items c.loop-arm-test.true c.arm-item.is c.items.ensures
    (ap view_ops c.new-body.ensures.items) c.in_ok-push_parts.ensures c.in_ok-push_word.ensures.made
    c.in_ok-push_word.ensures.blocks c.loop-arm.invariant

pub word_blocks-returns : goal.word_blocks-returns
word_blocks-returns t c =
    word_end c.args.source.now c.args.arms.now c.loop-arm.arm-index (view_output c.args.out.now)
    (view_output c.loop-arm.out) c.loop-arm.blocks.items (omega arith) c.loop-arm.invariant
