use mir.Syntax.{w64}
use mir.Val.{SFits}
use Rattle.std.proofs.lemmas.Int.{to_z-of_z}
use Rattle.std.proofs.Common.{Some, rules, ap, arith, drop, map, sym, ◌∙◌}
use Rattle.std.proofs.lemmas.Result.{on_ok_weaker}
use Rattle.soy_tree.specs.declared.node.Form.TheVariants as form
use Rattle.template_ir.specs.ViewOps.{view_branch, view_choice, view_handed, view_ops}
use Rattle.ir_build.specs.Laid.{view_output}
use Rattle.ir_build.proofs.GivenOps.{gives_block, gives_plain}
use Rattle.ir_build.proofs.Loops.{exact_last}
use Rattle.ir_build.proofs.NodeOps.{at_call, at_for, at_if, at_if_else, at_let, at_let_block, at_message}
use Rattle.ir_build.proofs.NodeOps.{at_message_fallback, at_parts, at_plural, at_print, at_select, at_switch}
use Rattle.ir_build.proofs.NodeOps.{at_switch_default, at_text}
use Rattle.ir_build.proofs.NodeSteps.{arms_begin, arms_end, arms_step, cases_begin, cases_end, cases_step, given_begin}
use Rattle.ir_build.proofs.NodeSteps.{given_end, given_step, nodes_begin, nodes_end, nodes_step, plural_cases_begin}
use Rattle.ir_build.proofs.NodeSteps.{plural_cases_end, plural_cases_step, select_cases_begin, select_cases_end}
use Rattle.ir_build.proofs.NodeSteps.{select_cases_step}
use Rattle.ir_build.proofs.OpLists.{drop_all, old_length, on_ok_both}
use Rattle.ir_build.proofs.bodies.+building.Goals as goal

pub push_node-returns-in-Text : goal.push_node-returns-in-Text
push_node-returns-in-Text t c =
    on_ok_weaker c.push_text.result
    (at_text c.args.scene.now c.args.node.now c.in-Text.text (view_output c.args.out.now)
    (view_ops c.args.own.now.items) (view_ops c.push_text.new.own.items) c.in-Text.is) c.push_text.ensures

pub push_node-returns-in-Print : goal.push_node-returns-in-Print
push_node-returns-in-Print t c =
    on_ok_both c.push_print.result _ _ _
    (at_print c.args.scene.now c.args.node.now c.in-Print.expr c.in-Print.field-1 (view_output c.args.out.now)
    (view_output c.push_print.new.out) (view_ops c.args.own.now.items) (view_ops c.push_print.new.own.items)
    c.in-Print.is) c.push_print.ensures.own c.push_print.ensures.made

pub push_node-returns-in-None : goal.push_node-returns-in-None
push_node-returns-in-None t c =
    on_ok_weaker c.push_if.result
    (at_if c.args.scene.now c.args.node.now c.in-If.arms c.items.result.now c.in-If.other
    (map view_branch c.in_ok-branches-in-If.branches.items) (view_output c.args.out.now)
    (view_output c.branches.new.out) (view_ops c.args.own.now.items) (view_ops c.push_if.new.own.items)
    c.in-If.is c.in-None.is c.items.ensures
    c.in_ok-branches-in-If.ensures) c.push_if.ensures

pub push_node-returns-in_ok-push_nodes-in-Some : goal.push_node-returns-in_ok-push_nodes-in-Some
push_node-returns-in_ok-push_nodes-in-Some t c =
    on_ok_both c.push_if_else.result _ _ _
    (at_if_else c.args.scene.now c.args.node.now c.in-If.arms c.items.result.now
    c.in-If.other c.in-Some.other c.items-in-Some.result.now
    (map view_branch c.in_ok-branches-in-If.branches.items) (view_output c.args.out.now)
    (view_output c.branches.new.out) (view_output c.push_nodes.new.out)
    (view_output c.push_if_else.new.out) (view_ops c.new-inner.result.items) (view_ops c.push_nodes.new.own.items)
    (view_ops c.args.own.now.items) (view_ops c.push_if_else.new.own.items) c.in-If.is
    c.in-Some.is c.items.ensures c.items-in-Some.ensures
    (ap view_ops c.new-inner.ensures.items) c.in_ok-branches-in-If.ensures c.in_ok-push_nodes-in-Some.ensures)
    c.push_if_else.ensures.own c.push_if_else.ensures.made

pub push_node-returns-in-None-other :
    goal.push_node-returns-in-None-other
push_node-returns-in-None-other t c =
    on_ok_weaker c.push_switch.result
    (at_switch c.args.scene.now c.args.node.now c.in-Switch.subject
    c.in-Switch.cases c.items-in-Switch.result.now
    c.in-Switch.other
    (map view_choice c.in_ok-choices-in-Switch.choices.items) (view_output c.args.out.now)
    (view_output c.choices.new.out) (view_ops c.args.own.now.items) (view_ops c.push_switch.new.own.items)
    c.in-Switch.is c.in-None-other.is
    c.items-in-Switch.ensures c.in_ok-choices-in-Switch.ensures)
    c.push_switch.ensures

pub push_node-returns-in_ok-push_nodes-in-Some-other :
    goal.push_node-returns-in_ok-push_nodes-in-Some-other
push_node-returns-in_ok-push_nodes-in-Some-other t c =
    on_ok_both c.push_switch_default.result _ _ _
    (at_switch_default c.args.scene.now c.args.node.now c.in-Switch.subject
    c.in-Switch.cases c.items-in-Switch.result.now
    c.in-Switch.other c.in-Some-other.other
    c.items-in-Some-other.result.now
    (map view_choice c.in_ok-choices-in-Switch.choices.items) (view_output c.args.out.now)
    (view_output c.choices.new.out)
    (view_output c.push_nodes-in-Some-other.new.out) (view_output c.push_switch_default.new.out)
    (view_ops c.new-inner.result.items) (view_ops c.push_nodes-in-Some-other.new.own.items)
    (view_ops c.args.own.now.items) (view_ops c.push_switch_default.new.own.items)
    c.in-Switch.is c.in-Some-other.is
    c.items-in-Switch.ensures c.items-in-Some-other.ensures
    (ap view_ops c.new-inner.ensures.items) c.in_ok-choices-in-Switch.ensures
    c.in_ok-push_nodes-in-Some-other.ensures) c.push_switch_default.ensures.own
    c.push_switch_default.ensures.made

pub push_node-returns-in_ok-push_nodes-in-For : goal.push_node-returns-in_ok-push_nodes-in-For
push_node-returns-in_ok-push_nodes-in-For t c =
    on_ok_both c.push_for.result _ _ _
    (at_for c.args.scene.now c.args.node.now c.in-For.name c.in-For.index c.in-For.list c.in-For.body
    c.items-in-For.result.now (view_output c.args.out.now) (view_output c.push_nodes-in-For.new.out)
    (view_output c.push_for.new.out) (view_ops c.new-inner.result.items) (view_ops c.push_nodes-in-For.new.own.items)
    (view_ops c.args.own.now.items) (view_ops c.push_for.new.own.items) c.in-For.is c.items-in-For.ensures
    (ap view_ops c.new-inner.ensures.items) c.in_ok-push_nodes-in-For.ensures) c.push_for.ensures.own
    c.push_for.ensures.made

pub push_node-returns-in-Let : goal.push_node-returns-in-Let
push_node-returns-in-Let t c =
    on_ok_weaker c.push_let.result
    (at_let c.args.scene.now c.args.node.now c.in-Let.name c.in-Let.expr (view_output c.args.out.now)
    (view_ops c.args.own.now.items) (view_ops c.push_let.new.own.items) c.in-Let.is) c.push_let.ensures

pub push_node-returns-in_ok-push_nodes-in-LetBlock : goal.push_node-returns-in_ok-push_nodes-in-LetBlock
push_node-returns-in_ok-push_nodes-in-LetBlock t c =
    on_ok_both c.push_let_block.result _ _ _
    (at_let_block c.args.scene.now c.args.node.now c.in-LetBlock.name c.in-LetBlock.kind c.in-LetBlock.body
    c.items-in-LetBlock.result.now (view_output c.args.out.now) (view_output c.push_nodes-in-LetBlock.new.out)
    (view_output c.push_let_block.new.out) (view_ops c.new-inner.result.items)
    (view_ops c.push_nodes-in-LetBlock.new.own.items) (view_ops c.args.own.now.items)
    (view_ops c.push_let_block.new.own.items) c.in-LetBlock.is c.items-in-LetBlock.ensures
    (ap view_ops c.new-inner.ensures.items) c.in_ok-push_nodes-in-LetBlock.ensures) c.push_let_block.ensures.own
    c.push_let_block.ensures.made

pub push_node-returns-in_ok-handed-in-Call : goal.push_node-returns-in_ok-handed-in-Call
push_node-returns-in_ok-handed-in-Call t c =
    on_ok_weaker c.push_call.result
    (at_call c.args.scene.now c.args.node.now c.in-Call.name c.in-Call.all c.in-Call.given c.items-in-Call.result.now
    c.items-in-Call-2.result.now (map view_handed c.in_ok-handed-in-Call.handed.items) c.in_ok-place-in-Call.place
    (view_output c.args.out.now) (view_output c.take_place.new.self) (view_output c.handed.new.out)
    (view_ops c.args.own.now.items) (view_ops c.push_call.new.own.items) c.in-Call.is c.items-in-Call.ensures
    c.items-in-Call-2.ensures c.in_ok-place-in-Call.ensures.made c.in_ok-place-in-Call.ensures.place
    c.in_ok-handed-in-Call.ensures) c.push_call.ensures

pub push_node-returns-in-None-other-2 :
    goal.push_node-returns-in-None-other-2
push_node-returns-in-None-other-2 t c =
    on_ok_weaker c.push_alone.result
    (at_message c.args.scene.now c.args.node.now c.get-message.result.now c.in-Message.other
    c.args.out.now c.push_body.new.out (view_output c.push_alone.new.out) c.len-old_length.result
    (view_ops c.new-inner.result.items) (view_ops c.push_body.new.own.items) (view_ops c.args.own.now.items)
    (view_ops c.push_alone.new.own.items) (c.in-Message.is
    ∙ ap (λ m. form.Message m c.in-Message.other) (sym c.get-message.ensures)) c.in-None-other-2.is
    (old_length c.args.out.now.ops.items c.len-old_length.result (omega arith))
    (ap view_ops c.new-inner.ensures.items) c.in_ok-push_body-in-Message.ensures) c.push_alone.ensures

pub push_node-returns-in-Some-other-2 :
    goal.push_node-returns-in-Some-other-2
push_node-returns-in-Some-other-2 t c =
    on_ok_weaker c.push_either.result
    (at_message_fallback c.args.scene.now c.args.node.now c.get-message.result.now
    c.get.result.now c.in-Message.other c.args.out.now
    c.push_body.new.out (view_output c.push_either.new.out)
    c.len-old_length.result (view_ops c.new-inner.result.items)
    (view_ops c.push_body.new.own.items) (view_ops c.args.own.now.items)
    (view_ops c.push_either.new.own.items) (c.in-Message.is
    ∙ ap (λ m. form.Message m c.in-Message.other) (sym c.get-message.ensures))
    (c.in-Some-other-2.is ∙ ap Some (sym c.get.ensures))
    (old_length c.args.out.now.ops.items c.len-old_length.result (omega arith)) (ap view_ops c.new-inner.ensures.items)
    c.in_ok-push_body-in-Message.ensures) c.push_either.ensures

-- ---- lists

pub push_nodes-loop-node-preserved : goal.push_nodes-loop-node-preserved
push_nodes-loop-node-preserved t c =
    nodes_step c.args.scene.now c.args.nodes.now c.loop-node.node-index c.node-item.result
    (view_output c.args.out.now) (view_output c.loop-node.out) (view_output c.push_node.new.out)
    (view_ops c.args.own.now.items) (view_ops c.loop-node.own.items) (view_ops c.push_node.new.own.items)
    c.loop-node-test.true c.node-item.is c.in_ok-push_node.ensures c.loop-node.invariant

-- ---- the contents of messages

pub push_body-returns-in_ok-push_nodes-in-Parts : goal.push_body-returns-in_ok-push_nodes-in-Parts
push_body-returns-in_ok-push_nodes-in-Parts t c =
    at_parts c.args.scene.now c.args.body.now c.in-Parts.nodes c.items.result.now (view_output c.args.out.now)
    (view_output c.push_nodes.new.out) (view_ops c.args.own.now.items) (view_ops c.push_nodes.new.own.items)
    c.in-Parts.is c.items.ensures c.in_ok-push_nodes-in-Parts.ensures

pub push_body-returns-in_ok-push_body-in-Plural : goal.push_body-returns-in_ok-push_body-in-Plural
push_body-returns-in_ok-push_body-in-Plural t c =
    on_ok_both c.push_source_plural.result _ _ _
    (at_plural c.args.scene.now c.args.body.now c.in-Plural.other c.get.result.now c.in-Plural.number
    c.in-Plural.offset c.in-Plural.cases c.items-in-Plural.result.now c.in_ok-exact-in-Plural.exact.items
    (view_output c.args.out.now) (view_output c.exact_blocks.new.out) (view_output c.push_body.new.out)
    (view_output c.push_source_plural.new.out) (view_ops c.new-inner.result.items) (view_ops c.push_body.new.own.items)
    (view_ops c.args.own.now.items) (view_ops c.push_source_plural.new.own.items) c.in-Plural.is
    c.items-in-Plural.ensures c.get.ensures (ap view_ops c.new-inner.ensures.items) c.in_ok-exact-in-Plural.ensures
    c.in_ok-push_body-in-Plural.ensures) c.push_source_plural.ensures.own c.push_source_plural.ensures.made

pub push_body-returns-in_ok-push_body-in-Select : goal.push_body-returns-in_ok-push_body-in-Select
push_body-returns-in_ok-push_body-in-Select t c =
    on_ok_both c.push_source_select.result _ _ _
    (at_select c.args.scene.now c.args.body.now c.in-Select.other c.get-in-Select.result.now c.in-Select.word
    c.in-Select.cases c.items-in-Select.result.now c.in_ok-arms-in-Select.arms.items (view_output c.args.out.now)
    (view_output c.word_blocks.new.out) (view_output c.push_body-in-Select.new.out)
    (view_output c.push_source_select.new.out) (view_ops c.new-inner-in-Select.result.items)
    (view_ops c.push_body-in-Select.new.own.items) (view_ops c.args.own.now.items)
    (view_ops c.push_source_select.new.own.items) c.in-Select.is c.items-in-Select.ensures c.get-in-Select.ensures
    (ap view_ops c.new-inner-in-Select.ensures.items) c.in_ok-arms-in-Select.ensures
    c.in_ok-push_body-in-Select.ensures) c.push_source_select.ensures.own c.push_source_select.ensures.made

-- ---- params

pub push_given-returns-in-Plain : goal.push_given-returns-in-Plain
push_given-returns-in-Plain t c =
    on_ok_weaker c.push_plain.result
    (gives_plain c.args.scene.now c.args.argument.now c.in-Plain.expr (view_output c.args.out.now)
    (map view_handed c.args.handed.now.items) (map view_handed c.push_plain.new.handed.items) c.in-Plain.is)
    c.push_plain.ensures

pub push_given-returns-in_ok-push_nodes-in-Block : goal.push_given-returns-in_ok-push_nodes-in-Block
push_given-returns-in_ok-push_nodes-in-Block t c =
    on_ok_both c.push_block.result _ _ _
    (gives_block c.args.scene.now c.args.argument.now c.in-Block.kind c.in-Block.body c.items.result.now
    (view_output c.args.out.now) (view_output c.push_nodes.new.out) (view_output c.push_block.new.out)
    (view_ops c.new-inner.result.items) (view_ops c.push_nodes.new.own.items) (map view_handed c.args.handed.now.items)
    (map view_handed c.push_block.new.handed.items) c.in-Block.is c.items.ensures
    (ap view_ops c.new-inner.ensures.items) c.in_ok-push_nodes-in-Block.ensures) c.push_block.ensures.made
    c.push_block.ensures.handed

-- ---- arms and cases

pub branches-loop-arm-preserved : goal.branches-loop-arm-preserved
branches-loop-arm-preserved t c =
    arms_step c.args.scene.now c.args.arms.now c.loop-arm.arm-index c.arm-item.result c.items.result.now
    (view_output c.args.out.now) (view_output c.loop-arm.out) (view_output c.push_nodes.new.out)
    (view_output c.push_branch.new.out) (view_ops c.new-body.result.items) (view_ops c.push_nodes.new.own.items)
    (map view_branch c.loop-arm.branches.items) (map view_branch c.push_branch.new.branches.items)
    c.loop-arm-test.true c.arm-item.is c.items.ensures (ap view_ops c.new-body.ensures.items)
    c.in_ok-push_nodes.ensures c.in_ok-push_branch.ensures.made c.in_ok-push_branch.ensures.branches
    c.loop-arm.invariant

pub choices-loop-case-preserved : goal.choices-loop-case-preserved
choices-loop-case-preserved t c =
    cases_step c.args.scene.now c.args.cases.now c.loop-case.case-index c.case-item.result c.items.result.now
    c.items-in-loop-case.result.now (view_output c.args.out.now) (view_output c.loop-case.out)
    (view_output c.push_nodes.new.out) (view_output c.push_choice.new.out) (view_ops c.new-body.result.items)
    (view_ops c.push_nodes.new.own.items) (map view_choice c.loop-case.choices.items)
    (map view_choice c.push_choice.new.choices.items) c.loop-case-test.true c.case-item.is c.items.ensures
    c.items-in-loop-case.ensures (ap view_ops c.new-body.ensures.items) c.in_ok-push_nodes.ensures
    c.in_ok-push_choice.ensures.made c.in_ok-push_choice.ensures.choices c.loop-case.invariant

pub handed-loop-argument-preserved : goal.handed-loop-argument-preserved
handed-loop-argument-preserved t c =
    given_step c.args.scene.now c.args.given.now c.loop-argument.argument-index c.argument-item.result
    (view_output c.args.out.now) (view_output c.loop-argument.out) (view_output c.push_given.new.out)
    (map view_handed c.loop-argument.handed.items) (map view_handed c.push_given.new.handed.items)
    c.loop-argument-test.true c.argument-item.is c.in_ok-push_given.ensures c.loop-argument.invariant

pub exact_blocks-loop-case-preserved : goal.exact_blocks-loop-case-preserved
exact_blocks-loop-case-preserved t c =
    let fits : SFits w64 c.case-item.result.is = search rules in
    plural_cases_step c.args.scene.now c.args.cases.now c.loop-case.case-index c.case-item.result
    (view_output c.args.out.now) (view_output c.loop-case.out) (view_output c.push_body.new.out)
    (view_output c.lay.new.self) (view_ops c.new-inner.result.items) (view_ops c.push_body.new.own.items)
    c.loop-case.blocks.items c.push.new.self.items c.loop-case-test.true c.case-item.is
    (ap view_ops c.new-inner.ensures.items) c.in_ok-push_body.ensures c.in_ok-body.ensures.made
    (exact_last c.loop-case.blocks.items c.push.new.self.items _ c.case-item.result.is c.in_ok-body.body _
    (to_z-of_z w64 c.case-item.result.is fits) c.in_ok-body.ensures.block c.in_ok-push.ensures.items)
    c.loop-case.invariant

pub word_blocks-loop-case-preserved : goal.word_blocks-loop-case-preserved
word_blocks-loop-case-preserved t c =
    select_cases_step c.args.scene.now c.args.cases.now c.loop-case.case-index c.case-item.result
    (view_output c.args.out.now) (view_output c.loop-case.out) (view_output c.push_body.new.out)
    (view_output c.push_word.new.out) (view_ops c.new-body.result.items) (view_ops c.push_body.new.own.items)
    c.loop-case.blocks.items c.push_word.new.blocks.items c.loop-case-test.true c.case-item.is
    (ap view_ops c.new-body.ensures.items) c.in_ok-push_body.ensures c.in_ok-push_word.ensures.made
    c.in_ok-push_word.ensures.blocks c.loop-case.invariant

-- ---- before the first item and past the last

pub push_nodes-loop-node-init : goal.push_nodes-loop-node-init
push_nodes-loop-node-init t c =
    nodes_begin c.args.scene.now c.args.nodes.now (view_output c.args.out.now) (view_ops c.args.own.now.items)

pub push_nodes-returns : goal.push_nodes-returns
push_nodes-returns t c =
    nodes_end c.args.scene.now c.args.nodes.now (drop c.loop-node.node-index c.args.nodes.now)
    (view_output c.args.out.now) (view_output c.loop-node.out) (view_ops c.args.own.now.items)
    (view_ops c.loop-node.own.items) (drop_all c.args.nodes.now c.loop-node.node-index (omega arith))
    c.loop-node.invariant

pub branches-loop-arm-init : goal.branches-loop-arm-init
branches-loop-arm-init t c =
    arms_begin c.args.scene.now c.args.arms.now (view_output c.args.out.now)
    (map view_branch c.new-branches.result.items) (ap (map view_branch) c.new-branches.ensures.items)

pub branches-returns : goal.branches-returns
branches-returns t c =
    arms_end c.args.scene.now c.args.arms.now c.loop-arm.arm-index (view_output c.args.out.now)
    (view_output c.loop-arm.out) (map view_branch c.loop-arm.branches.items) (omega arith) c.loop-arm.invariant

pub choices-loop-case-init : goal.choices-loop-case-init
choices-loop-case-init t c =
    cases_begin c.args.scene.now c.args.cases.now (view_output c.args.out.now)
    (map view_choice c.new-choices.result.items) (ap (map view_choice) c.new-choices.ensures.items)

pub choices-returns : goal.choices-returns
choices-returns t c =
    cases_end c.args.scene.now c.args.cases.now c.loop-case.case-index (view_output c.args.out.now)
    (view_output c.loop-case.out) (map view_choice c.loop-case.choices.items) (omega arith) c.loop-case.invariant

pub handed-loop-argument-init : goal.handed-loop-argument-init
handed-loop-argument-init t c =
    given_begin c.args.scene.now c.args.given.now (view_output c.args.out.now)
    (map view_handed c.new-handed.result.items) (ap (map view_handed) c.new-handed.ensures.items)

pub handed-returns : goal.handed-returns
handed-returns t c =
    given_end c.args.scene.now c.args.given.now c.loop-argument.argument-index (view_output c.args.out.now)
    (view_output c.loop-argument.out) (map view_handed c.loop-argument.handed.items) (omega arith)
    c.loop-argument.invariant

pub exact_blocks-loop-case-init : goal.exact_blocks-loop-case-init
exact_blocks-loop-case-init t c =
    plural_cases_begin c.args.scene.now c.args.cases.now (view_output c.args.out.now) c.new-blocks.result.items
    c.new-blocks.ensures.items

pub exact_blocks-returns : goal.exact_blocks-returns
exact_blocks-returns t c =
    plural_cases_end c.args.scene.now c.args.cases.now c.loop-case.case-index (view_output c.args.out.now)
    (view_output c.loop-case.out) c.loop-case.blocks.items (omega arith) c.loop-case.invariant

pub word_blocks-loop-case-init : goal.word_blocks-loop-case-init
word_blocks-loop-case-init t c =
    select_cases_begin c.args.scene.now c.args.cases.now (view_output c.args.out.now) c.new-blocks.result.items
    c.new-blocks.ensures.items

pub word_blocks-returns : goal.word_blocks-returns
word_blocks-returns t c =
    select_cases_end c.args.scene.now c.args.cases.now c.loop-case.case-index (view_output c.args.out.now)
    (view_output c.loop-case.out) c.loop-case.blocks.items (omega arith) c.loop-case.invariant
