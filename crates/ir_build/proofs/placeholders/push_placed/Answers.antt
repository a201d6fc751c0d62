use mathlib.Core.Path.{refl}
use Rattle.std.proofs.lemmas.Result.{on_ok_weaker}
use Rattle.soy_tree.specs.ViewExpressions.{view_expr}
use Rattle.soy_tree.specs.ViewNodes.{view_node}
use Rattle.template_ir.specs.ViewOps.{view_ops}
use Rattle.ir_build.specs.Laid.{view_output}
use Rattle.ir_build.proofs.FormViews.{is_call, is_for, is_if_any, is_let, is_let_block, is_message_any, is_print}
use Rattle.ir_build.proofs.FormViews.{is_switch_any, is_text}
use Rattle.ir_build.proofs.OpLists.{on_ok_both}
use Rattle.ir_build.proofs.Placing.{not_placed, print_placed, text_placed}
use Rattle.ir_build.proofs.placeholders.push_placed.Goals as goal

pub returns-in-Text : goal.returns-in-Text
returns-in-Text c =
    on_ok_weaker c.push_text.result
    (text_placed c.args.source.now.places.now (view_node c.args.node.now) c.in-Text.text c.args.node.now.span
    (view_output c.args.out.now) (view_ops c.args.own.now.items) (view_ops c.push_text.new.own.items)
    (is_text c.args.node.now c.in-Text.text c.in-Text.is)) c.push_text.ensures

pub returns-in-Print : goal.returns-in-Print
returns-in-Print c =
    on_ok_both c.push_print.result _ _ _
    (print_placed c.args.source.now.places.now (view_node c.args.node.now) (view_expr c.in-Print.expr)
    c.in-Print.field-1 c.args.node.now.span (view_output c.args.out.now) (view_output c.push_print.new.out)
    (view_ops c.args.own.now.items) (view_ops c.push_print.new.own.items)
    (is_print c.args.node.now c.in-Print.expr c.in-Print.field-1 c.in-Print.is)) c.push_print.ensures.own
    c.push_print.ensures.made

pub returns-in-If : goal.returns-in-If
returns-in-If c =
    not_placed c.args.source.now.places.now (view_node c.args.node.now) _ (view_output c.args.out.now)
    (view_ops c.args.own.now.items) (is_if_any c.args.node.now c.in-If.field-0 c.in-If.field-1 c.in-If.is) refl
    (λ hole all at. refl)

pub returns-in-Switch : goal.returns-in-Switch
returns-in-Switch c =
    not_placed c.args.source.now.places.now (view_node c.args.node.now) _ (view_output c.args.out.now)
    (view_ops c.args.own.now.items)
    (is_switch_any c.args.node.now c.in-Switch.field-0 c.in-Switch.field-1 c.in-Switch.field-2 c.in-Switch.is) refl
    (λ hole all at. refl)

pub returns-in-For : goal.returns-in-For
returns-in-For c =
    not_placed c.args.source.now.places.now (view_node c.args.node.now) _ (view_output c.args.out.now)
    (view_ops c.args.own.now.items)
    (is_for c.args.node.now c.in-For.field-0 c.in-For.field-1 c.in-For.field-2 c.in-For.field-3 c.in-For.is) refl
    (λ hole all at. refl)

pub returns-in-Let : goal.returns-in-Let
returns-in-Let c =
    not_placed c.args.source.now.places.now (view_node c.args.node.now) _ (view_output c.args.out.now)
    (view_ops c.args.own.now.items) (is_let c.args.node.now c.in-Let.field-0 c.in-Let.field-1 c.in-Let.is) refl
    (λ hole all at. refl)

pub returns-in-LetBlock : goal.returns-in-LetBlock
returns-in-LetBlock c =
    not_placed c.args.source.now.places.now (view_node c.args.node.now) _ (view_output c.args.out.now)
    (view_ops c.args.own.now.items)
    (is_let_block c.args.node.now c.in-LetBlock.field-0 c.in-LetBlock.field-1 c.in-LetBlock.field-2 c.in-LetBlock.is)
    refl (λ hole all at. refl)

pub returns-in-Call : goal.returns-in-Call
returns-in-Call c =
    not_placed c.args.source.now.places.now (view_node c.args.node.now) _ (view_output c.args.out.now)
    (view_ops c.args.own.now.items)
    (is_call c.args.node.now c.in-Call.field-0 c.in-Call.field-1 c.in-Call.field-2 c.in-Call.is) refl
    (λ hole all at. refl)

pub returns-in-Message : goal.returns-in-Message
returns-in-Message c =
    not_placed c.args.source.now.places.now (view_node c.args.node.now) _ (view_output c.args.out.now)
    (view_ops c.args.own.now.items)
    (is_message_any c.args.node.now c.in-Message.field-0 c.in-Message.field-1 c.in-Message.is) refl
    (λ hole all at. refl)
