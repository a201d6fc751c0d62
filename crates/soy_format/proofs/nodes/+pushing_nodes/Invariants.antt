use Rattle.std.proofs.Common.{◌≡◌, ◌+◌, ◌*◌, ◌++◌, max, drop, true}
use denote.Param.Weighed.{most}
use Rattle.std.specs.Str.{chars}
use Rattle.std.specs.String.{string_bytes}
use Rattle.soy_tree.specs.ViewNodes.{view_arguments, view_arms, view_cases, view_nodes, view_plural_cases}
use Rattle.soy_tree.specs.ViewNodes.{view_select_cases}
use Rattle.soy_tree.specs.declared.node.Node.{size-Node}
use Rattle.soy_tree.specs.declared.node.Arm.{size-Arm}
use Rattle.soy_tree.specs.declared.node.Case.{size-Case}
use Rattle.soy_tree.specs.declared.node.Argument.{size-Argument}
use Rattle.soy_tree.specs.declared.node.Given.{size-Given}
use Rattle.soy_tree.specs.declared.node.Message.{size-Message}
use Rattle.soy_tree.specs.declared.node.MessageBody.{size-MessageBody}
use Rattle.soy_tree.specs.declared.node.PluralCase.{size-PluralCase}
use Rattle.soy_tree.specs.declared.node.SelectCase.{size-SelectCase}
use Rattle.soy_format.specs.FormattedBody.{formatted_arguments, formatted_arms, formatted_cases, formatted_nodes}
use Rattle.soy_format.specs.FormattedBody.{formatted_plural_cases, formatted_select_cases}
use Rattle.soy_format.proofs.nodes.+pushing_nodes.Given as goal

abbrev pub invariant-push_nodes-loop-node : goal.invariant-push_nodes-loop-node
invariant-push_nodes-loop-node l =
    chars (string_bytes l.out) ++ formatted_nodes (view_nodes (drop l.node-index l.nodes))
    ≡ chars (string_bytes l.initial.out) ++ formatted_nodes (view_nodes l.nodes)

abbrev pub invariant-push_arms-loop-arm : goal.invariant-push_arms-loop-arm
invariant-push_arms-loop-arm l =
    chars (string_bytes l.out) ++ formatted_arms l.is_first (view_arms (drop l.arm-index l.arms))
    ≡ chars (string_bytes l.initial.out) ++ formatted_arms true (view_arms l.arms)

abbrev pub invariant-push_cases-loop-case : goal.invariant-push_cases-loop-case
invariant-push_cases-loop-case l =
    chars (string_bytes l.out) ++ formatted_cases (view_cases (drop l.case-index l.cases))
    ≡ chars (string_bytes l.initial.out) ++ formatted_cases (view_cases l.cases)

abbrev pub invariant-push_arguments-loop-argument : goal.invariant-push_arguments-loop-argument
invariant-push_arguments-loop-argument l =
    chars (string_bytes l.out) ++ formatted_arguments (view_arguments (drop l.argument-index l.arguments))
    ≡ chars (string_bytes l.initial.out) ++ formatted_arguments (view_arguments l.arguments)

abbrev pub invariant-push_plural_cases-loop-case : goal.invariant-push_plural_cases-loop-case
invariant-push_plural_cases-loop-case l =
    chars (string_bytes l.out) ++ formatted_plural_cases (view_plural_cases (drop l.case-index l.cases))
    ≡ chars (string_bytes l.initial.out) ++ formatted_plural_cases (view_plural_cases l.cases)

abbrev pub invariant-push_select_cases-loop-case : goal.invariant-push_select_cases-loop-case
invariant-push_select_cases-loop-case l =
    chars (string_bytes l.out) ++ formatted_select_cases (view_select_cases (drop l.case-index l.cases))
    ≡ chars (string_bytes l.initial.out) ++ formatted_select_cases (view_select_cases l.cases)

abbrev pub decreases-push_nodes : goal.decreases-push_nodes
decreases-push_nodes l = 8 * most size-Node l.nodes.now + 1

abbrev pub decreases-push_node : goal.decreases-push_node
decreases-push_node l = 8 * size-Node l.node.now

abbrev pub decreases-push_arms : goal.decreases-push_arms
decreases-push_arms l = 8 * most size-Arm l.arms.now + 3

abbrev pub decreases-push_cases : goal.decreases-push_cases
decreases-push_cases l = 8 * most size-Case l.cases.now + 3

abbrev pub decreases-push_arguments : goal.decreases-push_arguments
decreases-push_arguments l = 8 * most size-Argument l.arguments.now + 3

abbrev pub decreases-push_argument : goal.decreases-push_argument
decreases-push_argument l = 8 * size-Given l.given.now + 2

abbrev pub decreases-push_message : goal.decreases-push_message
decreases-push_message l = 8 * size-Message l.message.now + 2

abbrev pub decreases-push_messages : goal.decreases-push_messages
decreases-push_messages l = 8 * max (size-Message l.message.now) (size-Message l.other.now) + 3

abbrev pub decreases-push_message_body : goal.decreases-push_message_body
decreases-push_message_body l = 8 * size-MessageBody l.body.now + 3

abbrev pub decreases-push_plural_cases : goal.decreases-push_plural_cases
decreases-push_plural_cases l = 8 * most size-PluralCase l.cases.now + 4

abbrev pub decreases-push_select_cases : goal.decreases-push_select_cases
decreases-push_select_cases l = 8 * most size-SelectCase l.cases.now + 4
