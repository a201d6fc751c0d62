use Rattle.std.proofs.Common.{◌≡◌, ◌++◌, drop, map}
use Rattle.soy_tree.specs.ViewNodes.{view_arguments, view_arms, view_cases, view_nodes}
use Rattle.msg_extract.specs.MessagesIn.{argument_messages, arm_messages, case_messages, messages_in}
use Rattle.msg_extract.specs.Views.ViewMessages.{view_found}
use Rattle.msg_extract.proofs.messages.+messages.Given as goal

abbrev pub invariant-push_nodes-loop-node : goal.invariant-push_nodes-loop-node
invariant-push_nodes-loop-node l =
    map view_found l.found ++ messages_in (view_nodes (drop l.node-index l.nodes))
    ≡ map view_found l.initial.found ++ messages_in (view_nodes l.nodes)

abbrev pub invariant-push_arms-loop-arm : goal.invariant-push_arms-loop-arm
invariant-push_arms-loop-arm l =
    map view_found l.found ++ arm_messages (view_arms (drop l.arm-index l.arms))
    ≡ map view_found l.initial.found ++ arm_messages (view_arms l.arms)

abbrev pub invariant-push_cases-loop-case : goal.invariant-push_cases-loop-case
invariant-push_cases-loop-case l =
    map view_found l.found ++ case_messages (view_cases (drop l.case-index l.cases))
    ≡ map view_found l.initial.found ++ case_messages (view_cases l.cases)

abbrev pub invariant-push_arguments-loop-argument : goal.invariant-push_arguments-loop-argument
invariant-push_arguments-loop-argument l =
    map view_found l.found ++ argument_messages (view_arguments (drop l.argument-index l.arguments))
    ≡ map view_found l.initial.found ++ argument_messages (view_arguments l.arguments)
