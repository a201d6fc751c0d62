use Rattle.std.proofs.Common.{◌≡◌, take}
use Rattle.soy_tree.proofs.node.+copying_nodes.Given as goal

abbrev pub invariant-copied_nodes-loop-node : goal.invariant-copied_nodes-loop-node
invariant-copied_nodes-loop-node l = l.copied.items ≡ take l.node-index l.nodes

abbrev pub invariant-copied_arms-loop-arm : goal.invariant-copied_arms-loop-arm
invariant-copied_arms-loop-arm l = l.copied.items ≡ take l.arm-index l.arms

abbrev pub invariant-copied_cases-loop-case : goal.invariant-copied_cases-loop-case
invariant-copied_cases-loop-case l = l.copied.items ≡ take l.case-index l.cases

abbrev pub invariant-copied_arguments-loop-argument : goal.invariant-copied_arguments-loop-argument
invariant-copied_arguments-loop-argument l = l.copied.items ≡ take l.argument-index l.arguments

abbrev pub invariant-copied_plural_cases-loop-case : goal.invariant-copied_plural_cases-loop-case
invariant-copied_plural_cases-loop-case l = l.copied.items ≡ take l.case-index l.cases

abbrev pub invariant-copied_select_cases-loop-case : goal.invariant-copied_select_cases-loop-case
invariant-copied_select_cases-loop-case l = l.copied.items ≡ take l.case-index l.cases
