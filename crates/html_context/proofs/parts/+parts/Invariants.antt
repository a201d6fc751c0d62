use Rattle.std.proofs.Common.{◌+◌, ◌*◌, ◌++◌, map, drop}
use denote.Param.Weighed.{most}
use Rattle.soy_tree.specs.ViewMessageParts.{exact_arms_of, named_arms_of, select_arms_of, view_exact, view_named}
use Rattle.soy_tree.specs.ViewMessageParts.{view_parts, view_select_arm}
use Rattle.soy_tree.specs.declared.bundle.MsgPart.{size-MsgPart}
use Rattle.soy_tree.specs.declared.bundle.ExactArm.{size-ExactArm}
use Rattle.soy_tree.specs.declared.bundle.NamedArm.{size-NamedArm}
use Rattle.soy_tree.specs.declared.bundle.SelectArm.{size-SelectArm}
use Rattle.html_context.specs.StandsFor.{walk_of, walks_of}
use Rattle.html_context.specs.ViewParts.{plan_of_parts, plans_of_exact, plans_of_named, plans_of_select}
use Rattle.html_context.proofs.WrittenLists.{InTurnSoFar, ListSoFar}
use Rattle.html_context.proofs.parts.+parts.Given as goal

abbrev pub invariant-all_parts-loop-part : goal.invariant-all_parts-loop-part
invariant-all_parts-loop-part l =
    InTurnSoFar l.initial.rows.items l.rows.items l.numbers.items
    (plan_of_parts l.source (view_parts (drop l.part-index l.parts))) (plan_of_parts l.source (view_parts l.parts))

abbrev pub invariant-exact_arms-loop-arm : goal.invariant-exact_arms-loop-arm
invariant-exact_arms-loop-arm l =
    ListSoFar l.initial.rows.items l.rows.items l.numbers.items
    (plans_of_exact l.source (exact_arms_of (map view_exact (drop l.arm-index l.arms))))
    (map walk_of (plans_of_exact l.source (exact_arms_of (map view_exact l.arms))))

abbrev pub invariant-named_arms-loop-arm : goal.invariant-named_arms-loop-arm
invariant-named_arms-loop-arm l =
    ListSoFar l.initial.rows.items l.rows.items l.numbers.items
    (plans_of_named l.source (named_arms_of (map view_named (drop l.arm-index l.arms))))
    (walks_of l.initial.rows.items l.fn.before.items
    ++ map walk_of (plans_of_named l.source (named_arms_of (map view_named l.arms))))

abbrev pub invariant-select_arms-loop-arm : goal.invariant-select_arms-loop-arm
invariant-select_arms-loop-arm l =
    ListSoFar l.initial.rows.items l.rows.items l.numbers.items
    (plans_of_select l.source (select_arms_of (map view_select_arm (drop l.arm-index l.arms))))
    (map walk_of (plans_of_select l.source (select_arms_of (map view_select_arm l.arms))))

abbrev pub decreases-all_parts : goal.decreases-all_parts
decreases-all_parts l = 4 * most size-MsgPart l.parts.now + 1

abbrev pub decreases-one_part : goal.decreases-one_part
decreases-one_part l = 4 * size-MsgPart l.part.now

abbrev pub decreases-exact_arms : goal.decreases-exact_arms
decreases-exact_arms l = 4 * most size-ExactArm l.arms.now + 2

abbrev pub decreases-named_arms : goal.decreases-named_arms
decreases-named_arms l = 4 * most size-NamedArm l.arms.now + 2

abbrev pub decreases-select_arms : goal.decreases-select_arms
decreases-select_arms l = 4 * most size-SelectArm l.arms.now + 2
