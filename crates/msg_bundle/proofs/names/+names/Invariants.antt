use Rattle.std.proofs.Common.{◌≡◌, drop, map}
use Rattle.soy_tree.specs.ViewMessageParts.{exact_arms_of, named_arms_of, select_arms_of, view_exact, view_named}
use Rattle.soy_tree.specs.ViewMessageParts.{view_parts, view_select_arm}
use Rattle.msg_extract.specs.Fits.{exact_fault, named_fault, parts_fault, select_fault}
use Rattle.msg_bundle.proofs.names.+names.Given as goal

abbrev pub invariant-parts_fault-loop-part : goal.invariant-parts_fault-loop-part
invariant-parts_fault-loop-part l =
    parts_fault l.source (view_parts (drop l.part-index l.parts)) ≡ parts_fault l.source (view_parts l.parts)

abbrev pub invariant-exact_fault-loop-arm : goal.invariant-exact_fault-loop-arm
invariant-exact_fault-loop-arm l =
    exact_fault l.source (exact_arms_of (map view_exact (drop l.arm-index l.arms)))
    ≡ exact_fault l.source (exact_arms_of (map view_exact l.arms))

abbrev pub invariant-named_fault-loop-arm : goal.invariant-named_fault-loop-arm
invariant-named_fault-loop-arm l =
    named_fault l.source (named_arms_of (map view_named (drop l.arm-index l.arms)))
    ≡ named_fault l.source (named_arms_of (map view_named l.arms))

abbrev pub invariant-select_fault-loop-arm : goal.invariant-select_fault-loop-arm
invariant-select_fault-loop-arm l =
    select_fault l.source (select_arms_of (map view_select_arm (drop l.arm-index l.arms)))
    ≡ select_fault l.source (select_arms_of (map view_select_arm l.arms))
