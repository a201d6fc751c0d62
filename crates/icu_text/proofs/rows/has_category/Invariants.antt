use Rattle.std.proofs.Common.{◌≡◌, drop, map}
use Rattle.soy_tree.specs.ViewMessageParts.{view_named}
use Rattle.icu_text.specs.FirstArms.{has_category}
use Rattle.icu_text.proofs.rows.has_category.Given as goal

abbrev pub invariant-loop-arm : goal.invariant-loop-arm
invariant-loop-arm l =
    has_category l.category (map view_named (drop l.arm-index l.arms)) ≡ has_category l.category (map view_named l.arms)
