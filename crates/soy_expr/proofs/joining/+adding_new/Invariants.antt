use Rattle.std.proofs.Common.{◌≡◌, drop, map}
use Rattle.soy_rules.specs.Members.{union_members, with_members}
use Rattle.soy_tree.specs.ViewTypes.{view_type, view_members}
use Rattle.soy_expr.proofs.joining.+adding_new.Given as goal

abbrev pub invariant-add_all_new_members-loop-of : goal.invariant-add_all_new_members-loop-of
invariant-add_all_new_members-loop-of l =
    with_members (map view_type l.kept.items) (union_members (view_members (drop l.of-index l.types)))
    ≡ with_members (map view_type l.initial.kept.items) (union_members (view_members l.types))
