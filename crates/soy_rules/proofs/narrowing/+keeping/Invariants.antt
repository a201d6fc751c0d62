use Rattle.std.proofs.Common.{◌≡◌, ◌++◌, drop, map, filter}
use Rattle.soy_rules.specs.Members.{is_some_type, union_members}
use Rattle.soy_tree.specs.ViewTypes.{view_type, view_members}
use Rattle.soy_rules.proofs.narrowing.+keeping.Given as goal

abbrev pub invariant-keep_all_some-loop-of : goal.invariant-keep_all_some-loop-of
invariant-keep_all_some-loop-of l =
    map view_type l.kept.items ++ filter is_some_type (union_members (view_members (drop l.of-index l.types)))
    ≡ map view_type l.initial.kept.items ++ filter is_some_type (union_members (view_members l.types))
