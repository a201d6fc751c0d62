use Rattle.std.proofs.Common.{◌≡◌, drop}
use Rattle.std.specs.List.{list_any}
use Rattle.soy_rules.specs.Members.{union_members}
use Rattle.soy_tree.specs.ViewTypes.{view_members}
use Rattle.soy_expr.specs.MemberKinds.{is_of_kind}
use Rattle.soy_expr.proofs.member_kind.+searching.Given as goal

abbrev pub invariant-some_has_member-loop-of : goal.invariant-some_has_member-loop-of
invariant-some_has_member-loop-of l =
    list_any (is_of_kind l.kind) (union_members (view_members l.types)) ≡ list_any (is_of_kind l.kind)
    (union_members (view_members (drop l.of-index l.types)))
