use Rattle.std.proofs.Common.{◌≡◌, drop}
use Rattle.soy_rules.specs.Bodies.{has_member}
use Rattle.soy_rules.specs.Members.{union_members}
use Rattle.soy_tree.specs.ViewTypes.{view_members}
use Rattle.soy_check.proofs.commands.+searching.Given as goal

abbrev pub invariant-some_has_member-loop-of : goal.invariant-some_has_member-loop-of
invariant-some_has_member-loop-of l =
    has_member (union_members (view_members l.types))
    ≡ has_member (union_members (view_members (drop l.of-index l.types)))
