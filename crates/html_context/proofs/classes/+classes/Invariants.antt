use Rattle.std.proofs.Common.{◌≡◌, ◌++◌, drop}
use Rattle.soy_meaning.specs.Paths.PlanOfParts.{classes_of_all}
use Rattle.soy_rules.specs.Members.{union_members}
use Rattle.soy_tree.specs.ViewTypes.{view_members}
use Rattle.html_context.proofs.classes.+classes.Given as goal

abbrev pub invariant-push_all-loop-of : goal.invariant-push_all-loop-of
invariant-push_all-loop-of l =
    l.classes.items ++ classes_of_all (union_members (view_members (drop l.of-index l.members)))
    ≡ l.initial.classes.items ++ classes_of_all (union_members (view_members l.members))
