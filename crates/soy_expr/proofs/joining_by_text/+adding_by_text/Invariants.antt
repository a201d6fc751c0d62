use Rattle.std.proofs.Common.{◌≡◌, drop, map}
use Rattle.soy_rules.specs.Members.{union_members, with_members}
use Rattle.soy_tree.specs.ViewTypes.{view_type, view_members}
use Rattle.soy_expr.specs.TypeNumbers.{HasTexts}
use Rattle.soy_expr.proofs.joining_by_text.+adding_by_text.Given as goal

abbrev pub invariant-add_all_members-loop-of : goal.invariant-add_all_members-loop-of
invariant-add_all_members-loop-of l = record {
  kept : with_members (map view_type l.kept.items) (union_members (view_members (drop l.of-index l.types)))
      ≡ with_members (map view_type l.initial.kept.items) (union_members (view_members l.types));
  texts : HasTexts l.numbers (map view_type l.kept.items);
}
