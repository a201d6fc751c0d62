use Rattle.std.proofs.Common.{◌≡◌, ◌++◌}
use Rattle.std.specs.Vec.Iter.{into_iter_items}
use Rattle.soy_rules.specs.Templates.{declared}
use Rattle.soy_rules.specs.ViewTemplates as trees
use Rattle.soy_tree.specs.ViewTrees.{view_trees}
use Rattle.soy_check.specs.ViewAround.{view_all}
use Rattle.soy_check.proofs.templates.all_indexed.Given as goal

abbrev pub invariant-loop-declared : goal.invariant-loop-declared
invariant-loop-declared l =
    view_all l.all.items ++ trees.view_all (into_iter_items l.declared-iterator) ≡ declared (view_trees l.trees)
