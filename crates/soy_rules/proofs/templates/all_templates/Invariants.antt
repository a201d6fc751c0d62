use Rattle.std.proofs.Common.{◌≡◌, ◌++◌, drop}
use Rattle.soy_rules.specs.Templates.{declared, declared_from}
use Rattle.soy_tree.specs.ViewTrees.{view_trees}
use Rattle.soy_rules.specs.ViewTemplates.{view_all}
use Rattle.soy_rules.proofs.templates.all_templates.Given as goal

abbrev pub invariant-loop-file : goal.invariant-loop-file
invariant-loop-file l =
    view_all l.all.items ++ declared_from l.file (view_trees (drop l.file l.trees)) ≡ declared (view_trees l.trees)
