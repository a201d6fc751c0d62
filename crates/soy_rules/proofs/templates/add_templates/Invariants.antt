use Rattle.std.proofs.Common.{◌≡◌, ◌++◌, drop, map}
use Rattle.soy_rules.specs.Templates.{declared_in}
use Rattle.soy_tree.specs.ViewTrees.{view_template}
use Rattle.soy_rules.specs.ViewTemplates.{view_all}
use Rattle.soy_rules.proofs.templates.add_templates.Given as goal

abbrev pub invariant-loop-template : goal.invariant-loop-template
invariant-loop-template l =
    view_all l.all.items
    ++ declared_in l.file l.tree.namespace (map view_template (drop l.template-index l.tree.templates))
    ≡ view_all l.initial.all.items
    ++ declared_in l.file l.tree.namespace (map view_template l.tree.templates)
