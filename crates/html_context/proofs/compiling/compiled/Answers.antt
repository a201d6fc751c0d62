use Rattle.std.proofs.Common.{ap, ◌∙◌}
use Rattle.soy_tree.specs.ViewTrees.{view_trees}
use Rattle.soy_rules.specs.ViewTemplates.{view_all}
use Rattle.html_context.proofs.BuiltTemplates.{stands_indexed}
use Rattle.html_context.proofs.compiling.compiled.Goals as goal

pub returns : goal.returns
returns c =
    stands_indexed (view_trees c.args.trees.now) c.args.bundle.now c.in_ok-translations.translations
    c.as_slice-declared.result.now c.in_ok-all.all c.new-rows.result.items c.templates.new.rows c.in_ok-root.root
    c.in_ok-translations.ensures c.in_ok-all.ensures
    (ap view_all c.as_slice-declared.ensures.value ∙ c.in_ok-declared.ensures) c.in_ok-root.ensures
