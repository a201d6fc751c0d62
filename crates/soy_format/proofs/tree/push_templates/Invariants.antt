use Rattle.std.proofs.Common.{◌≡◌, ◌++◌, drop, map}
use Rattle.std.specs.Str.{chars}
use Rattle.std.specs.String.{string_bytes}
use Rattle.soy_tree.specs.ViewTrees.{view_template}
use Rattle.soy_format.specs.Formatted.{formatted_templates}
use Rattle.soy_format.proofs.tree.push_templates.Given as goal

abbrev pub invariant-loop-template : goal.invariant-loop-template
invariant-loop-template l =
    chars (string_bytes l.out) ++ formatted_templates (map view_template (drop l.template-index l.templates))
    ≡ chars (string_bytes l.initial.out) ++ formatted_templates (map view_template l.templates)
