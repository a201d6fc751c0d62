-- The full names of templates.
use Rattle.std.specs.Prelude.{List, map}
use Rattle.soy_tree.specs.Types.{Name}
use Rattle.soy_rules.specs.declared.template.Declared.{Declared}

abbrev pub full_names : List Declared → List Name
full_names = map (λ d. d.full)
