-- The full names of templates.
use Rattle.std.specs.Prelude.{List, map}
use Rattle.soy_tree.specs.Types.{Name}
use Rattle.soy_check.specs.declared.template.Indexed.{Indexed}

abbrev pub full : Indexed → Name
full one = one.declared.full

abbrev pub full_names : List Indexed → List Name
full_names = map full
