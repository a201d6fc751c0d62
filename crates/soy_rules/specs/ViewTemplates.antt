-- The templates that those of the code stand for.
use Rattle.std.specs.Prelude.{List, map}
use Rattle.soy_rules.specs.Templates.{Declared}
use Rattle.soy_tree.specs.ViewTrees.{view_template}
use Rattle.soy_rules.specs.declared.template.Declared as code

abbrev pub view_declared : code.Declared → Declared
view_declared d = record { file = d.file; namespace = d.namespace.now; template = view_template d.template.now }

abbrev pub view_all : List code.Declared → List Declared
view_all = map view_declared
