-- The scope that a `Scope` of the code stands for.
use Rattle.std.specs.Prelude.{List, map}
use Rattle.soy_rules.specs.TypeOf.{Scope}
use Rattle.soy_tree.specs.ViewTypes.{view_field}
use Rattle.soy_tree.specs.declared.soy_type.Field as code_field
use Rattle.soy_expr.specs.declared.scope.Scope as code

abbrev pub view_vars : List code_field.Field → Scope
view_vars = map view_field

abbrev pub view_scope : code.Scope → Scope
view_scope scope = view_vars scope.vars
