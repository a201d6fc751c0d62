-- The type of the first variable of a name, and what stands there with another type.
-- Example: of `$a` with the type int and `$b` with the type bool, `$b` has the type bool.
use Rattle.std.specs.Prelude.{◌≡◌, List, [], ◌∷◌, Option, Some, None, if◌then◌else◌, bytes_eq}
use Rattle.soy_tree.specs.Types.{Name}
use Rattle.soy_tree.specs.declared.soy_type.SoyType as code
use Rattle.soy_tree.specs.declared.soy_type.Field as code_field
use Rattle.soy_expr.specs.Visible.{variable}

abbrev pub type_named : Name → List code_field.Field → Option code.SoyType
type_named name [] = None
type_named name (v ∷ vars) = if bytes_eq v.name name then Some v.of else type_named name vars

abbrev pub with_type : Name → code.SoyType → List code_field.Field → List code_field.Field
with_type name of [] = []
with_type name of (v ∷ vars) = if bytes_eq v.name name then variable v.name of ∷ vars else v ∷ with_type name of vars
