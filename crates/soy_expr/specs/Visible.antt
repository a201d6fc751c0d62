-- A variable with its type.
use Rattle.soy_tree.specs.Types.{Name}
use Rattle.soy_tree.specs.declared.soy_type.SoyType as code
use Rattle.soy_tree.specs.declared.soy_type.Field as code_field

abbrev pub variable : Name → code.SoyType → code_field.Field
variable name of = record { name = name; of = of }
