-- The names of a record's fields.
-- Example: of `[a: int, b: string]` these are `a` and `b`.
use Rattle.std.specs.Prelude.{List, map}
use Rattle.soy_tree.specs.Types.{Name}
use Rattle.soy_tree.specs.declared.soy_type.Field as code

abbrev pub field_names : List code.Field → List Name
field_names = map (λ f. f.name)
