-- The place of the last variable of a name.
-- Example: of `$a`, `$b` and `$a` the last `$a` stands at 2.
use Rattle.std.specs.Prelude.{◌≡◌, ℕ, ◌+◌, ◌<◌, true, List, None, bytes_eq, drop, length, reverse, slice_index_or}
use Rattle.soy_tree.specs.Types.{Name}
use Rattle.soy_tree.specs.declared.soy_type.Field as code_field
use Rattle.soy_expr.specs.TypeNamed.{type_named}

pub record IsLastNamed (name : Name) (vars : List code_field.Field) (at : ℕ) : Type 0 where
  pub var : code_field.Field
  pub within : at < length vars
  pub there : (d : code_field.Field) → slice_index_or vars at d ≡ var
  pub named : bytes_eq var.name name ≡ true
  pub last : type_named name (reverse (drop (at + 1) vars)) ≡ None
