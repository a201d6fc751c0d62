-- Variables whose types are changed in a branch and put back after it.
-- Example: where `$a` was `int|null` outside, it is put back as `int|null`.
use Rattle.std.specs.Prelude.{List, [], ◌∷◌}
use Rattle.soy_tree.specs.declared.soy_type.Field as code_field
use Rattle.soy_expr.specs.declared.narrowing.Outside as code_outside
use Rattle.soy_expr.specs.TypeNamed.{with_type}

-- the variables with these types put back, the last one first
abbrev pub put_back : List code_outside.Outside → List code_field.Field → List code_field.Field
put_back [] vars = vars
put_back (o ∷ outside) vars = with_type o.name.now o.of (put_back outside vars)
