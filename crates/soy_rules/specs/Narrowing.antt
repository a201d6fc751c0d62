-- Conditions that take null away.
-- In the branch of `{if $v}`, `{if $v != null}` and conjunctions of these by `and`, `$v` isn't null, whatever the
-- conjunction's other parts are. No other form of condition takes null away.
-- Example: `$a and $b.c and $d != null` takes null away from `$a` and `$d`.
use Rattle.std.specs.Prelude.{[], ◌∷◌, if◌then◌else◌, bytes_eq}
use Rattle.soy_tree.specs.declared.expr.BinaryOp.TheVariants as op
use Rattle.soy_tree.specs.Types.{Name}
use Rattle.soy_rules.specs.Members.{type_without_null}
use Rattle.soy_tree.specs.Expressions.{Expr, Variable, Binary}
use Rattle.soy_rules.specs.TypeOf.{Scope, is_null_literal}

-- the scope in which the variable of this name, the first one, isn't null
abbrev pub name_narrowed : Name → Scope → Scope
name_narrowed name [] = []
name_narrowed name (v ∷ scope) =
    if bytes_eq v.0 name then (v.0, type_without_null v.1) ∷ scope else v ∷ name_narrowed name scope

-- the same of an expression that is a variable
abbrev pub variable_narrowed : Expr → Scope → Scope
variable_narrowed (Variable name span) scope = name_narrowed name scope
variable_narrowed _ scope = scope

-- the scope of the branch of a condition
abbrev pub narrowed : Expr → Scope → Scope
narrowed (Variable name span) scope = name_narrowed name scope
narrowed (Binary op.Ne a b span) scope = if is_null_literal b then variable_narrowed a scope else scope
narrowed (Binary op.And a b span) scope = narrowed b (narrowed a scope)
narrowed _ scope = scope
