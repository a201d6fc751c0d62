use Rattle.std.proofs.Common.{◌≡◌, ◌++◌, drop}
use Rattle.std.specs.Str.{chars}
use Rattle.std.specs.String.{string_bytes}
use Rattle.soy_tree.specs.ViewExpressions.{view_exprs}
use Rattle.soy_format.specs.FormattedExpression.{more_values}
use Rattle.soy_format.proofs.expression.push_values.Given as goal

abbrev pub invariant-loop-value : goal.invariant-loop-value
invariant-loop-value l =
    chars (string_bytes l.out) ++ more_values (view_exprs (drop l.value-index l.rest))
    ≡ chars (string_bytes l.initial.out) ++ more_values (view_exprs l.rest)
