use Rattle.std.proofs.Common.{◌≡◌, ◌++◌, drop}
use Rattle.std.specs.Str.{chars}
use Rattle.std.specs.String.{string_bytes}
use Rattle.soy_tree.specs.ViewTrees.{view_params}
use Rattle.soy_format.specs.Formatted.{param_lines}
use Rattle.soy_format.proofs.tree.push_param_lines.Given as goal

abbrev pub invariant-loop-param : goal.invariant-loop-param
invariant-loop-param l =
    chars (string_bytes l.out) ++ param_lines (view_params (drop l.param-index l.params))
    ≡ chars (string_bytes l.initial.out) ++ param_lines (view_params l.params)
