-- A value has parameters: under the name of each a value of its type.
-- Example: the record with `a` 1 and `b` null has the parameters `{@param a: int}` and `{@param? b: string}`.
use Rattle.std.specs.Prelude.{List, [], ◌∷◌}
use Rattle.soy_rules.specs.Has.{Has}
use Rattle.soy_rules.specs.Templates.{param_type}
use Rattle.soy_tree.specs.Trees.{Param}
use Rattle.soy_rules.specs.Val.{member_value}
use Rattle.soy_tree.specs.Values.{Value}

abbrev pub ParamsHave : List Param → Value → Type 0
ParamsHave [] v = Unit {0}
ParamsHave (p ∷ ps) v = Has (member_value p.name v) (param_type p) × ParamsHave ps v
