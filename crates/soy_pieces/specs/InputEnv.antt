-- The values of a template's parameters as variables.
-- Example: the parameters `x` and `y`, with the record that has `x` 1 alone, are the variables `x`, 1, and `y`, null.
use Rattle.std.specs.Prelude.{List, [], ◌∷◌, map}
use Rattle.soy_tree.specs.Types.{Name}
use Rattle.soy_tree.specs.Values as values
use Rattle.soy_rules.specs.Val.{Known, member_value}
use Rattle.soy_tree.specs.Trees.{Param}
use Rattle.soy_pieces.specs.Giving.{RunEnv}

-- the parameters of a template as variables, each with the input's member of its name, or null
abbrev pub input_env : List Name → values.Value → RunEnv
input_env [] input = []
input_env (name ∷ names) input = (name, Known (member_value name input)) ∷ input_env names input

abbrev pub names_of : List Param → List Name
names_of params = map (λ (p : Param). p.name) params
