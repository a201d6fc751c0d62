-- An environment of whose blocks nothing is known.
-- What an expression means doesn't depend on what the blocks are that its variables are bound to.
use Rattle.std.specs.Prelude.{map}
use Rattle.soy_tree.specs.Types.{Name}
use Rattle.soy_rules.specs.Val.{Binding, Known, BlockOf, Env}

abbrev pub forgotten : {A : Type 0} → Binding A → Binding (Unit {0})
forgotten (Known v) = Known v
forgotten (BlockOf a) = BlockOf tt

abbrev pub forgotten_variable : {A : Type 0} → Name × Binding A → Name × Binding (Unit {0})
forgotten_variable v = (v.0, forgotten v.1)

abbrev pub forgotten_env : {A : Type 0} → Env A → Env (Unit {0})
forgotten_env env = map forgotten_variable env
