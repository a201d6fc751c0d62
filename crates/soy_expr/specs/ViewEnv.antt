-- The environment that an `Env` of the code stands for.
use Rattle.std.specs.Prelude.{List, map}
use Rattle.soy_tree.specs.Types.{Name}
use Rattle.soy_rules.specs.Val.{Binding, Known, BlockOf, Env}
use Rattle.soy_tree.specs.ViewValues.{view_value}
use Rattle.soy_expr.specs.declared.env.Env as code_env
use Rattle.soy_expr.specs.declared.env.Bound as code_bound
use Rattle.soy_expr.specs.declared.env.Binding as code_binding
use Rattle.soy_expr.specs.declared.env.Binding.TheVariants as binding_variant

abbrev pub view_binding : code_binding.Binding → Binding (Unit {0})
view_binding (binding_variant.Value v) = Known (view_value v)
view_binding binding_variant.Block = BlockOf tt

abbrev pub view_bound : code_bound.Bound → Name × Binding (Unit {0})
view_bound b = (b.name, view_binding b.to)

abbrev pub view_bounds : List code_bound.Bound → Env (Unit {0})
view_bounds = map view_bound

abbrev pub view_env : code_env.Env → Env (Unit {0})
view_env env = view_bounds env.vars
