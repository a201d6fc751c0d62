-- Names that are known, and what `data="all"` hands on by them.
-- Example: of the callee's `a`, `b` and `c`, where the caller has `a` and `b` and the call gives `b`, `a` is handed on.
use Rattle.std.specs.Prelude.{◌&&◌, Bool, List, [], ◌∷◌, bytes_eq, if◌then◌else◌, map, not}
use Rattle.std.specs.List.{list_any}
use Rattle.soy_tree.specs.Trees as trees
use Rattle.soy_tree.specs.Types.{Name}
use Rattle.soy_tree.specs.declared.tree.Param.{Param}
use Rattle.ir_build.specs.declared.known_names.KnownNames.{KnownNames}
use Rattle.ir_build.specs.declared.known_names.KnownNames.TheVariants as known

abbrev pub known_names : KnownNames → List Name
known_names (known.Few names) = map (λ name. name.now) names.items
known_names (known.Many names) = names

-- whether a name is one of these
abbrev pub is_known : Name → List Name → Bool
is_known name names = list_any (λ other. bytes_eq other name) names

abbrev pub param_names : List Param → List Name
param_names = map (λ p. p.name)

-- the names of those of these parameters that are known and aren't given
abbrev pub known_params : List Name → List Name → List trees.Param → List Name
known_params own given [] = []
known_params own given (p ∷ ps) =
    if is_known p.name own && not (is_known p.name given) then p.name ∷ known_params own given ps
    else known_params own given ps
