-- Typed trees, and data that fit a template.
--
-- Trees are typed where the checker finds no fault in them, and they are formed. Data bind each parameter to a value of
-- its type and no block, and each list in them is short: its items are numbered by ints, from 0.
-- Example: `{@param n: int}` fits the data that bind `n` to 3, and not those that bind it to a string.
use Rattle.std.specs.Prelude.{◌≡◌, List, [], ◌∷◌, None}
use Rattle.soy_rules.specs.Demands.{check_fault}
use Rattle.soy_rules.specs.Fits.{Fits}
use Rattle.soy_tree.specs.Formed.{AreFormed}
use Rattle.soy_rules.specs.ShortLists.{HasShortLists}
use Rattle.soy_rules.specs.Templates.{Declared, param_scope}
use Rattle.soy_tree.specs.Trees.{Tree}
use Rattle.soy_rules.specs.Val.{Binding, Known, BlockOf}
use Rattle.soy_pieces.specs.Giving.{BoundBlock, RunEnv}
use Rattle.soy_meaning.specs.Runs.RunsAlong.{BindsValues}

pub record AreTypedTrees (trees : List Tree) : Type 0 where
  pub demands : check_fault trees ≡ None
  pub formed : AreFormed trees

abbrev pub IsShort : Binding BoundBlock → Type 0
IsShort (Known v) = HasShortLists v
IsShort (BlockOf block) = Unit {0}

abbrev pub EnvShort : RunEnv → Type 0
EnvShort [] = Unit {0}
EnvShort (v ∷ env) = IsShort v.1 × EnvShort env

pub record FitsData (d : Declared) (env : RunEnv) : Type 0 where
  pub fits : Fits (param_scope d.template.params) env
  pub values : BindsValues env
  pub short : EnvShort env
