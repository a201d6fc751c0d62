-- When a scope fits an environment.
-- Both name the same variables in the same order, and each variable is bound to a value of its type, or to a block
-- where its type has an html or attributes member.
-- Example: `$a: int|null` fits an environment in which `$a` is bound to null.
use Rattle.std.specs.Prelude.{◌≡◌, true, [], ◌∷◌}
use Rattle.soy_tree.specs.Types.{SoyType}
use Rattle.soy_rules.specs.Members.{has_block}
use Rattle.soy_rules.specs.Has.{Has}
use Rattle.soy_rules.specs.TypeOf.{Scope}
use Rattle.soy_rules.specs.Val.{Binding, Known, BlockOf, Env}

abbrev pub IsOf : {A : Type 0} → Binding A → SoyType → Type 0
IsOf (Known v) t = Has v t
IsOf (BlockOf a) t = has_block t ≡ true

abbrev pub Fits : {A : Type 0} → Scope → Env A → Type 0
Fits [] [] = Unit {0}
Fits (v ∷ scope) (b ∷ env) = (v.0 ≡ b.0) × IsOf b.1 v.1 × Fits scope env
Fits _ _ = ⊥
