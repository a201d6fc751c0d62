-- Values of expressions, and variables of callees, that are alike in two runs.
use Rattle.std.proofs.Common.{◌≡◌, Bool, true, false, not, ◌&&◌, ◌||◌, List, [], ◌∷◌, ◌++◌, Option, Some, None, refl}
use Rattle.std.proofs.Common.{sym, subst, if◌then◌else◌, bytes_eq, is_some}
use Rattle.std.proofs.lemmas.Bool.{and_parts}
use Rattle.soy_tree.specs.Types.{Name}
use Rattle.soy_rules.specs.Members.{has_block}
use Rattle.soy_rules.specs.Bodies.{param_of}
use Rattle.soy_tree.specs.Expressions.{Expr, NullLiteral, BoolLiteral, IntLiteral, StringLiteral, Variable, Member}
use Rattle.soy_tree.specs.Expressions.{Index, Minus, Not, Binary, Coalesce, Conditional}
use Rattle.soy_rules.specs.Templates.{param_type}
use Rattle.soy_tree.specs.Trees.{Param}
use Rattle.soy_rules.specs.Val.{Binding, BlockOf, Known, binding, is_null, is_truthy, val}
use Rattle.soy_meaning.specs.Runs.EqualChoices.{BindingsBy, EnvsBy}
use Rattle.soy_pieces.specs.Giving.{BoundBlock, RunEnv}
use Rattle.soy_pieces.specs.Pieces.{GivenArguments, callee_env, given_binding, handed_on, param_binding}
use Rattle.soy_meaning.specs.Runs.PicksValues.{Marks, is_marked, mark_of, may_give_block, param_mark, param_marks}
use Rattle.soy_meaning.specs.Runs.PicksValues.{params_take, picks_values}

module _ (Blocks : BoundBlock → BoundBlock → Type 0) where
  -- ---- variables

  pub envs_more : (marks more : Marks) (env other one two : RunEnv) → EnvsBy Blocks marks env other
      → EnvsBy Blocks more one two → EnvsBy Blocks (marks ++ more) (env ++ one) (other ++ two)
  envs_more [] more [] [] one two h k = k
  envs_more [] more [] (w ∷ other) one two h k = absurd h
  envs_more [] more (v ∷ env) [] one two h k = absurd h
  envs_more [] more (v ∷ env) (w ∷ other) one two h k = absurd h
  envs_more (m ∷ marks) more [] [] one two h k = absurd h
  envs_more (m ∷ marks) more [] (w ∷ other) one two h k = absurd h
  envs_more (m ∷ marks) more (v ∷ env) [] one two h k = absurd h
  envs_more (m ∷ marks) more (v ∷ env) (w ∷ other) one two h k =
      (h.0, h.1, h.2, envs_more marks more env other one two h.3 k)

  binding_if : (test : Bool) (may must : Bool) (a b one two : Binding BoundBlock) → BindingsBy Blocks may a b
      → BindingsBy Blocks must one two → BindingsBy Blocks (if test then may else must) (if test then a else one)
      (if test then b else two)
  binding_if true may must a b one two h k = h
  binding_if false may must a b one two h k = k

  binding_alike : (name : Name) (marks : Marks) (env other : RunEnv) → EnvsBy Blocks marks env other
      → BindingsBy Blocks (is_marked name marks) (binding name env) (binding name other)
  binding_alike name [] [] [] h = tt
  binding_alike name [] [] (w ∷ other) h = absurd h
  binding_alike name [] (v ∷ env) [] h = absurd h
  binding_alike name [] (v ∷ env) (w ∷ other) h = absurd h
  binding_alike name (m ∷ marks) [] [] h = absurd h
  binding_alike name (m ∷ marks) [] (w ∷ other) h = absurd h
  binding_alike name (m ∷ marks) (v ∷ env) [] h = absurd h
  binding_alike name (m ∷ marks) (v ∷ env) (w ∷ other) h =
      subst (λ x. BindingsBy Blocks (is_marked name (m ∷ marks)) (if bytes_eq x name then v.1 else binding name env)
      (binding name (w ∷ other))) (sym h.0)
      (subst (λ x. BindingsBy Blocks (is_marked name (m ∷ marks)) (if bytes_eq m.0 name then v.1 else binding name env)
      (if bytes_eq x name then w.1 else binding name other)) (sym h.1)
      (binding_if (bytes_eq m.0 name) m.1 (is_marked name marks) v.1 w.1 (binding name env) (binding name other) h.2
      (binding_alike name marks env other h.3)))

  -- ---- expressions

  abbrev IsKnown : Binding BoundBlock → Type 0
  IsKnown (Known v) = Unit {0}
  IsKnown (BlockOf a) = ⊥

  known_alike : (may : Bool) (a b : Binding BoundBlock) → IsKnown a → IsKnown b → BindingsBy Blocks may a b
  known_alike may (Known v) (Known w) h k = tt
  known_alike may (Known v) (BlockOf b) h k = absurd k
  known_alike may (BlockOf a) b h k = absurd h

  unmarked_known : (a b : Binding BoundBlock) → BindingsBy Blocks false a b → IsKnown a × IsKnown b
  unmarked_known (Known v) (Known w) h = (tt, tt)
  unmarked_known (Known v) (BlockOf b) h = absurd h
  unmarked_known (BlockOf a) (Known w) h = absurd h
  unmarked_known (BlockOf a) (BlockOf b) h = absurd h

  known_if : (test : Bool) (a b : Binding BoundBlock) → IsKnown a → IsKnown b → IsKnown (if test then a else b)
  known_if true a b h k = h
  known_if false a b h k = k

  neither : (a b : Bool) → (a || b) ≡ false → (a ≡ false) × (b ≡ false)
  neither true b h = let no : ⊥ = cc in absurd no
  neither false b h = (refl, h)

  isnt : (a : Bool) → not a ≡ true → a ≡ false
  isnt true h = let no : ⊥ = cc in absurd no
  isnt false h = refl

  module _ (marks : Marks) (env other : RunEnv) (alike : EnvsBy Blocks marks env other) where
    val_known : (e : Expr) → may_give_block e marks ≡ false → IsKnown (val e env) × IsKnown (val e other)
    val_known (NullLiteral span) free = (tt, tt)
    val_known (BoolLiteral b span) free = (tt, tt)
    val_known (IntLiteral n span) free = (tt, tt)
    val_known (StringLiteral text span) free = (tt, tt)
    val_known (Variable name span) free =
        unmarked_known (binding name env) (binding name other)
        (subst (λ m. BindingsBy Blocks m (binding name env) (binding name other)) free
        (binding_alike name marks env other alike))
    val_known (Member e name takes_null span) free = (tt, tt)
    val_known (Index e i takes_null span) free = (tt, tt)
    val_known (Minus e span) free = (tt, tt)
    val_known (Not e span) free = (tt, tt)
    val_known (Binary op a b span) free = (tt, tt)
    val_known (Coalesce a b span) free =
        let both = neither (may_give_block a marks) (may_give_block b marks) free in
        let left = val_known a both.0 in let right = val_known b both.1 in (
          known_if (is_null (val a env)) (val b env) (val a env) right.0 left.0,
          known_if (is_null (val a other)) (val b other) (val a other) right.1 left.1,
        )
    val_known (Conditional c a b span) free =
        let both = neither (may_give_block a marks) (may_give_block b marks) free in
        let left = val_known a both.0 in let right = val_known b both.1 in (
          known_if (is_truthy (val c env)) (val a env) (val b env) left.0 right.0,
          known_if (is_truthy (val c other)) (val a other) (val b other) left.1 right.1,
        )

    picked : (e : Expr) → not (may_give_block e marks) ≡ true
        → BindingsBy Blocks (may_give_block e marks) (val e env) (val e other)
    picked e free =
        let known = val_known e (isnt (may_give_block e marks) free) in
        known_alike (may_give_block e marks) (val e env) (val e other) known.0 known.1

    pub val_alike : (e : Expr) → picks_values e marks ≡ true
        → BindingsBy Blocks (may_give_block e marks) (val e env) (val e other)
    val_alike (NullLiteral span) picks = tt
    val_alike (BoolLiteral b span) picks = tt
    val_alike (IntLiteral n span) picks = tt
    val_alike (StringLiteral text span) picks = tt
    val_alike (Variable name span) picks = binding_alike name marks env other alike
    val_alike (Member e name takes_null span) picks = tt
    val_alike (Index e i takes_null span) picks = tt
    val_alike (Minus e span) picks = tt
    val_alike (Not e span) picks = tt
    val_alike (Binary op a b span) picks = tt
    val_alike (Coalesce a b span) picks = picked (Coalesce a b span) picks
    val_alike (Conditional c a b span) picks = picked (Conditional c a b span) picks

  -- ---- the variables of a callee

  raised : (may must : Bool) (a b : Binding BoundBlock) → (not may || must) ≡ true → BindingsBy Blocks may a b
      → BindingsBy Blocks must a b
  raised true true a b takes h = h
  raised true false a b takes h = let no : ⊥ = cc in absurd no
  raised false must a b takes h = let known = unmarked_known a b h in known_alike must a b known.0 known.1

  handed_alike : (hands m : Bool) (a b : Binding BoundBlock) → BindingsBy Blocks m a b
      → BindingsBy Blocks (hands && m) (handed_on hands a) (handed_on hands b)
  handed_alike true m a b h = h
  handed_alike false m a b h = tt

  abbrev GivenAlike : Option Bool → Option (Binding BoundBlock) → Option (Binding BoundBlock) → Type 0
  GivenAlike None None None = Unit {0}
  GivenAlike (Some m) (Some a) (Some b) = BindingsBy Blocks m a b
  GivenAlike _ _ _ = ⊥

  given_if : (test m : Bool) (a b : Binding BoundBlock) (may : Option Bool) (one two : Option (Binding BoundBlock))
      → BindingsBy Blocks m a b → GivenAlike may one two
      → GivenAlike (if test then Some m else may) (if test then Some a else one) (if test then Some b else two)
  given_if true m a b may one two h k = h
  given_if false m a b may one two h k = k

  given_alike : (name : Name) (marks : Marks) (given others : GivenArguments) → EnvsBy Blocks marks given others
      → GivenAlike (mark_of name marks) (given_binding name given) (given_binding name others)
  given_alike name [] [] [] h = tt
  given_alike name [] [] (w ∷ others) h = absurd h
  given_alike name [] (v ∷ given) [] h = absurd h
  given_alike name [] (v ∷ given) (w ∷ others) h = absurd h
  given_alike name (m ∷ marks) [] [] h = absurd h
  given_alike name (m ∷ marks) [] (w ∷ others) h = absurd h
  given_alike name (m ∷ marks) (v ∷ given) [] h = absurd h
  given_alike name (m ∷ marks) (v ∷ given) (w ∷ others) h =
      subst (λ x. GivenAlike (mark_of name (m ∷ marks)) (if bytes_eq x name then Some v.1 else given_binding name given)
      (given_binding name (w ∷ others))) (sym h.0)
      (subst (λ x. GivenAlike (mark_of name (m ∷ marks))
      (if bytes_eq m.0 name then Some v.1 else given_binding name given)
      (if bytes_eq x name then Some w.1 else given_binding name others)) (sym h.1)
      (given_if (bytes_eq m.0 name) m.1 v.1 w.1 (mark_of name marks) (given_binding name given)
      (given_binding name others) h.2 (given_alike name marks given others h.3)))

  param_alike : (may : Option Bool) (m : Bool) (one two : Option (Binding BoundBlock)) (a b : Binding BoundBlock)
      → GivenAlike may one two → BindingsBy Blocks m a b
      → BindingsBy Blocks (param_mark may m) (param_binding one a) (param_binding two b)
  param_alike None m None None a b h k = k
  param_alike None m None (Some two) a b h k = absurd h
  param_alike None m (Some one) None a b h k = absurd h
  param_alike None m (Some one) (Some two) a b h k = absurd h
  param_alike (Some may) m None None a b h k = absurd h
  param_alike (Some may) m None (Some two) a b h k = absurd h
  param_alike (Some may) m (Some one) None a b h k = absurd h
  param_alike (Some may) m (Some one) (Some two) a b h k = h

  module _ (given_marks marks : Marks) (given others : GivenArguments) (env other : RunEnv) (all : Bool)
      (own : List Param) (givens : EnvsBy Blocks given_marks given others) (alike : EnvsBy Blocks marks env other) where
    pub callee_alike : (params : List Param) → params_take params given_marks all own marks ≡ true
        → EnvsBy Blocks (param_marks params) (callee_env params given all own env)
        (callee_env params others all own other)
    callee_alike [] takes = tt
    callee_alike (p ∷ ps) takes =
        let hands : Bool = all && is_some (param_of p.name own) in
        let may : Bool = param_mark (mark_of p.name given_marks) (hands && is_marked p.name marks) in
        let fits : Bool = not may || has_block (param_type p) in
        let parts = and_parts fits (params_take ps given_marks all own marks) takes in (
          refl,
          refl,
          raised may (has_block (param_type p))
              (param_binding (given_binding p.name given) (handed_on hands (binding p.name env)))
              (param_binding (given_binding p.name others) (handed_on hands (binding p.name other))) parts.0
              (param_alike (mark_of p.name given_marks) (hands && is_marked p.name marks) (given_binding p.name given)
              (given_binding p.name others) (handed_on hands (binding p.name env))
              (handed_on hands (binding p.name other)) (given_alike p.name given_marks given others givens)
              (handed_alike hands (is_marked p.name marks) (binding p.name env) (binding p.name other)
              (binding_alike p.name marks env other alike))),
          callee_alike ps parts.1,
        )
