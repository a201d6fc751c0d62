-- What the code finds, against what it stands for.
use Rattle.std.proofs.Common.{◌≡◌, ℕ, suc, ◌-◌, ◌<◌, ◌&&◌, Bool, true, false, List, [], ◌∷◌, Option, Some, inl, inr}
use Rattle.std.proofs.Common.{None}
use Rattle.std.proofs.Common.{take, refl, sym, ap, ◌∙◌, arith, subst, lt-ltb, le-ltb}
use Rattle.std.proofs.lemmas.Bool.{cases_lt}
use Rattle.std.specs.Prelude.{if◌then◌else◌, bytes_eq}
use Rattle.std.specs.List.{slice_get}
use Rattle.soy_tree.specs.Types.{Name}
use Rattle.soy_rules.specs.Cost.{cost}
use Rattle.soy_tree.specs.Expressions.{Expr, Binary, BoolLiteral, Coalesce, Conditional, Index, IntLiteral, Member}
use Rattle.soy_tree.specs.Expressions.{Minus}
use Rattle.soy_tree.specs.Expressions.{Not, NullLiteral, StringLiteral, Variable}
use Rattle.soy_rules.specs.Val.{Binding, BlockOf, Env, Known, binding, is_truthy, member_value, operand, val}
use Rattle.soy_tree.specs.Values.{Value, NullValue}
use Rattle.soy_expr.specs.ForgottenBlocks.{forgotten, forgotten_env}
use Rattle.soy_expr.proofs.Forgetting.{forgotten_cost, forgotten_val}
use Rattle.soy_expr.specs.ViewEvaluated.{view_made}
use Rattle.soy_expr.specs.declared.evaluated.Made.{Made}
use Rattle.soy_expr.specs.declared.evaluated.Made.TheVariants as made
use Rattle.soy_pieces.specs.Giving.{BoundBlock, RunEnv}
use Rattle.template_ir.specs.declared.program.ProgramParts.{ProgramParts}
use Rattle.render_core.specs.Finds.{IsPlain, binding_at, bound_binding, place_binding}
use Rattle.soy_expr.specs.Parts.{child}
use Rattle.render_core.specs.Keys.{fits_key, key_of, lowered, next_of}
use Rattle.render_core.specs.Linked.{Leads, is_sought}
use Rattle.render_core.specs.Variables.{Cell, cell_at, cells_of, env_at, held_means, led, name_or_none}
use Rattle.render_core.specs.Variables.{path_of, path_steps}
use Rattle.render_core.specs.Variables.{name_there, part_held, path_value}
use Rattle.render_core.specs.declared.held.Bound.{Bound}
use Rattle.render_core.specs.declared.held.Held.{Held}
use Rattle.render_core.specs.declared.held.Held.TheVariants as held
use Rattle.render_core.specs.declared.held.Path.{Path}
use Rattle.render_core.specs.declared.held.Path.TheVariants as path
use Rattle.render_core.proofs.Conditions.{if_false, if_true}
use Rattle.render_core.proofs.Cells.{cell_none, cell_there, cells_take, env_past, env_take, part_is}
use Rattle.render_core.proofs.Cells.{part_lower, part_none, part_there}

-- ---- variables by their names

shown : {A : Type 0} (fits : Bool) (own name : Name) (x : Binding A) (env : Env A)
    → binding name (if fits then (own, x) ∷ env else env)
    ≡ (if fits && bytes_eq own name then x else binding name env)
shown true own name x env = refl
shown false own name x env = refl

-- the variables of a number from one that is lower
pub lowered_env : (cells : List Cell) (number next : ℕ) (name : Name) → 0 < number
    → binding name (env_at (take (number - 1) cells) next) ≡ binding name (env_at cells (lowered number next))
lowered_env cells number next name some = elim (cases_lt next number) [
  | inl low ↦
      rw (lt-ltb next number low)
      (ap (binding name) (env_take cells (number - 1) next (omega (arith, low, some))))
  | inr high ↦
      rw (le-ltb next number high)
      (ap (binding name) (env_past cells (number - 1) next (omega (arith, high, some))))
]

module _ (p : ProgramParts) (input : Value) (bound : List Bound) where
  -- the variables of a number begin with the one below it, where that is visible
  number_there : (number : ℕ) (b : Bound) (name : Name) → 0 < number → slice_get bound (number - 1) ≡ Some b
      → binding name (env_at (cells_of p input bound) number)
      ≡ (if is_sought p b name then held_means p input (take (number - 1) (cells_of p input bound)) b.to
      else binding name (env_at (take (number - 1) (cells_of p input bound)) b.below))
  number_there number b name some is =
      let s : number ≡ suc (number - 1) = omega arith in
      let cells : List Cell = take (number - 1) (cells_of p input bound) in
      ap (λ k. binding name (env_at (cells_of p input bound) k)) s
      ∙ (ap (λ (c : Cell). binding name c.env) (cell_there p input bound (number - 1) b is)
      ∙ shown (fits_key b.links (name_or_none (name_there p b.name))) (name_or_none (name_there p b.name)) name
      (held_means p input cells b.to) (env_at cells b.below))

  pub found_here : (number : ℕ) (b : Bound) (name : Name) → 0 < number → slice_get bound (number - 1) ≡ Some b
      → is_sought p b name ≡ true
      → binding_at p input bound (number - 1) ≡ binding name (env_at (cells_of p input bound) number)
  found_here number b name some is named =
      let cells : List Cell = take (number - 1) (cells_of p input bound) in
      rw is
      (sym (if_true (is_sought p b name) (held_means p input cells b.to) (binding name (env_at cells b.below)) named)
      ∙ sym (number_there number b name some is))

  -- past a variable of another name
  pub found_below : (number : ℕ) (b : Bound) (name : Name) → 0 < number → slice_get bound (number - 1) ≡ Some b
      → is_sought p b name ≡ false → Leads (take (number - 1) bound) b.links b.below
      → binding name (env_at (cells_of p input bound) (lowered number (next_of b.links b.below (key_of name))))
      ≡ binding name (env_at (cells_of p input bound) number)
  found_below number b name some is other leads =
      let cells : List Cell = take (number - 1) (cells_of p input bound) in
      let next : ℕ = next_of b.links b.below (key_of name) in
      sym (number_there number b name some is
      ∙ (if_false (is_sought p b name) (held_means p input cells b.to) (binding name (env_at cells b.below)) other
      ∙ (ap (λ (cs : List Cell). binding name (env_at cs b.below)) (sym (cells_take p input bound (number - 1)))
      ∙ (leads p input name
      ∙ (ap (λ (cs : List Cell). binding name (env_at cs next)) (cells_take p input bound (number - 1))
      ∙ lowered_env (cells_of p input bound) number next name some)))))

  -- to the next below it
  pub found_next : (number : ℕ) (b : Bound) (name : Name) → 0 < number → slice_get bound (number - 1) ≡ Some b
      → is_sought p b name ≡ false
      → binding name (env_at (cells_of p input bound) (lowered number b.below))
      ≡ binding name (env_at (cells_of p input bound) number)
  found_next number b name some is other =
      let cells : List Cell = take (number - 1) (cells_of p input bound) in
      sym (number_there number b name some is
      ∙ (if_false (is_sought p b name) (held_means p input cells b.to) (binding name (env_at cells b.below)) other
      ∙ lowered_env (cells_of p input bound) number b.below name some))

  pub found_none : (number : ℕ) (name : Name) → 0 < number → slice_get bound (number - 1) ≡ None
      → Known NullValue ≡ binding name (env_at (cells_of p input bound) number)
  found_none number name some is =
      let s : suc (number - 1) ≡ number = omega arith in
      ap (λ (c : Cell). binding name c.env) (sym (cell_none p input bound (number - 1) is))
      ∙ ap (λ k. binding name (env_at (cells_of p input bound) k)) s

  -- ---- variables that are bound to parts

  pub whole_value : (at : ℕ) (path : Path) → path_of path ≡ at → path_steps path ≡ []
      → path_value (cells_of p input bound) path ≡ (cell_at (cells_of p input bound) at).part
  whole_value at path of steps =
      ap (λ k. led (path_steps path) (cell_at (cells_of p input bound) k).part) of
      ∙ ap (λ ns. led ns (cell_at (cells_of p input bound) at).part) steps

  part_found : (at : ℕ) (b : Bound) (path : Path) → Some b ≡ slice_get bound at → path_of path ≡ at
      → path_steps path ≡ []
      → held_means p input (take at (cells_of p input bound)) b.to
      ≡ Known (part_held input (take at (cells_of p input bound)) b.to)
      → Known (path_value (cells_of p input bound) path) ≡ binding_at p input bound at
  part_found at b path is of steps means =
      ap Known (whole_value at path of steps ∙ part_there p input bound at b (sym is))
      ∙ (sym means ∙ ap (bound_binding p input (take at (cells_of p input bound))) is)

  part_bound : (at : ℕ) (b : Bound) → Some b ≡ slice_get bound at
      → held_means p input (take at (cells_of p input bound)) b.to
      ≡ Known (part_held input (take at (cells_of p input bound)) b.to)
      → Known (cell_at (cells_of p input bound) at).part ≡ binding_at p input bound at
  part_bound at b is means =
      ap Known (part_there p input bound at b (sym is))
      ∙ (sym means ∙ ap (bound_binding p input (take at (cells_of p input bound))) is)

  pub found_root : (at : ℕ) (b : Bound) (path : Path) → Some b ≡ slice_get bound at → path_of path ≡ at
      → path_steps path ≡ [] → b.to ≡ held.Root
      → Known (path_value (cells_of p input bound) path) ≡ binding_at p input bound at
  found_root at b path is of steps to =
      part_found at b path is of steps
      (subst (λ (h : Held). held_means p input (take at (cells_of p input bound)) h
      ≡ Known (part_held input (take at (cells_of p input bound)) h)) (sym to) refl)

  pub found_item : (at : ℕ) (b : Bound) (path : Path) (k n : ℕ) → Some b ≡ slice_get bound at → path_of path ≡ at
      → path_steps path ≡ [] → b.to ≡ held.Item k n
      → Known (path_value (cells_of p input bound) path) ≡ binding_at p input bound at
  found_item at b path k n is of steps to =
      part_found at b path is of steps
      (subst (λ (h : Held). held_means p input (take at (cells_of p input bound)) h
      ≡ Known (part_held input (take at (cells_of p input bound)) h)) (sym to) refl)

  pub found_path : (at : ℕ) (b : Bound) (path other : Path) → Some b ≡ slice_get bound at → path_of path ≡ at
      → path_steps path ≡ [] → b.to ≡ held.Part other
      → Known (path_value (cells_of p input bound) path) ≡ binding_at p input bound at
  found_path at b path other is of steps to =
      part_found at b path is of steps
      (subst (λ (h : Held). held_means p input (take at (cells_of p input bound)) h
      ≡ Known (part_held input (take at (cells_of p input bound)) h)) (sym to) refl)

  -- the part that is named is what the variable is bound to
  pub bound_root : (at : ℕ) (b : Bound) → Some b ≡ slice_get bound at → b.to ≡ held.Root
      → Known (cell_at (cells_of p input bound) at).part ≡ binding_at p input bound at
  bound_root at b is to = part_bound at b is
      (subst (λ (h : Held). held_means p input (take at (cells_of p input bound)) h
      ≡ Known (part_held input (take at (cells_of p input bound)) h)) (sym to) refl)

  pub bound_item : (at : ℕ) (b : Bound) (k n : ℕ) → Some b ≡ slice_get bound at → b.to ≡ held.Item k n
      → Known (cell_at (cells_of p input bound) at).part ≡ binding_at p input bound at
  bound_item at b k n is to = part_bound at b is
      (subst (λ (h : Held). held_means p input (take at (cells_of p input bound)) h
      ≡ Known (part_held input (take at (cells_of p input bound)) h)) (sym to) refl)

  -- the same part, named by what it is an item of
  pub found_child : (at : ℕ) (b : Bound) (k n : ℕ) → Some b ≡ slice_get bound at → b.to ≡ held.Item k n → k < at
      → Known (path_value (cells_of p input bound) (path.Child k n)) ≡ binding_at p input bound at
  found_child at b k n is to low =
      ap Known (ap (child n) (sym (part_lower p input bound at k low))
      ∙ part_is p input bound at b (held.Item k n) is to)
      ∙ bound_item at b k n is to

  pub bound_path : (at : ℕ) (b : Bound) (other : Path) → Some b ≡ slice_get bound at → b.to ≡ held.Part other
      → Known (cell_at (cells_of p input bound) at).part ≡ binding_at p input bound at
  bound_path at b other is to = part_bound at b is
      (subst (λ (h : Held). held_means p input (take at (cells_of p input bound)) h
      ≡ Known (part_held input (take at (cells_of p input bound)) h)) (sym to) refl)

  -- the same part, by an equal path that leads from a lower variable
  pub found_followed : (at : ℕ) (b : Bound) (way copy : Path) → Some b ≡ slice_get bound at → b.to ≡ held.Part way
      → path_of copy ≡ path_of way → path_steps copy ≡ path_steps way → path_of way < at
      → Known (path_value (cells_of p input bound) copy) ≡ binding_at p input bound at
  found_followed at b way copy is to of steps low =
      ap Known (ap (λ k. led (path_steps copy) (cell_at (cells_of p input bound) k).part) of
      ∙ (ap (λ ns. led ns (cell_at (cells_of p input bound) (path_of way)).part) steps
      ∙ (ap (led (path_steps way)) (sym (part_lower p input bound at (path_of way) low))
      ∙ part_is p input bound at b (held.Part way) is to)))
      ∙ bound_path at b way is to

-- ---- fields of variables

made_field : (field : Name) (m : Made) → member_value field NullValue ≡ member_value field (view_made m)
made_field field made.Null = refl
made_field field (made.Bool b) = refl
made_field field (made.Int n) = refl
made_field field (made.Str text) = refl

-- a field of what a variable is bound to is one of the part that it is bound to
held_field_there : (p : ProgramParts) (input : Value) (cells : List Cell) (field : Name) (h : Held)
    → member_value field (part_held input cells h) ≡ member_value field (operand (held_means p input cells h))
held_field_there p input cells field (held.Made m) = made_field field m
held_field_there p input cells field held.Root = refl
held_field_there p input cells field (held.Item k n) = refl
held_field_there p input cells field (held.Part way) = refl
held_field_there p input cells field (held.Block kept) = refl

part_field : (p : ProgramParts) (input : Value) (bound : List Bound) (at : ℕ) (field : Name) (b : Option Bound)
    → slice_get bound at ≡ b
    → member_value field (cell_at (cells_of p input bound) at).part
    ≡ member_value field (operand (bound_binding p input (take at (cells_of p input bound)) b))
part_field p input bound at field None is = ap (member_value field) (part_none p input bound at is)
part_field p input bound at field (Some b) is =
    ap (member_value field) (part_there p input bound at b is)
    ∙ held_field_there p input (take at (cells_of p input bound)) field b.to

pub field_there : (p : ProgramParts) (input : Value) (bound : List Bound) (at : ℕ) (name field : Name) (env : RunEnv)
    → place_binding p input bound (Some at) ≡ binding name env
    → member_value field (cell_at (cells_of p input bound) at).part
    ≡ member_value field (operand (binding name env))
field_there p input bound at name field env is =
    part_field p input bound at field (slice_get bound at) refl
    ∙ ap (λ (b : Binding BoundBlock). member_value field (operand b)) is

-- ---- values where nothing is known of blocks

pub known_again : {A : Type 0} (b : Binding A) (v : Value) → Known v ≡ forgotten b → Known v ≡ b
known_again (Known w) v e = let h : v ≡ w = cc in ap Known h
known_again (BlockOf a) v e = let no : ⊥ = cc in absurd no

plain_known : {A : Type 0} (e : Expr) (env : Env A) → IsPlain e → BlockOf (tt {0}) ≡ forgotten (val e env) → ⊥
plain_known (NullLiteral span) env plain is = cc
plain_known (BoolLiteral b span) env plain is = cc
plain_known (IntLiteral n span) env plain is = cc
plain_known (StringLiteral text span) env plain is = cc
plain_known (Variable name span) env plain is = plain
plain_known (Member e name takes span) env plain is = cc
plain_known (Index e i takes span) env plain is = cc
plain_known (Minus e span) env plain is = cc
plain_known (Not e span) env plain is = cc
plain_known (Binary op a b span) env plain is = cc
plain_known (Coalesce a b span) env plain is = plain
plain_known (Conditional c a b span) env plain is = plain

pub plain_value : (e : Expr) (env : RunEnv) (v : Value) → Known v ≡ val e (forgotten_env env) → Known v ≡ val e env
plain_value e env v is = known_again (val e env) v (is ∙ forgotten_val e env)

pub plain_block : (e : Expr) (env : RunEnv) → IsPlain e → BlockOf (tt {0}) ≡ val e (forgotten_env env) → ⊥
plain_block e env plain is = plain_known e env plain (is ∙ forgotten_val e env)

pub same_cost : (e : Expr) (env : RunEnv) → cost e (forgotten_env env) ≡ cost e env
same_cost e env = forgotten_cost e env

truth_known : {A : Type 0} (b : Binding A) → is_truthy (forgotten b) ≡ is_truthy b
truth_known (Known v) = refl
truth_known (BlockOf a) = refl

pub same_truth : (e : Expr) (env : RunEnv) → is_truthy (val e (forgotten_env env)) ≡ is_truthy (val e env)
same_truth e env = ap is_truthy (forgotten_val e env) ∙ truth_known (val e env)

forgotten_if : {A : Type 0} (t : Bool) (b : Binding A) (x y : Binding (Unit {0})) → x ≡ forgotten b
    → (if t then forgotten b else y) ≡ (if t then x else y)
forgotten_if true b x y e = sym e
forgotten_if false b x y e = refl

choice_forgotten : {A : Type 0} (t : Bool) (a b : Binding A)
    → (if t then forgotten a else forgotten b) ≡ forgotten (if t then a else b)
choice_forgotten true a b = refl
choice_forgotten false a b = refl

pub forgotten_binding : {A : Type 0} (name : Name) (env : Env A)
    → binding name (forgotten_env env) ≡ forgotten (binding name env)
forgotten_binding name [] = refl
forgotten_binding name (v ∷ env) =
    ap (λ (rest : Binding (Unit {0})). if bytes_eq v.0 name then forgotten v.1 else rest) (forgotten_binding name env)
    ∙ choice_forgotten (bytes_eq v.0 name) v.1 (binding name env)
