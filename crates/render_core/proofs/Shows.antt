-- What is printed of values, as an operator sees them.
use Rattle.std.proofs.Common.{◌≡◌, ℕ, zero, suc, ◌+◌, ◌≤◌, ◌<◌, pos, List, [], ◌∷◌, Option, Some, Result, Ok, Err}
use Rattle.std.proofs.Common.{inl, inr, length, take, sym, ap, arith, subst, lt-ltb, le-ltb}
use Rattle.std.proofs.lemmas.Bool.{cases_lt}
use Rattle.std.specs.List.{slice_get}
use Rattle.std.specs.Prelude.{IfOk}
use Rattle.soy_base.specs.declared.memory.OutOfMemory.{OutOfMemory}
use Rattle.soy_base.specs.declared.place.ValueClass.{ValueClass}
use Rattle.soy_rules.specs.Val.{Binding, Known}
use Rattle.soy_tree.specs.Values.{Value, BoolValue, IntValue, ListValue, MapValue, NullValue, RecordValue, StringValue}
use Rattle.soy_expr.specs.ViewShallow.{shallow_value}
use Rattle.soy_pieces.specs.Giving.{BoundBlock, RunEnv}
use Rattle.template_ir.specs.Run.{all_give, block_gives}
use Rattle.template_ir.specs.ViewOps.{view_program}
use Rattle.template_ir.specs.declared.program.ProgramParts.{ProgramParts}
use Rattle.render_core.specs.Finds.{binding_at, bound_binding, lowered_to}
use Rattle.render_core.specs.Shows.{Prints, Shows, ShowsValue, print_text}
use Rattle.render_core.specs.Variables.{Cell, cells_of, held_means, kept_means}
use Rattle.render_core.specs.declared.held.Bound.{Bound}
use Rattle.render_core.specs.declared.held.Held.{Held}
use Rattle.render_core.specs.declared.held.Held.TheVariants as held
use Rattle.render_core.specs.declared.held.Kept.{Kept}
use Rattle.render_core.specs.declared.showing.Shown.{Shown}
use Rattle.render_core.specs.declared.showing.Shown.TheVariants as shown
use Rattle.render_core.proofs.Cells.{env_past, env_take}

pub shows_seen : (v : Value) (text : List ℕ) (kind : ValueClass) → ShowsValue (shallow_value v) text kind
    → ShowsValue v text kind
shows_seen NullValue text kind h = h
shows_seen (BoolValue b) text kind h = h
shows_seen (IntValue n) text kind h = h
shows_seen (StringValue t) text kind h = h
shows_seen (ListValue vs) text kind h = h
shows_seen (MapValue es) text kind h = h
shows_seen (RecordValue es) text kind h = h

-- what is shown once it is valued, at this cost
pub prints_shown : (p : ProgramParts) (cells : List Cell) (n : ℕ) (valued b : Binding BoundBlock)
    (spent before after : ℕ) (r : Result Shown OutOfMemory) → valued ≡ b → after ≡ before + spent
    → IfOk r (λ s. Shows p cells n valued s) → Prints p cells n b spent before after r
prints_shown p cells n valued b spent before after (Ok s) same is shows =
    (subst (λ (x : Binding BoundBlock). Shows p cells n x s) same shows, is)
prints_shown p cells n valued b spent before after (Err e) same is shows =
    (omega (arith, is), omega (arith, is))

-- what is shown of a value that is valued in two steps
pub prints_field : (p : ProgramParts) (cells : List Cell) (n : ℕ) (b : Binding BoundBlock) (v : Value)
    (spent before after : ℕ) (r : Result Shown OutOfMemory) → b ≡ Known v → spent ≡ 2
    → Prints p cells n (Known v) 2 before after r → Prints p cells n b spent before after r
prints_field p cells n b v spent before after r same two h =
    subst (λ (x : Binding BoundBlock). Prints p cells n x spent before after r) (sym same)
    (subst (λ k. Prints p cells n (Known v) k before after r) (sym two) h)

-- what is shown of a value is shown of one that is equal
pub shows_same : (p : ProgramParts) (cells : List Cell) (n : ℕ) (valued b : Binding BoundBlock)
    (r : Result Shown OutOfMemory) → valued ≡ b → IfOk r (λ s. Shows p cells n valued s)
    → IfOk r (λ s. Shows p cells n b s)
shows_same p cells n valued b r same shows =
    subst (λ (x : Binding BoundBlock). IfOk r (λ s. Shows p cells n x s)) same shows

-- and of one of which an operator sees it
pub shows_shallow : (p : ProgramParts) (cells : List Cell) (n : ℕ) (seen v w : Value)
    (r : Result Shown OutOfMemory) → seen ≡ shallow_value v → v ≡ w → IfOk r (λ s. Shows p cells n (Known seen) s)
    → IfOk r (λ s. Shows p cells n (Known w) s)
shows_shallow p cells n seen v w (Ok (shown.Value text kind)) is same shows =
    subst (λ (x : Value). ShowsValue x (print_text cells text) kind) same
    (shows_seen v (print_text cells text) kind
    (subst (λ (x : Value). ShowsValue x (print_text cells text) kind) is shows))
shows_shallow p cells n seen v w (Ok (shown.Block kept)) is same shows = absurd shows
shows_shallow p cells n seen v w (Err e) is same shows = shows

get_inside : {A : Type 0} (xs : List A) (n : ℕ) (x : A) → Some x ≡ slice_get xs n → n < length xs
get_inside [] n x e = cc
get_inside (y ∷ ys) zero x e = omega arith
get_inside (y ∷ ys) (suc n) x e = let h = get_inside ys n x e in omega (arith, h)

module _ (p : ProgramParts) (at : ℕ) (kept : Kept) where
  abbrev block_seen : RunEnv → BoundBlock
  block_seen env = record {
    kind = kept.kind;
    outcome = block_gives (all_give (view_program p) kept.left) kept.block (pos 0) env;
  }

  -- the block of a variable sees only the variables below it
  lowered_means : (cells : List Cell) → kept_means p cells (lowered_to at kept) ≡ kept_means p (take at cells) kept
  lowered_means cells = elim (cases_lt at kept.env) [
    | inl past ↦ rw (lt-ltb at kept.env past) (ap block_seen (sym (env_past cells at kept.env past)))
    | inr within ↦ rw (le-ltb at kept.env within) (ap block_seen (sym (env_take cells at kept.env within)))
  ]

  lowered_low : (lowered_to at kept).env ≤ at
  lowered_low = elim (cases_lt at kept.env) [
    | inl past ↦ rw (lt-ltb at kept.env past) (omega arith)
    | inr within ↦ rw (le-ltb at kept.env within) within
  ]

  pub shows_block : (input : Value) (bound : List Bound) (b : Bound) → Some b ≡ slice_get bound at
      → b.to ≡ held.Block kept
      → Shows p (cells_of p input bound) (length bound) (binding_at p input bound at)
      (shown.Block (lowered_to at kept))
  shows_block input bound b is to =
      let cells : List Cell = cells_of p input bound in
      let inside : at < length bound = get_inside bound at b is in
      let low : (lowered_to at kept).env ≤ at = lowered_low in
      subst (λ (o : Option Bound). Shows p cells (length bound) (bound_binding p input (take at cells) o)
      (shown.Block (lowered_to at kept))) is
      (subst (λ (h : Held). Shows p cells (length bound) (held_means p input (take at cells) h)
      (shown.Block (lowered_to at kept))) (sym to) (lowered_means cells, omega (arith, inside, low)))
