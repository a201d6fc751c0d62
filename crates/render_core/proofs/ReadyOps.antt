-- What is given at once is what a step gives.
use Rattle.std.proofs.Common.{◌≡◌, ℕ, ◌+◌, ◌<◌, true, List, [], ◌∷◌, Option, Some, None, Result, Ok, length, arith}
use Rattle.std.proofs.Common.{refl, sym, ap, subst, take, ◌∙◌}
use Rattle.std.specs.List.{slice_get}
use Rattle.std.specs.Prelude.{IfSome, encode_utf8_all}
use Rattle.soy_base.specs.Piece.{Static, Value}
use Rattle.soy_base.specs.declared.direction.Dir.{Dir}
use Rattle.soy_base.specs.declared.fault.TooDeep.{TooDeep}
use Rattle.soy_base.specs.declared.memory.Refusal.{Refusal}
use Rattle.soy_base.specs.declared.place.Place.{Place}
use Rattle.soy_rules.specs.Cost.{cost}
use Rattle.soy_rules.specs.Val.{Binding, Known, binding, val}
use Rattle.soy_tree.specs.Types.{Name}
use Rattle.soy_tree.specs.Values as values
use Rattle.soy_tree.specs.ViewExpressions.{view_expr}
use Rattle.soy_tree.specs.declared.expr.Expr.{Expr}
use Rattle.soy_expr.specs.ViewEvaluated.{view_made}
use Rattle.soy_expr.specs.declared.evaluated.Made.{Made}
use Rattle.soy_pieces.specs.Giving.{BoundBlock, RunEnv}
use Rattle.soy_pieces.specs.Outcome.{GivesPiece, Outcome, gives_nothing, none_spent, spent_first}
use Rattle.template_ir.specs.Run.{one_step, print_gives, text_gives, value_at}
use Rattle.template_ir.specs.declared.op.Op.TheVariants as op
use Rattle.template_ir.specs.declared.program.ProgramParts.{ProgramParts}
use Rattle.render_core.specs.Finds.{IsVariable, binding_at, bound_binding}
use Rattle.render_core.specs.Frames.{MachineFits, past}
use Rattle.render_core.specs.Pulls.{Gave}
use Rattle.render_core.specs.Ready.{GivesBinding, GivesField}
use Rattle.render_core.specs.Stepping.{Advanced, Does, Gives, NextPiece, output}
use Rattle.render_core.specs.Texts.{is_none}
use Rattle.render_core.specs.Variables.{Cell, cells_of, env_at, held_means}
use Rattle.render_core.specs.declared.begun.Begun.{Begun}
use Rattle.render_core.specs.declared.frame.Ahead.{Ahead}
use Rattle.render_core.specs.declared.frame.Frame.TheVariants as frame
use Rattle.render_core.specs.declared.held.Bound.{Bound}
use Rattle.render_core.specs.declared.held.Held.TheVariants as held
use Rattle.render_core.specs.declared.stack.Machine.{Machine}
use Rattle.render_core.specs.declared.stack.Step.TheVariants as step
use Rattle.render_core.proofs.Gives.{does_step, gave_does}
use Rattle.render_core.proofs.Wents.{went_gives, went_none}

some_text : (text : List ℕ) → 0 < length (encode_utf8_all text)
    → text_gives text ≡ GivesPiece none_spent (Static text) gives_nothing
some_text [] some = absurd (omega arith)
some_text (c ∷ text) some = refl

some_left : (left after room room_after : List ℕ) (n : ℕ) → 0 < n → Gave left after room room_after n → 0 < length left
some_left left after room room_after n some gave = let size = gave.size in omega (arith, size, some)

module _ (p : ProgramParts) (input : values.Value) (old new : Machine) (f : Ahead) (room room_after : List ℕ)
    (n : ℕ) where
  -- past the op at hand, over the same variables
  pub record Passes : Type 0 where
    pub top : old.top ≡ frame.Ops f
    pub fits : MachineFits old
    pub low : f.at < f.end
    pub none : is_none old.texts ≡ true
    pub top_after : new.top ≡ frame.Ops (past f)
    pub below : new.below ≡ old.below
    pub bound : new.bound ≡ old.bound
    pub texts : new.texts ≡ old.texts

  pub static_gives : (text : List ℕ) (m : ℕ) → Passes → slice_get p.ops f.at ≡ Some (op.Static text) → 0 < n
      → Gave (encode_utf8_all text) [] room room_after n → Gives p input old new m m (output room room_after None) n
  static_gives text m passes is some gave =
      let env : RunEnv = env_at (cells_of p input old.bound) f.env in
      let spent : m ≡ m + 0 = omega arith in
      does_step p input old new f (op.Static text) 0 (GivesPiece none_spent (Static text) gives_nothing) m m
      (output room room_after None) (Ok (step.Gives n)) passes.top passes.fits is passes.low
      (ap (λ (o : Outcome). (spent_first (one_step 0) o, env))
      (some_text text (some_left (encode_utf8_all text) [] room room_after n some gave))) spent
      (gave_does p input old new f (Static text) (output room room_after None) (Ok (step.Gives n)) passes.top
      passes.fits (passes.top_after, passes.below, passes.bound, passes.texts, passes.none, (gave, tt)))

  print_passes : (e : Expr) (point : Place) (before after spent : ℕ) → Passes
      → slice_get p.ops f.at ≡ Some (op.Print e point)
      → cost (view_expr e) (env_at (cells_of p input old.bound) f.env) ≡ spent → after ≡ before + spent
      → GivesBinding p.dir (val (view_expr e) (env_at (cells_of p input old.bound) f.env)) point room room_after n
      → Gives p input old new before after (output room room_after None) n
  print_passes e point before after spent passes is costs counted h =
      let env : RunEnv = env_at (cells_of p input old.bound) f.env in
      let b : Binding BoundBlock = val (view_expr e) env in
      let all : after ≡ before + cost (view_expr e) env = omega (arith, counted, costs) in
      does_step p input old new f (op.Print e point) (cost (view_expr e) env) (print_gives p.dir point b) before after
      (output room room_after None) (Ok (step.Gives n)) passes.top passes.fits is passes.low refl all
      (subst (λ (x : Binding BoundBlock). Does p input old new f (print_gives p.dir point x)
      (output room room_after None) (Ok (step.Gives n))) (sym h.1)
      (gave_does p input old new f (Value (value_at p.dir point h.0)) (output room room_after None) (Ok (step.Gives n))
      passes.top passes.fits
      (passes.top_after, passes.below, passes.bound, passes.texts, passes.none, (h.2, tt))))

  pub field_gives : (e : Expr) (point : Place) (before after : ℕ) → Passes
      → slice_get p.ops f.at ≡ Some (op.Print e point) → after ≡ before + 2
      → GivesField p input old.bound f.env (view_expr e) point room room_after n
      → Gives p input old new before after (output room room_after None) n
  field_gives e point before after passes is counted h = print_passes e point before after 2 passes is h.0 counted h.1

  pub variable_gives : (e : Expr) (name : Name) (point : Place) (before after : ℕ) → Passes
      → slice_get p.ops f.at ≡ Some (op.Print e point) → after ≡ before + 1 → IsVariable (view_expr e) (Some name)
      → GivesBinding p.dir (binding name (env_at (cells_of p input old.bound) f.env)) point room room_after n
      → Gives p input old new before after (output room room_after None) n
  variable_gives e name point before after passes is counted variable h =
      let env : RunEnv = env_at (cells_of p input old.bound) f.env in
      print_passes e point before after 1 passes is (ap (λ x. cost x env) variable.1) counted
      (subst (λ (b : Binding BoundBlock). GivesBinding p.dir b point room room_after n)
      (sym (ap (λ x. val x env) variable.1)) h)

-- what is bound is given as its value is
pub given_binding : (context : Dir) (b : Binding BoundBlock) (point : Place) (v : values.Value)
    (room room_after : List ℕ) (r : Option ℕ) → Known v ≡ b
    → IfSome r (λ n. Gave (encode_utf8_all (value_at context point v)) [] room room_after n)
    → IfSome r (λ n. GivesBinding context b point room room_after n)
given_binding context b point v room room_after None same h = tt
given_binding context b point v room room_after (Some n) same h = (v, sym same, h)

module _ (p : ProgramParts) (input : values.Value) where
  pub bound_made : (bound : List Bound) (at : ℕ) (b : Bound) (m : Made) → Some b ≡ slice_get bound at
      → b.to ≡ held.Made m → Known (view_made m) ≡ binding_at p input bound at
  bound_made bound at b m is to =
      let cells : List Cell = take at (cells_of p input bound) in
      sym (ap (held_means p input cells) to) ∙ ap (bound_binding p input cells) is

module _ (p : ProgramParts) (input : values.Value) where
  -- a piece that the next op gives at once
  pub ready_piece : (old new : Machine) (b a : ℕ) (room room_after : List ℕ) (begun : Option Begun) (n : ℕ)
      → MachineFits old → Gives p input old new b a (output room room_after None) n → 0 < n → begun ≡ None
      → Advanced p input old new b a (output room room_after begun) (Ok (Some n))
  ready_piece old new b a room room_after begun n fits gives some none =
      subst (λ (x : Option Begun). NextPiece p input old new b a (output room room_after x) n) (sym none)
      (went_gives p input old old new b b a (output room room_after None) n (went_none p input old b fits) gives some)

  -- the same of a machine that is unchanged
  pub same_advanced : (old mid new : Machine) (b m a : ℕ) (room between room_after : List ℕ) (begun : Option Begun)
      (result : Result (Option ℕ) (Refusal TooDeep)) → mid ≡ old → between ≡ room → m ≡ b
      → Advanced p input mid new m a (output between room_after begun) result
      → Advanced p input old new b a (output room room_after begun) result
  same_advanced old mid new b m a room between room_after begun result same same_room same_steps h =
      subst (λ (x : Machine). Advanced p input x new b a (output room room_after begun) result) same
      (subst (λ k. Advanced p input mid new k a (output room room_after begun) result) same_steps
      (subst (λ (xs : List ℕ). Advanced p input mid new m a (output xs room_after begun) result) same_room h))
