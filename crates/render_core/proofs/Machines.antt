-- Steps of the machine, by lists: what stands above a stack of frames, and what the stack gives then.
use Rattle.std.proofs.Common.{◌≡◌, ℕ, zero, suc, ◌<◌, List, [], ◌∷◌, Option, Some}
use Rattle.std.proofs.Common.{take, refl, ap, ◌∙◌, arith}
use Rattle.std.specs.List.{slice_get}
use Rattle.soy_tree.specs.Values as values
use Rattle.soy_pieces.specs.Giving.{RunEnv}
use Rattle.soy_pieces.specs.Outcome.{Outcome, continued_by, gives_nothing}
use Rattle.soy_pieces.proofs.Outcomes.{first_none}
use Rattle.template_ir.specs.declared.op.Op.{Op}
use Rattle.template_ir.specs.declared.program.ProgramParts.{ProgramParts}
use Rattle.render_core.specs.Frames.{FrameWithin, after_text, call_of, frame_gives}
use Rattle.render_core.specs.Frames.{over}
use Rattle.render_core.specs.Frames.{PurposeWithin, ops_ahead, past, shown_by, text_bound, turns_of}
use Rattle.template_ir.specs.declared.op.Op.TheVariants as op
use Rattle.render_core.specs.declared.frame.Round.{Round}
use Rattle.render_core.specs.Variables.{Cell, cell_at, cells_of, env_at}
use Rattle.render_core.specs.declared.frame.Ahead.{Ahead}
use Rattle.render_core.specs.declared.frame.Frame.{Frame}
use Rattle.render_core.specs.declared.frame.Frame.TheVariants as frame
use Rattle.render_core.specs.declared.frame.Purpose.{Purpose}
use Rattle.render_core.specs.declared.frame.Purpose.TheVariants as purpose
use Rattle.render_core.specs.declared.held.Bound.{Bound}
use Rattle.render_core.proofs.Cells.{cell_agree, env_agree}
use Rattle.render_core.proofs.Ops.{ahead_op, op_there}

module _ (p : ProgramParts) (input : values.Value) where
  -- an op that leaves the variables: it comes before its frame past it
  pub acted : (bound : List Bound) (fs : List Frame) (texts : List (List ℕ)) (f : Ahead) (o : Op) (x : Outcome)
      → slice_get p.ops f.at ≡ Some o → f.at < f.end
      → op_there p f.left f.at o f.number (env_at (cells_of p input bound) f.env)
      ≡ (x, env_at (cells_of p input bound) f.env)
      → over p input bound (frame.Ops f ∷ fs) texts gives_nothing
      ≡ over p input bound (frame.Ops (past f) ∷ fs) texts x
  acted bound fs texts f o x is low means =
      let env : RunEnv = env_at (cells_of p input bound) f.env in
      ap (λ (y : Outcome). over p input (take f.mark bound) fs texts y)
      (first_none (ops_ahead p f env) ∙ (ahead_op p f o env is low
      ∙ ap (λ (m : Outcome × RunEnv). continued_by m.0 (ops_ahead p (past f) m.1)) means))

  -- an op that only binds: its frame past it, with the variables after it
  pub bound_by : (bound : List Bound) (fs : List Frame) (texts : List (List ℕ)) (f : Ahead) (o : Op) (x : Outcome)
      (env : RunEnv) → slice_get p.ops f.at ≡ Some o → f.at < f.end
      → op_there p f.left f.at o f.number (env_at (cells_of p input bound) f.env) ≡ (x, env)
      → over p input bound (frame.Ops f ∷ fs) texts gives_nothing
      ≡ over p input (take f.mark bound) fs texts (continued_by x (ops_ahead p (past f) env))
  bound_by bound fs texts f o x env is low means =
      let old : RunEnv = env_at (cells_of p input bound) f.env in
      ap (λ (y : Outcome). over p input (take f.mark bound) fs texts y)
      (first_none (ops_ahead p f old) ∙ (ahead_op p f o old is low
      ∙ ap (λ (m : Outcome × RunEnv). continued_by m.0 (ops_ahead p (past f) m.1)) means))

  -- a block on top of frames comes before them
  pub entered : (bound wider : List Bound) (fs : List Frame) (texts : List (List ℕ)) (child : Ahead)
      → take child.mark wider ≡ bound
      → over p input wider (frame.Ops child ∷ fs) texts gives_nothing
      ≡ over p input bound fs texts (ops_ahead p child (env_at (cells_of p input wider) child.env))
  entered bound wider fs texts child below =
      ap (λ (bs : List Bound). over p input bs fs texts
      (continued_by gives_nothing (ops_ahead p child (env_at (cells_of p input wider) child.env)))) below
      ∙ ap (λ (x : Outcome). over p input bound fs texts x)
      (first_none (ops_ahead p child (env_at (cells_of p input wider) child.env)))

  -- ---- frames depend on the variables that they name

  text_agree : (a b : List Bound) (m n : ℕ) → take m a ≡ take m b → n < m → slice_get a n ≡ slice_get b n
  text_agree a b zero n same h = absurd (omega arith)
  text_agree [] [] (suc m) n same h = refl
  text_agree [] (y ∷ b) (suc m) n same h = cc
  text_agree (x ∷ a) [] (suc m) n same h = cc
  text_agree (x ∷ a) (y ∷ b) (suc m) zero same h = let e : x ≡ y = cc in ap Some e
  text_agree (x ∷ a) (y ∷ b) (suc m) (suc n) same h =
      let e : take m a ≡ take m b = cc in text_agree a b m n e (omega arith)

  turns_agree : (a b : List Cell) (r : Round) (o : Option Op) → env_at a r.env ≡ env_at b r.env
      → (cell_at a r.list).part ≡ (cell_at b r.list).part → turns_of p a r o ≡ turns_of p b r o
  turns_agree a b r (Some (op.For name index e body)) env part = cc
  turns_agree a b r _ env part = refl

  -- what comes after a text that was gathered does too
  pub text_agrees : (a b : List Bound) (m : ℕ) (f : Ahead) (what : Purpose) (text : List ℕ) → take m a ≡ take m b
      → PurposeWithin m f what
      → after_text p (cells_of p input a) f what text ≡ after_text p (cells_of p input b) f what text
  text_agrees a b m f purpose.Bind text same fit =
      let e : env_at (cells_of p input a) f.env ≡ env_at (cells_of p input b) f.env
      = env_agree p input a b m f.env same fit.1 in cc
  text_agrees a b m f purpose.Show text same fit =
      let e : env_at (cells_of p input a) f.env ≡ env_at (cells_of p input b) f.env
      = env_agree p input a b m f.env same fit.1 in cc
  text_agrees a b m f (purpose.Hand h) text same fit =
      let e : env_at (cells_of p input a) f.env ≡ env_at (cells_of p input b) f.env
      = env_agree p input a b m f.env same (omega arith) in
      let i : env_at (cells_of p input a) h.inner ≡ env_at (cells_of p input b) h.inner
      = env_agree p input a b m h.inner same fit.4 in cc

  pub frame_agree : (a b : List Bound) (m : ℕ) (f : Frame) → take m a ≡ take m b → FrameWithin m f
      → frame_gives p input a f ≡ frame_gives p input b f
  frame_agree a b m (frame.Ops f) same fit = ap (λ env. ops_ahead p f env) (env_agree p input a b m f.env same fit)
  frame_agree a b m (frame.Show f at) same fit =
      let e : env_at (cells_of p input a) f.env ≡ env_at (cells_of p input b) f.env
      = env_agree p input a b m f.env same fit.1 in
      let t : slice_get a at ≡ slice_get b at = text_agree a b m at same fit.2 in
      ap (λ env. shown_by p f env (text_bound (slice_get a at))) e
      ∙ ap (λ (v : Option Bound). shown_by p f (env_at (cells_of p input b) f.env) (text_bound v)) t
  frame_agree a b m (frame.Call f h) same fit =
      let e : env_at (cells_of p input a) f.env ≡ env_at (cells_of p input b) f.env
      = env_agree p input a b m f.env same (omega arith) in
      let i : env_at (cells_of p input a) h.inner ≡ env_at (cells_of p input b) h.inner
      = env_agree p input a b m h.inner same fit.4 in
      ap (λ env. call_of p f h.next env (env_at (cells_of p input a) h.inner) (slice_get p.ops f.at)) e
      ∙ ap (λ env. call_of p f h.next (env_at (cells_of p input b) f.env) env (slice_get p.ops f.at)) i
  frame_agree a b m (frame.Turns r) same fit =
      turns_agree (cells_of p input a) (cells_of p input b) r (slice_get p.ops r.op)
      (env_agree p input a b m r.env same fit.0)
      (ap (λ (c : Cell). c.part) (cell_agree p input a b m r.list same fit.1))
  frame_agree a b m (frame.Gather f what) same fit = text_agrees a b m f what [] same fit
