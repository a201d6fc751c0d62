-- Steps that give something, and steps that bind.
use Rattle.std.proofs.Common.{◌≡◌, ℕ, ◌+◌, ◌≤◌, ◌<◌, true, false, List, [], ◌∷◌}
use Rattle.std.proofs.Common.{Some, Result, Ok, Err, length, take, refl, sym, ap, ◌∙◌, arith, subst}
use Rattle.std.specs.List.{slice_get}
use Rattle.std.proofs.Math.Seq.{take-length}
use Rattle.soy_base.specs.Cuts.{is_nil}
use Rattle.soy_base.specs.declared.memory.OutOfMemory.{OutOfMemory}
use Rattle.soy_base.specs.declared.place.Place.{Place}
use Rattle.soy_base.specs.declared.place.ValueClass.{ValueClass}
use Rattle.soy_rules.specs.Val.{Binding, BlockOf, Known}
use Rattle.soy_tree.specs.Values as values
use Rattle.soy_expr.specs.Evaluates.{IsWithin}
use Rattle.soy_base.specs.Piece.{Piece, Static, Value}
use Rattle.soy_pieces.specs.Giving.{BoundBlock, RunEnv, value_class}
use Rattle.soy_pieces.specs.Outcome.{GivesPiece, Outcome, RunEnds, Spent, WholeRun, continued_by}
use Rattle.soy_pieces.specs.Outcome.{gives_nothing}
use Rattle.soy_pieces.specs.Outcome.{none_spent, spent_first}
use Rattle.soy_pieces.proofs.Outcomes.{first_none, none_after}
use Rattle.template_ir.specs.Run.{one_step, print_gives, text_gives}
use Rattle.template_ir.specs.declared.op.Op.{Op}
use Rattle.template_ir.specs.declared.program.ProgramParts.{ProgramParts}
use Rattle.render_core.specs.Forms.{form_at}
use Rattle.render_core.specs.Frames.{FramesFit, MachineFits, machine_gives, ops_ahead, over, past, past_with}
use Rattle.render_core.specs.Linked.{Adds, bound_over}
use Rattle.render_core.specs.Rest.{first_spent, piece_bytes, piece_text}
use Rattle.render_core.specs.Shows.{Shows, kept_child, print_text}
use Rattle.render_core.specs.Stepping.{Binds, Does, GaveForm, Given, GoesIn, IsSame, Output, Silent}
use Rattle.render_core.specs.Stepping.{Stays, Stepped, SteppedInto}
use Rattle.render_core.specs.Stepping.{pending}
use Rattle.render_core.specs.Texts.{added, is_none}
use Rattle.render_core.specs.Variables.{cells_of, env_at, held_means, kept_means, name_or_none}
use Rattle.render_core.specs.Variables.{name_there}
use Rattle.render_core.specs.declared.frame.Ahead.{Ahead}
use Rattle.render_core.specs.declared.frame.Frame.{Frame}
use Rattle.render_core.specs.declared.frame.Frame.TheVariants as frame
use Rattle.render_core.specs.declared.held.Bound.{Bound}
use Rattle.render_core.specs.declared.held.Held.{Held}
use Rattle.render_core.specs.declared.held.Kept.{Kept}
use Rattle.render_core.specs.declared.held.Naming.{Naming}
use Rattle.render_core.specs.declared.showing.Shown.TheVariants as shown
use Rattle.render_core.specs.declared.showing.Print.{Print}
use Rattle.render_core.specs.declared.stack.Machine.{Machine}
use Rattle.render_core.specs.declared.stack.Step.{Step}
use Rattle.render_core.specs.declared.stack.Step.TheVariants as step
use Rattle.render_core.proofs.Adds.{adds_env, adds_length, adds_take}
use Rattle.render_core.proofs.Machines.{bound_by, entered}
use Rattle.render_core.proofs.Moves.{fits_is, fits_top, machine_is, op_spends, same_fits, same_gives, silent_in}
use Rattle.render_core.proofs.Moves.{stays_in}
use Rattle.render_core.proofs.Moves.{within_first}
use Rattle.render_core.proofs.Ops.{op_there}
use Rattle.render_core.proofs.Overs.{over_first, over_piece, over_text}

-- ---- texts

-- a text that isn't empty is a piece
pub text_some : (text : List ℕ) → is_nil text ≡ false → text_gives text
    ≡ GivesPiece none_spent (Static text) gives_nothing
text_some [] e = cc
text_some (c ∷ text) e = refl

pub text_none : (text : List ℕ) → is_nil text ≡ true → text_gives text ≡ gives_nothing
text_none [] e = refl
text_none (c ∷ text) e = cc

module _ (p : ProgramParts) (input : values.Value) where
  over_none : (bound : List Bound) (fs : List Frame) (texts : List (List ℕ)) (a : Spent) (piece : Piece) (o : Outcome)
      → is_none texts ≡ true
      → over p input bound fs texts (GivesPiece a piece o) ≡ GivesPiece a piece (over p input bound fs texts o)
  over_none bound fs [] a piece o e = over_piece p input fs bound a piece o
  over_none bound fs (text ∷ texts) a piece o e = cc

  over_some : (bound : List Bound) (fs : List Frame) (texts : List (List ℕ)) (a : Spent) (piece : Piece) (o : Outcome)
      → is_none texts ≡ false
      → over p input bound fs texts (GivesPiece a piece o)
      ≡ spent_first a (over p input bound fs (added texts (piece_text piece)) o)
  over_some bound fs [] a piece o e = cc
  over_some bound fs (text ∷ texts) a piece o e = over_text p input fs bound text texts a piece o

  -- ---- a piece that is given

  -- a step that gives nothing
  pub quiet_step : (old new : Machine) (before after : ℕ) (out : Output) (result : Result Step OutOfMemory)
      → Stepped p input old new before after result → SteppedInto p input old new before after out result
  quiet_step old new before after out (Ok step.Silent) h = h
  quiet_step old new before after out (Ok (step.Gives n)) h = absurd h
  quiet_step old new before after out (Ok step.Done) h = h
  quiet_step old new before after out (Ok (step.TooDeep call)) h = h
  quiet_step old new before after out (Err e) h = h

  -- before a frame that fits
  pub gave_next : (old new : Machine) (f : Ahead) (piece : Piece) (out : Output) (result : Result Step OutOfMemory)
      → FramesFit (frame.Ops (past f) ∷ old.below) (length old.bound)
      → GaveForm p input old new (frame.Ops (past f)) (piece_text piece) out result
      → Does p input old new f (GivesPiece none_spent piece gives_nothing) out result
  gave_next old new f piece out (Ok step.Silent) fits h =
      let fs : List Frame = frame.Ops (past f) ∷ old.below in
      record {
        gives =
            machine_is p input new (frame.Ops (past f)) old.below
            (added old.texts (piece_text piece)) old.bound h.0
            h.1 h.3 h.2
            ∙ sym (over_some old.bound fs old.texts none_spent piece gives_nothing h.4
            ∙ first_none (over p input old.bound fs (added old.texts (piece_text piece)) gives_nothing));
        fits = fits_is p input new (frame.Ops (past f)) old.below old.bound h.0 h.1 h.2 fits;
        quiet = ap (pending p) h.0;
      }
  gave_next old new f piece out (Ok (step.Gives n)) fits h =
      let fs : List Frame = frame.Ops (past f) ∷ old.below in (
        piece,
        over_none old.bound fs old.texts none_spent piece gives_nothing h.4
            ∙ ap (λ (o : Outcome). GivesPiece none_spent piece o)
            (sym (machine_is p input new (frame.Ops (past f)) old.below old.texts old.bound h.0 h.1 h.3 h.2)),
        fits_is p input new (frame.Ops (past f)) old.below old.bound h.0 h.1 h.2 fits,
        ap (pending p) h.0,
        subst (λ (bs : List Bound). Given p input bs (piece_bytes piece) out n) (sym h.2) h.5,
      )
  gave_next old new f piece out (Ok step.Done) fits h = absurd h
  gave_next old new f piece out (Ok (step.TooDeep call)) fits h = absurd h
  gave_next old new f piece out (Err e) fits h = h

  pub gave_does : (old new : Machine) (f : Ahead) (piece : Piece) (out : Output) (result : Result Step OutOfMemory)
      → old.top ≡ frame.Ops f → MachineFits old
      → GaveForm p input old new (frame.Ops (past f)) (piece_text piece) out result
      → Does p input old new f (GivesPiece none_spent piece gives_nothing) out result
  gave_does old new f piece out result top fits h =
      gave_next old new f piece out result (fits_top p input old (frame.Ops f) top fits) h

  -- an op of this cost whose outcome is done
  pub does_step : (old new : Machine) (f : Ahead) (o : Op) (c : ℕ) (x : Outcome) (before after : ℕ) (out : Output)
      (result : Result Step OutOfMemory) → old.top ≡ frame.Ops f → MachineFits old → slice_get p.ops f.at ≡ Some o
      → f.at < f.end
      → op_there p f.left f.at o f.number (env_at (cells_of p input old.bound) f.env)
      ≡ (spent_first (one_step c) x, env_at (cells_of p input old.bound) f.env)
      → after ≡ before + c → Does p input old new f x out result
      → SteppedInto p input old new before after out result
  does_step old new f o c x before after out (Ok step.Silent) top fits is low means cost h =
      silent_in p input old new f o c x before after top is low means cost h
  does_step old new f o c x before after out (Ok (step.Gives n)) top fits is low means cost h =
      let quiet : pending p new.top ≡ 0 = h.3 in (
        one_step c,
        h.0,
        record {
          same =
              op_spends p input old f o c x top is low means
              ∙ (ap (spent_first (one_step c)) h.1
              ∙ ap (λ (s : Spent). GivesPiece s h.0 (machine_gives p input new)) (none_after (one_step c)));
          cost = cost;
          falls = omega (arith, quiet);
          fits = h.2;
        },
        h.4,
      )
  does_step old new f o c x before after out (Ok step.Done) top fits is low means cost h = absurd h
  does_step old new f o c x before after out (Ok (step.TooDeep call)) top fits is low means cost h = absurd h
  does_step old new f o c x before after out (Err e) top fits is low means cost h =
      stays_in p input old new f o c x before after top is low means
      (let a : before ≤ after = omega (arith, cost) in let b : after ≤ before + c = omega (arith, cost) in (a, b)) fits
      h

  -- ---- prints

  -- a value that is shown so has this piece
  pub shown_piece : (point : Place) (v : values.Value) (text : Print) (class : ValueClass) (n : ℕ)
      (bound : List Bound)
      → Shows p (cells_of p input bound) n (Known v) (shown.Value text class)
      → print_gives p.dir point (Known v)
      ≡ GivesPiece none_spent (Value (form_at point class (print_text (cells_of p input bound) text) p.dir))
      gives_nothing
  shown_piece point v text class n bound h =
      ap (λ t. GivesPiece none_spent (Value (form_at point (value_class v) t p.dir)) gives_nothing) (sym h.0)
      ∙ ap (λ k. GivesPiece none_spent
      (Value (form_at point k (print_text (cells_of p input bound) text) p.dir)) gives_nothing)
      (sym h.1)

  -- a block that is printed
  pub block_does : (old new : Machine) (f : Ahead) (kept : Kept) (block : BoundBlock) → old.top ≡ frame.Ops f
      → MachineFits old → kept_means p (cells_of p input old.bound) kept ≡ block
      → kept.env ≤ length old.bound
      → new.top ≡ frame.Ops (kept_child kept (length old.bound)) → new.below ≡ frame.Ops (past f) ∷ old.below
      → new.texts ≡ old.texts → new.bound ≡ old.bound → GoesIn p input old new f block.outcome
  block_does old new f kept block old_top fits means low top below texts bound =
      let child : Ahead = kept_child kept (length old.bound) in
      let old_fits : FramesFit (frame.Ops f ∷ old.below) (length old.bound) = fits_top p input old
      (frame.Ops f) old_top fits in
      record {
        gives =
            machine_is p input new (frame.Ops child)
            (frame.Ops (past f) ∷ old.below) old.texts old.bound top below
            texts bound
            ∙ (entered p input old.bound old.bound (frame.Ops (past f) ∷ old.below) old.texts child
            (take-length old.bound)
            ∙ ap (λ (b : BoundBlock). over p input old.bound (frame.Ops (past f) ∷ old.below) old.texts b.outcome)
            means);
        fits =
            fits_is p input new (frame.Ops child) (frame.Ops (past f) ∷ old.below) old.bound top below bound
            (low, (let e : length old.bound ≤ length old.bound = omega arith in e), old_fits);
        quiet = ap (pending p) top;
      }

  pub value_prints : (old new : Machine) (f : Ahead) (point : Place) (text : Print) (class : ValueClass) (n : ℕ)
      (out : Output) (result : Result Step OutOfMemory) (b : Binding BoundBlock) → old.top ≡ frame.Ops f
      → MachineFits old
      → GaveForm p input old new (frame.Ops (past f))
      (form_at point class (print_text (cells_of p input old.bound) text) p.dir) out result
      → Shows p (cells_of p input old.bound) n b (shown.Value text class)
      → Does p input old new f (print_gives p.dir point b) out result
  value_prints old new f point text class n out result (Known v) top fits gave h =
      subst (λ (x : Outcome). Does p input old new f x out result)
      (sym (shown_piece point v text class n old.bound h))
      (gave_does old new f
      (Value (form_at point class (print_text (cells_of p input old.bound) text) p.dir)) out result top fits
      gave)
  value_prints old new f point text class n out result (BlockOf block) top fits gave h = absurd h

  pub block_prints : (old new : Machine) (f : Ahead) (point : Place) (kept : Kept) (b : Binding BoundBlock)
      → old.top ≡ frame.Ops f → MachineFits old
      → new.top ≡ frame.Ops (kept_child kept (length old.bound)) → new.below ≡ frame.Ops (past f) ∷ old.below
      → new.texts ≡ old.texts → new.bound ≡ old.bound
      → Shows p (cells_of p input old.bound) (length old.bound) b (shown.Block kept)
      → GoesIn p input old new f (print_gives p.dir point b)
  block_prints old new f point kept (Known v) old_top fits top below texts bound h = absurd h
  block_prints old new f point kept (BlockOf block) old_top fits top below texts bound h =
      block_does old new f kept block old_top fits h.0 h.1 top below texts bound

  -- ---- bindings

  -- past an op, with one more variable
  pub bind_does : (old new : Machine) (f : Ahead) (name : Naming) (to : Held) → old.top ≡ frame.Ops f → MachineFits old
      → new.top ≡ frame.Ops (past_with f (length old.bound + 1)) → new.below ≡ old.below → new.texts ≡ old.texts
      → Adds p (bound_over name to f.env) old.bound new.bound → Binds p input old new f name to
  bind_does old new f name to old_top fits top below texts adds =
      let b : Bound = bound_over name to f.env in
      let n : ℕ = length old.bound + 1 in
      let g : Ahead = past_with f n in
      let old_fits : FramesFit (frame.Ops f ∷ old.below) (length old.bound) = fits_top p input old
      (frame.Ops f) old_top fits in
      let more : length new.bound ≡ n = adds_length p b old.bound new.bound adds in
      record {
        gives =
            machine_is p input new (frame.Ops g) old.below old.texts new.bound top below texts refl
            ∙ (ap (λ (bs : List Bound). over p input bs old.below old.texts
            (continued_by gives_nothing (ops_ahead p g (env_at (cells_of p input new.bound) n))))
            (adds_take p b old.bound new.bound adds f.mark old_fits.1)
            ∙ ap (λ (o : Outcome). over p input (take f.mark old.bound) old.below old.texts o)
            (first_none (ops_ahead p g (env_at (cells_of p input new.bound) n))
            ∙ ap (λ (env : RunEnv). ops_ahead p (past f) env) (adds_env p b old.bound new.bound adds input n refl)));
        fits =
            fits_is p input new (frame.Ops g) old.below new.bound top below refl (
              (let e : n ≤ length new.bound = omega (arith, more) in e),
              (let m = old_fits.1 in let e : f.mark ≤ length new.bound = omega (arith, more, m) in e),
              old_fits.2,
            );
        quiet = ap (pending p) top;
      }

  -- an op that only binds
  pub binds_step : (old new : Machine) (f : Ahead) (o : Op) (c : ℕ) (name : Naming) (to : Held) (before after : ℕ)
      → old.top ≡ frame.Ops f → slice_get p.ops f.at ≡ Some o → f.at < f.end
      → op_there p f.left f.at o f.number (env_at (cells_of p input old.bound) f.env)
      ≡ (
        RunEnds (one_step c) WholeRun,
        (name_or_none (name_there p name), held_means p input (cells_of p input old.bound) to)
            ∷ env_at (cells_of p input old.bound) f.env,
      )
      → after ≡ before + c → Binds p input old new f name to → Silent p input old new before after
  binds_step old new f o c name to before after top is low means cost binds =
      let env : RunEnv = (name_or_none (name_there p name), held_means p input (cells_of p input old.bound) to)
      ∷ env_at (cells_of p input old.bound) f.env in
      let quiet : pending p new.top ≡ 0 = binds.quiet in (
        one_step c,
        record {
          same =
              machine_is p input old (frame.Ops f) old.below old.texts old.bound top refl refl refl
              ∙ (bound_by p input old.bound old.below old.texts f o
              (RunEnds (one_step c) WholeRun) env is low means
              ∙ (over_first p input old.below (take f.mark old.bound) old.texts (one_step c)
              (ops_ahead p (past f) env)
              ∙ ap (spent_first (one_step c)) (sym binds.gives)));
          cost = cost;
          falls = omega (arith, quiet);
          fits = binds.fits;
        },
      )

  pub binds_stay : (old new : Machine) (f : Ahead) (o : Op) (c : ℕ) (env : RunEnv) (before after : ℕ)
      → old.top ≡ frame.Ops f → slice_get p.ops f.at ≡ Some o → f.at < f.end
      → op_there p f.left f.at o f.number (env_at (cells_of p input old.bound) f.env)
      ≡ (RunEnds (one_step c) WholeRun, env)
      → IsWithin c before after → MachineFits old → IsSame old new → Stays p input old new before after
  binds_stay old new f o c env before after top is low means cost fits same =
      let room : c ≤ (first_spent (machine_gives p input old)).cost =
      within_first c (machine_gives p input old) _
      (machine_is p input old (frame.Ops f) old.below old.texts old.bound top refl refl refl
      ∙ (bound_by p input old.bound old.below old.texts f o (RunEnds (one_step c) WholeRun) env is low means
      ∙ over_first p input old.below (take f.mark old.bound) old.texts (one_step c)
      (ops_ahead p (past f) env))) in
      record {
        same = same_gives p input old new same;
        low = cost.0;
        high = omega (arith, room, cost.1);
        fits = same_fits p input old new same fits;
      }
