-- Steps of the machine: from what an op means to what its step does.
use Rattle.std.proofs.Common.{◌≡◌, ℕ, ℤ, ◌+◌, ◌≤◌, ◌<◌, List, ◌∷◌, Some}
use Rattle.std.proofs.Common.{length, refl, sym, ap, ◌∙◌, arith, subst}
use Rattle.std.specs.List.{slice_get}
use Rattle.std.proofs.Math.Seq.{take-length}
use Rattle.soy_expr.specs.Evaluates.{IsWithin}
use Rattle.soy_tree.specs.Values as values
use Rattle.soy_pieces.specs.Outcome.{GivesPiece, Outcome, RunEnds, gives_nothing, spent_first}
use Rattle.template_ir.specs.Run.{block_gives, one_step}
use Rattle.template_ir.specs.declared.op.Block.{Block}
use Rattle.template_ir.specs.declared.op.Op.{Op}
use Rattle.template_ir.specs.declared.program.ProgramParts.{ProgramParts}
use Rattle.render_core.specs.Frames.{FramesFit, MachineFits, child_at, machine_gives, means_before}
use Rattle.render_core.specs.Frames.{over, past}
use Rattle.render_core.specs.Rest.{first_spent}
use Rattle.render_core.specs.Stepping.{GoesIn, IsSame, Silent, Stays, pending}
use Rattle.render_core.specs.Variables.{cells_of, env_at}
use Rattle.render_core.specs.declared.frame.Ahead.{Ahead}
use Rattle.render_core.specs.declared.frame.Frame.{Frame}
use Rattle.render_core.specs.declared.frame.Frame.TheVariants as frame
use Rattle.render_core.specs.declared.held.Bound.{Bound}
use Rattle.render_core.specs.declared.stack.Machine.{Machine}
use Rattle.render_core.proofs.Machines.{acted, entered}
use Rattle.render_core.proofs.Ops.{block_within, op_there}
use Rattle.render_core.proofs.Overs.{over_first}

-- what is spent first is at most what is spent before the first piece
pub within_first : (n : ℕ) (o x : Outcome) → o ≡ spent_first (one_step n) x → n ≤ (first_spent o).cost
within_first n o (RunEnds s end) e =
    let c : (first_spent o).cost ≡ n + s.cost = ap (λ (y : Outcome). (first_spent y).cost) e in omega (arith, c)
within_first n o (GivesPiece s piece rest) e =
    let c : (first_spent o).cost ≡ n + s.cost = ap (λ (y : Outcome). (first_spent y).cost) e in omega (arith, c)

module _ (p : ProgramParts) (input : values.Value) where
  pub machine_is : (m : Machine) (top : Frame) (below : List Frame) (texts : List (List ℕ)) (bound : List Bound)
      → m.top ≡ top → m.below ≡ below → m.texts ≡ texts → m.bound ≡ bound
      → machine_gives p input m ≡ over p input bound (top ∷ below) texts gives_nothing
  machine_is m top below texts bound a b c d =
      ap (λ (t : Frame). over p input m.bound (t ∷ m.below) m.texts gives_nothing) a
      ∙ (ap (λ (fs : List Frame). over p input m.bound (top ∷ fs) m.texts gives_nothing) b
      ∙ (ap (λ (ts : List (List ℕ)). over p input m.bound (top ∷ below) ts gives_nothing) c
      ∙ ap (λ (bs : List Bound). over p input bs (top ∷ below) texts gives_nothing) d))

  -- an op that leaves the variables
  pub op_spends : (old : Machine) (f : Ahead) (o : Op) (c : ℕ) (x : Outcome) → old.top ≡ frame.Ops f
      → slice_get p.ops f.at ≡ Some o → f.at < f.end
      → op_there p f.left f.at o f.number (env_at (cells_of p input old.bound) f.env)
      ≡ (spent_first (one_step c) x, env_at (cells_of p input old.bound) f.env)
      → machine_gives p input old
      ≡ spent_first (one_step c) (over p input old.bound (frame.Ops (past f) ∷ old.below) old.texts x)
  op_spends old f o c x top is low means =
      machine_is old (frame.Ops f) old.below old.texts old.bound top refl refl refl
      ∙ (acted p input old.bound old.below old.texts f o (spent_first (one_step c) x) is low means
      ∙ over_first p input (frame.Ops (past f) ∷ old.below) old.bound old.texts (one_step c) x)

  pub silent_in : (old new : Machine) (f : Ahead) (o : Op) (c : ℕ) (x : Outcome) (before after : ℕ)
      → old.top ≡ frame.Ops f → slice_get p.ops f.at ≡ Some o → f.at < f.end
      → op_there p f.left f.at o f.number (env_at (cells_of p input old.bound) f.env)
      ≡ (spent_first (one_step c) x, env_at (cells_of p input old.bound) f.env)
      → after ≡ before + c → GoesIn p input old new f x → Silent p input old new before after
  silent_in old new f o c x before after top is low means cost goes =
      let quiet : pending p new.top ≡ 0 = goes.quiet in (
        one_step c,
        record {
          same = op_spends old f o c x top is low means ∙ ap (spent_first (one_step c)) (sym goes.gives);
          cost = cost;
          falls = omega (arith, quiet);
          fits = goes.fits;
        },
      )

  pub same_gives : (old new : Machine) → IsSame old new → machine_gives p input new ≡ machine_gives p input old
  same_gives old new same =
      machine_is new old.top old.below old.texts old.bound same.top same.below same.texts same.bound

  -- a machine by its parts fits
  pub fits_is : (m : Machine) (top : Frame) (below : List Frame) (bound : List Bound) → m.top ≡ top → m.below ≡ below
      → m.bound ≡ bound → FramesFit (top ∷ below) (length bound) → MachineFits m
  fits_is m top below bound a b c fits =
      let e : ((m.top ∷ m.below) ≡ (top ∷ below)) =
      ap (λ (t : Frame). t ∷ m.below) a ∙ ap (λ (fs : List Frame). top ∷ fs) b in
      subst (λ (fs : List Frame). FramesFit fs (length m.bound)) (sym e)
      (subst (λ (bs : List Bound). FramesFit (top ∷ below) (length bs)) (sym c) fits)

  pub fits_top : (m : Machine) (top : Frame) → m.top ≡ top → MachineFits m
      → FramesFit (top ∷ m.below) (length m.bound)
  fits_top m top e fits = subst (λ (t : Frame). FramesFit (t ∷ m.below) (length m.bound)) e fits

  pub same_fits : (old new : Machine) → IsSame old new → MachineFits old → MachineFits new
  same_fits old new same fits = fits_is new old.top old.below old.bound same.top same.below same.bound fits

  pub stays_in : (old new : Machine) (f : Ahead) (o : Op) (c : ℕ) (x : Outcome) (before after : ℕ)
      → old.top ≡ frame.Ops f → slice_get p.ops f.at ≡ Some o → f.at < f.end
      → op_there p f.left f.at o f.number (env_at (cells_of p input old.bound) f.env)
      ≡ (spent_first (one_step c) x, env_at (cells_of p input old.bound) f.env)
      → IsWithin c before after → MachineFits old → IsSame old new → Stays p input old new before after
  stays_in old new f o c x before after top is low means cost fits same =
      let room : c ≤ (first_spent (machine_gives p input old)).cost =
      within_first c (machine_gives p input old) _ (op_spends old f o c x top is low means) in
      record {
        same = same_gives old new same;
        low = cost.0;
        high = omega (arith, room, cost.1);
        fits = same_fits old new same fits;
      }

  -- ---- going into a block

  pub into_none : (old new : Machine) (f : Ahead) → old.top ≡ frame.Ops f → MachineFits old
      → new.top ≡ frame.Ops (past f) → new.below ≡ old.below → new.texts ≡ old.texts
      → new.bound ≡ old.bound → GoesIn p input old new f gives_nothing
  into_none old new f old_top fits top below texts bound = record {
    gives = machine_is new (frame.Ops (past f)) old.below old.texts old.bound top below texts bound;
    fits =
        fits_is new (frame.Ops (past f)) old.below old.bound top below bound
        (fits_top old (frame.Ops f) old_top fits);
    quiet = ap (pending p) top;
  }

  pub into_block : (old new : Machine) (f : Ahead) (b : Block) (n : ℤ) → old.top ≡ frame.Ops f → MachineFits old
      → new.top ≡ frame.Ops (child_at f b n (length old.bound)) → new.below ≡ frame.Ops (past f) ∷ old.below
      → new.texts ≡ old.texts → new.bound ≡ old.bound
      → GoesIn p input old new f
      (block_gives (means_before p f.left f.at) b n (env_at (cells_of p input old.bound) f.env))
  into_block old new f b n old_top fits top below texts bound = record {
    gives =
        machine_is new (frame.Ops (child_at f b n (length old.bound))) (frame.Ops (past f) ∷ old.below) old.texts
        old.bound top below texts bound
        ∙ (entered p input old.bound old.bound (frame.Ops (past f) ∷ old.below) old.texts
        (child_at f b n (length old.bound)) (take-length old.bound)
        ∙ ap (λ (x : Outcome). over p input old.bound (frame.Ops (past f) ∷ old.below) old.texts x)
        (sym (block_within p f.left f.at b n (env_at (cells_of p input old.bound) f.env))));
    fits =
        let old_fits : FramesFit (frame.Ops f ∷ old.below) (length old.bound) = fits_top old
        (frame.Ops f) old_top fits in
        fits_is new (frame.Ops (child_at f b n (length old.bound)))
        (frame.Ops (past f) ∷ old.below) old.bound top below
        bound (old_fits.0, (let e : length old.bound ≤ length old.bound = omega arith in e), old_fits);
    quiet = ap (pending p) top;
  }

  pub same_self : (m : Machine) → IsSame m m
  same_self m = record {
    top = refl;
    below = refl;
    texts = refl;
    bound = refl;
  }
