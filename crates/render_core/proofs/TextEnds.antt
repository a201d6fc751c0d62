-- The end of a text that was gathered: it is bound, and what it is for comes next.
use Rattle.std.proofs.Common.{◌≡◌, ℕ, ◌+◌, ◌-◌, ◌≤◌, ◌<◌, List, ◌∷◌, length, take, refl, sym, ap, ◌∙◌}
use Rattle.std.proofs.Common.{arith, subst}
use Rattle.std.specs.List.{slice_get}
use Rattle.soy_tree.specs.Values as values
use Rattle.soy_pieces.specs.Giving.{RunEnv}
use Rattle.soy_pieces.specs.Outcome.{Outcome, none_spent}
use Rattle.soy_pieces.proofs.Outcomes.{first_none}
use Rattle.template_ir.specs.declared.program.ProgramParts.{ProgramParts}
use Rattle.render_core.specs.Frames.{FrameWithin, FramesFit, IsPlainFrame, MachineFits, PurposeWithin, after_text}
use Rattle.render_core.specs.Frames.{call_of, frame_gives, machine_gives, mark_of, ops_ahead, over, past, past_with}
use Rattle.render_core.specs.Frames.{shown_by, text_bound}
use Rattle.render_core.specs.Linked.{Adds}
use Rattle.render_core.specs.Stepping.{IsSame, Silent, Stays, given_count, handed_past, pending, pending_text}
use Rattle.render_core.specs.Stepping.{text_next, text_var}
use Rattle.render_core.specs.Texts.{innermost, past_innermost}
use Rattle.render_core.specs.Variables.{cells_of, env_at}
use Rattle.render_core.specs.declared.frame.Ahead.{Ahead}
use Rattle.render_core.specs.declared.frame.Frame.{Frame}
use Rattle.render_core.specs.declared.frame.Frame.TheVariants as frame
use Rattle.render_core.specs.declared.frame.Handing.{Handing}
use Rattle.render_core.specs.declared.frame.Purpose.{Purpose}
use Rattle.render_core.specs.declared.frame.Purpose.TheVariants as purpose
use Rattle.render_core.specs.declared.held.Bound.{Bound}
use Rattle.render_core.specs.declared.stack.Machine.{Machine}
use Rattle.render_core.proofs.Adds.{adds_agree, adds_env, adds_length, adds_take, adds_text}
use Rattle.render_core.proofs.Gathers.{text_over}
use Rattle.render_core.proofs.Leaves.{plain_top}
use Rattle.render_core.proofs.Moves.{fits_is, fits_top, machine_is, same_fits, same_gives}

purpose_low : (n : ℕ) (f : Ahead) (what : Purpose) → PurposeWithin n f what → f.at < f.end
purpose_low n f purpose.Bind h = h.0
purpose_low n f purpose.Show h = h.0
purpose_low n f (purpose.Hand g) h = h.0

module _ (p : ProgramParts) (input : values.Value) where
  -- a text is gathered for an op that its block still has
  pub gather_low : (old : Machine) (f : Ahead) (what : Purpose) → old.top ≡ frame.Gather f what → MachineFits old
      → f.at < f.end
  gather_low old f what top fits =
      purpose_low (length old.bound) f what (fits_top p input old (frame.Gather f what) top fits).0

  -- nothing is spent where nothing is changed
  pub same_stays : (old new : Machine) (n : ℕ) → IsSame old new → MachineFits old → Stays p input old new n n
  same_stays old new n same fits = record {
    same = same_gives p input old new same;
    low = (let h : n ≤ n = omega arith in h);
    high = omega arith;
    fits = same_fits p input old new same fits;
  }

  -- a frame that gives what comes after the text, with one more variable
  text_goes : (old new : Machine) (f : Ahead) (what : Purpose) (next : Frame) (b : Bound) (n : ℕ)
      → old.top ≡ frame.Gather f what → MachineFits old → new.top ≡ next → new.below ≡ old.below
      → new.texts ≡ past_innermost old.texts → Adds p b old.bound new.bound → IsPlainFrame next
      → mark_of next ≡ f.mark
      → frame_gives p input new.bound next
      ≡ after_text p (cells_of p input old.bound) f what (innermost old.texts)
      → FrameWithin (length old.bound + 1) next → pending p next < pending_text p f.at what
      → Silent p input old new n n
  text_goes old new f what next b n old_top fits top below texts adds plain mark gives within less =
      let len : ℕ = length old.bound in
      let rest : List (List ℕ) = past_innermost old.texts in
      let o : Outcome = frame_gives p input new.bound next in
      let old_fits : FramesFit (frame.Gather f what ∷ old.below) len
      = fits_top p input old (frame.Gather f what) old_top fits in
      let more : length new.bound ≡ len + 1 = adds_length p b old.bound new.bound adds in (
        none_spent,
        record {
          same =
              machine_is p input old (frame.Gather f what) old.below old.texts old.bound old_top refl refl refl
              ∙ (text_over p input old.bound old.below old.texts f what
              ∙ (ap (λ (x : Outcome). over p input (take f.mark old.bound) old.below rest x) (sym gives)
              ∙ (sym (machine_is p input new next old.below rest new.bound top below texts refl
              ∙ (plain_top p input new.bound next old.below rest plain
              ∙ (ap (λ m. over p input (take m new.bound) old.below rest o) mark
              ∙ ap (λ (bs : List Bound). over p input bs old.below rest o)
              (adds_take p b old.bound new.bound adds f.mark old_fits.1))))
              ∙ sym (first_none (machine_gives p input new)))));
          cost = (let h : n ≡ n + 0 = omega arith in h);
          falls =
              (let q : pending p new.top ≡ pending p next = ap (pending p) top in
              let g : pending p old.top ≡ pending_text p f.at what = ap (pending p) old_top in
              omega (arith, q, g, less));
          fits =
              fits_is p input new next old.below new.bound top below refl (
                subst (λ k. FrameWithin k next) (sym more) within,
                (let m = old_fits.1 in let h : mark_of next ≤ length new.bound = omega (arith, more, m, mark) in h),
                subst (λ k. FramesFit old.below k) (sym mark) old_fits.2,
              );
        },
      )

  text_bind : (old new : Machine) (f : Ahead) (n : ℕ) → old.top ≡ frame.Gather f purpose.Bind → MachineFits old
      → new.top ≡ text_next f purpose.Bind (length old.bound) → new.below ≡ old.below
      → new.texts ≡ past_innermost old.texts
      → Adds p (text_var f purpose.Bind (innermost old.texts)) old.bound new.bound → Silent p input old new n n
  text_bind old new f n old_top fits top below texts adds =
      let b : Bound = text_var f purpose.Bind (innermost old.texts) in
      let len : ℕ = length old.bound in
      text_goes old new f purpose.Bind (frame.Ops (past_with f (len + 1))) b n old_top fits top below texts adds tt
      refl
      (ap (λ (env : RunEnv). ops_ahead p (past f) env) (adds_env p b old.bound new.bound adds input (len + 1) refl))
      (let h : len + 1 ≤ len + 1 = omega arith in h) (let h : 0 < 1 = omega arith in h)

  text_show : (old new : Machine) (f : Ahead) (n : ℕ) → old.top ≡ frame.Gather f purpose.Show → MachineFits old
      → new.top ≡ text_next f purpose.Show (length old.bound) → new.below ≡ old.below
      → new.texts ≡ past_innermost old.texts
      → Adds p (text_var f purpose.Show (innermost old.texts)) old.bound new.bound → Silent p input old new n n
  text_show old new f n old_top fits top below texts adds =
      let b : Bound = text_var f purpose.Show (innermost old.texts) in
      let len : ℕ = length old.bound in
      let old_fits : FramesFit (frame.Gather f purpose.Show ∷ old.below) len
      = fits_top p input old (frame.Gather f purpose.Show) old_top fits in
      text_goes old new f purpose.Show (frame.Show f len) b n old_top fits top below texts adds tt refl
      (ap (λ (env : RunEnv). shown_by p f env (text_bound (slice_get new.bound len)))
      (adds_agree p b old.bound new.bound adds input f.env old_fits.0.1)
      ∙ ap (λ (text : List ℕ). shown_by p f (env_at (cells_of p input old.bound) f.env) text)
      (adds_text p b old.bound new.bound adds)) (
        old_fits.0.0,
        (let a = old_fits.0.1 in let h : f.env ≤ len + 1 = omega (arith, a) in h),
        (let h : len < len + 1 = omega arith in h),
      )
      (let h : 1 < 2 = omega arith in h)

  text_hand : (old new : Machine) (f : Ahead) (g : Handing) (n : ℕ) → old.top ≡ frame.Gather f (purpose.Hand g)
      → MachineFits old → new.top ≡ text_next f (purpose.Hand g) (length old.bound) → new.below ≡ old.below
      → new.texts ≡ past_innermost old.texts
      → Adds p (text_var f (purpose.Hand g) (innermost old.texts)) old.bound new.bound → Silent p input old new n n
  text_hand old new f g n old_top fits top below texts adds =
      let b : Bound = text_var f (purpose.Hand g) (innermost old.texts) in
      let len : ℕ = length old.bound in
      let old_fits : FramesFit (frame.Gather f (purpose.Hand g) ∷ old.below) len
      = fits_top p input old (frame.Gather f (purpose.Hand g)) old_top fits in
      let w = old_fits.0 in
      let around : f.env ≤ len = omega (arith, w.1, w.3) in
      let given : ℕ = given_count (slice_get p.ops f.at) in
      text_goes old new f (purpose.Hand g) (frame.Call f (handed_past g len)) b n old_top fits top below texts adds tt
      refl
      (ap (λ (env : RunEnv). call_of p f (g.next + 1) env (env_at (cells_of p input new.bound) (len + 1))
      (slice_get p.ops f.at)) (adds_agree p b old.bound new.bound adds input f.env around)
      ∙ ap (λ (inner : RunEnv). call_of p f (g.next + 1) (env_at (cells_of p input old.bound) f.env) inner
      (slice_get p.ops f.at)) (adds_env p b old.bound new.bound adds input (len + 1) refl)) (
        w.0,
        w.1,
        w.2,
        (let a = w.3 in let h : g.mark ≤ len + 1 = omega (arith, a) in h),
        (let h : len + 1 ≤ len + 1 = omega arith in h),
      )
      (let h : 1 + (given - (g.next + 1)) < 2 + (given - (g.next + 1)) = omega arith in h)

  pub text_ends : (old new : Machine) (f : Ahead) (what : Purpose) (n : ℕ) → old.top ≡ frame.Gather f what
      → MachineFits old → new.top ≡ text_next f what (length old.bound) → new.below ≡ old.below
      → new.texts ≡ past_innermost old.texts
      → Adds p (text_var f what (innermost old.texts)) old.bound new.bound → Silent p input old new n n
  text_ends old new f purpose.Bind n old_top fits top below texts adds =
      text_bind old new f n old_top fits top below texts adds
  text_ends old new f purpose.Show n old_top fits top below texts adds =
      text_show old new f n old_top fits top below texts adds
  text_ends old new f (purpose.Hand g) n old_top fits top below texts adds =
      text_hand old new f g n old_top fits top below texts adds
