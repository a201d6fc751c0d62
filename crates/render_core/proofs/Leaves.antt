-- The end of a frame.
use Rattle.std.proofs.Common.{◌≡◌, ℕ, zero, suc, ◌+◌, ◌≤◌, ◌<◌, List, [], ◌∷◌}
use Rattle.std.proofs.Common.{length, take, refl, sym, ap, ◌∙◌, arith, subst}
use Rattle.std.specs.List.{slice_get}
use Rattle.std.proofs.lemmas.List.{length-take-le}
use Rattle.soy_tree.specs.Values as values
use Rattle.soy_pieces.specs.Outcome.{Outcome, RunEnds, WholeRun, continued_by, gives_nothing, spent_first}
use Rattle.soy_pieces.proofs.Outcomes.{first_none}
use Rattle.template_ir.specs.Run.{one_step}
use Rattle.template_ir.specs.declared.op.Op.{Op}
use Rattle.template_ir.specs.declared.program.ProgramParts.{ProgramParts}
use Rattle.render_core.specs.Frames.{FramesFit, IsPlainFrame, MachineFits, ended, frame_gives, frame_over}
use Rattle.render_core.specs.Frames.{machine_gives}
use Rattle.render_core.specs.Frames.{mark_of, over, texts_past}
use Rattle.render_core.specs.Rest.{IsWhole}
use Rattle.render_core.specs.Stepping.{Silent, given_count, most_given, pending, pending_text, weight}
use Rattle.render_core.specs.declared.frame.Frame.{Frame}
use Rattle.render_core.specs.declared.frame.Frame.TheVariants as frame
use Rattle.render_core.specs.declared.frame.Purpose.{Purpose}
use Rattle.render_core.specs.declared.frame.Purpose.TheVariants as purpose
use Rattle.render_core.specs.declared.held.Bound.{Bound}
use Rattle.render_core.specs.declared.stack.Machine.{Machine}
use Rattle.render_core.proofs.Moves.{fits_is, machine_is}
use Rattle.render_core.proofs.Overs.{over_first}

-- ---- what is pending

given_most : (os : List Op) (n : ℕ) → given_count (slice_get os n) ≤ most_given os
given_most [] n = omega arith
given_most (o ∷ os) zero = omega arith
given_most (o ∷ os) (suc n) = let h = given_most os n in omega (arith, h)

text_least : (p : ProgramParts) (at : ℕ) (what : Purpose) → pending_text p at what < weight p
text_least p at purpose.Bind = omega arith
text_least p at purpose.Show = omega arith
text_least p at (purpose.Hand h) = let m = given_most p.ops at in omega (arith, m)

pub pending_least : (p : ProgramParts) (f : Frame) → pending p f < weight p
pending_least p (frame.Ops f) = omega arith
pending_least p (frame.Turns r) = omega arith
pending_least p (frame.Gather f what) = text_least p f.at what
pending_least p (frame.Show f at) = omega arith
pending_least p (frame.Call f h) = let m = given_most p.ops f.at in omega (arith, m)

-- ---- leaving

module _ (p : ProgramParts) (input : values.Value) where
  pub plain_over : (bound : List Bound) (f : Frame) (texts : List (List ℕ)) (o : Outcome) → IsPlainFrame f
      → frame_over p input bound f texts o ≡ continued_by o (frame_gives p input bound f)
  plain_over bound (frame.Ops f) texts o plain = refl
  plain_over bound (frame.Turns r) texts o plain = refl
  plain_over bound (frame.Gather f what) texts o plain = absurd plain
  plain_over bound (frame.Show f at) texts o plain = refl
  plain_over bound (frame.Call f h) texts o plain = refl

  pub plain_past : (f : Frame) (texts : List (List ℕ)) → IsPlainFrame f → texts_past p input f texts ≡ texts
  plain_past (frame.Ops f) texts plain = refl
  plain_past (frame.Turns r) texts plain = refl
  plain_past (frame.Gather f what) texts plain = absurd plain
  plain_past (frame.Show f at) texts plain = refl
  plain_past (frame.Call f h) texts plain = refl

  -- a frame that doesn't gather comes before those below it
  pub plain_top : (bound : List Bound) (f : Frame) (fs : List Frame) (texts : List (List ℕ)) → IsPlainFrame f
      → over p input bound (f ∷ fs) texts gives_nothing
      ≡ over p input (take (mark_of f) bound) fs texts (frame_gives p input bound f)
  plain_top bound f fs texts plain =
      ap (λ (ts : List (List ℕ)). over p input (take (mark_of f) bound) fs ts
      (frame_over p input bound f texts gives_nothing))
      (plain_past f texts plain)
      ∙ ap (λ (o : Outcome). over p input (take (mark_of f) bound) fs texts o)
      (plain_over bound f texts gives_nothing plain ∙ first_none (frame_gives p input bound f))

  ended_whole : (texts : List (List ℕ)) → IsWhole (ended p input texts (RunEnds (one_step 0) WholeRun))
  ended_whole [] = (refl, refl)
  ended_whole (text ∷ texts) = (refl, refl)

  pub left_last : (old : Machine) → IsPlainFrame old.top → old.below ≡ []
      → frame_gives p input old.bound old.top ≡ RunEnds (one_step 0) WholeRun
      → IsWhole (machine_gives p input old)
  left_last old plain none gives =
      let e : machine_gives p input old ≡ ended p input old.texts (RunEnds (one_step 0) WholeRun) =
      plain_top old.bound old.top old.below old.texts plain
      ∙ (ap (λ (fs : List Frame). over p input (take (mark_of old.top) old.bound) fs old.texts
      (frame_gives p input old.bound old.top)) none
      ∙ ap (ended p input old.texts) gives) in
      subst IsWhole (sym e) (ended_whole old.texts)

  pub left_frame : (old new : Machine) (f : Frame) (fs : List Frame) (n : ℕ) → IsPlainFrame old.top
      → old.below ≡ f ∷ fs → MachineFits old
      → frame_gives p input old.bound old.top ≡ RunEnds (one_step 0) WholeRun
      → new.top ≡ f → new.below ≡ fs → new.texts ≡ old.texts
      → new.bound ≡ take (mark_of old.top) old.bound → Silent p input old new n n
  left_frame old new f fs n plain is fits gives top below texts bound =
      let kept : List Bound = take (mark_of old.top) old.bound in
      let fit : FramesFit (old.top ∷ old.below) (length old.bound) = fits in
      let deep : FramesFit (f ∷ fs) (mark_of old.top) =
      subst (λ (gs : List Frame). FramesFit gs (mark_of old.top)) is fit.2 in
      let size : length kept ≡ mark_of old.top = length-take-le (mark_of old.top) old.bound fit.1 in
      let least = pending_least p f in
      let quiet : pending p new.top ≡ pending p f = ap (pending p) top in (
        one_step 0,
        record {
          same =
              plain_top old.bound old.top old.below old.texts plain
              ∙ (ap (λ (gs : List Frame). over p input kept gs old.texts (frame_gives p input old.bound old.top))
              is
              ∙ (ap (λ (o : Outcome). over p input kept (f ∷ fs) old.texts o) gives
              ∙ (over_first p input (f ∷ fs) kept old.texts (one_step 0) gives_nothing
              ∙ ap (spent_first (one_step 0))
              (sym (machine_is p input new f fs old.texts kept top below texts bound)))));
          cost = (let e : n ≡ n + 0 = omega arith in e);
          falls = omega (arith, least, quiet);
          fits = fits_is p input new f fs kept top below bound (subst (λ k. FramesFit (f ∷ fs) k) (sym size) deep);
        },
      )
