-- Texts that are gathered.
use Rattle.std.proofs.Common.{◌≡◌, ℕ, ◌+◌, ◌≤◌, ◌<◌, pos, List, [], ◌∷◌, ◌++◌, Some, length, take, refl, sym}
use Rattle.std.proofs.Common.{ap, ◌∙◌, append_assoc, arith}
use Rattle.std.specs.List.{slice_get}
use Rattle.std.proofs.Math.Seq.{take-length}
use Rattle.soy_base.specs.declared.kind.Kind.TheVariants as kind
use Rattle.soy_tree.specs.Types.{Name}
use Rattle.soy_rules.specs.Val.{Known}
use Rattle.soy_tree.specs.Values.{StringValue}
use Rattle.soy_tree.specs.Values as values
use Rattle.soy_pieces.specs.Giving.{RunEnv}
use Rattle.template_ir.specs.Run.{block_gives, one_step}
use Rattle.template_ir.specs.declared.op.Block.{Block}
use Rattle.template_ir.specs.declared.op.Op.TheVariants as op
use Rattle.template_ir.specs.declared.program.ProgramParts.{ProgramParts}
use Rattle.render_core.specs.Frames.{FramesFit, MachineFits, after_text, child_at, means_before}
use Rattle.render_core.specs.Frames.{ops_ahead, over, past}
use Rattle.render_core.specs.Stepping.{Silent, pending}
use Rattle.render_core.specs.Texts.{innermost, past_innermost}
use Rattle.render_core.specs.Variables.{Cell, cells_of, env_at}
use Rattle.render_core.specs.declared.frame.Ahead.{Ahead}
use Rattle.render_core.specs.declared.frame.Frame.{Frame}
use Rattle.render_core.specs.declared.frame.Frame.TheVariants as frame
use Rattle.render_core.specs.declared.frame.Purpose.{Purpose}
use Rattle.render_core.specs.declared.frame.Purpose.TheVariants as purpose
use Rattle.render_core.specs.declared.held.Bound.{Bound}
use Rattle.render_core.specs.declared.stack.Machine.{Machine}
use Rattle.render_core.proofs.Lets.{named_by}
use Rattle.render_core.proofs.Machines.{bound_by, entered}
use Rattle.render_core.proofs.Moves.{fits_is, fits_top, machine_is}
use Rattle.render_core.proofs.Ops.{block_within}
use Rattle.render_core.proofs.Overs.{over_first}
use Rattle.std.proofs.lemmas.List.{append-nil}
use Rattle.soy_base.specs.Piece.{Static, Value}
use Rattle.soy_pieces.specs.Meaning.{joined_pieces}
use Rattle.soy_pieces.specs.Outcome.{GivesPiece, Outcome, RunEnds, StopsAt, WholeRun, continued_by, gathered}
use Rattle.soy_pieces.specs.Outcome.{gives_nothing, pieces_of_outcome, spent_first}
use Rattle.soy_pieces.proofs.Outcomes.{first_followed, first_none, none_after}

-- what is gathered and then goes on with the joined pieces is gathered before what goes on
pub gathered_whole : (text : List ℕ) (o : Outcome) (next : List ℕ → Outcome)
    → continued_by (gathered text o (λ whole. gives_nothing)) (next (text ++ joined_pieces (pieces_of_outcome o)))
    ≡ gathered text o next
gathered_whole text (RunEnds a WholeRun) next =
    ap (λ s. spent_first s (next (text ++ []))) (none_after a)
    ∙ ap (λ t. spent_first a (next t)) (append-nil text)
gathered_whole text (RunEnds a (StopsAt call)) next = refl
gathered_whole text (GivesPiece a (Static more) o) next =
    first_followed a (gathered (text ++ more) o (λ whole. gives_nothing)) _
    ∙ ap (spent_first a)
    (ap (λ t. continued_by (gathered (text ++ more) o (λ whole. gives_nothing)) (next t))
    (sym (append_assoc text more (joined_pieces (pieces_of_outcome o))))
    ∙ gathered_whole (text ++ more) o next)
gathered_whole text (GivesPiece a (Value more) o) next =
    first_followed a (gathered (text ++ more) o (λ whole. gives_nothing)) _
    ∙ ap (spent_first a)
    (ap (λ t. continued_by (gathered (text ++ more) o (λ whole. gives_nothing)) (next t))
    (sym (append_assoc text more (joined_pieces (pieces_of_outcome o))))
    ∙ gathered_whole (text ++ more) o next)

module _ (p : ProgramParts) (input : values.Value) where
  -- ---- the beginning of a text

  pub gathers : (bound : List Bound) (fs : List Frame) (texts : List (List ℕ)) (f : Ahead) (what : Purpose) (b : Block)
      → over p input bound (frame.Ops (child_at f b (pos 0) (length bound)) ∷ frame.Gather f what ∷ fs) ([] ∷ texts)
      gives_nothing
      ≡ over p input (take f.mark bound) fs texts
      (gathered [] (block_gives (means_before p f.left f.at) b (pos 0) (env_at (cells_of p input bound) f.env))
      (after_text p (cells_of p input bound) f what))
  gathers bound fs texts f what b =
      entered p input bound bound (frame.Gather f what ∷ fs) ([] ∷ texts) (child_at f b (pos 0) (length bound))
      (take-length bound)
      ∙ ap (λ (o : Outcome). over p input (take f.mark bound) fs texts
      (gathered [] o (after_text p (cells_of p input bound) f what)))
      (sym (block_within p f.left f.at b (pos 0) (env_at (cells_of p input bound) f.env)))

  pub fits_gather : (bound : List Bound) (fs : List Frame) (f : Ahead) (b : Block)
      → FramesFit (frame.Ops f ∷ fs) (length bound) → f.at < f.end
      → FramesFit (frame.Ops (child_at f b (pos 0) (length bound)) ∷ frame.Gather f purpose.Bind ∷ fs) (length bound)
  fits_gather bound fs f b fits low =
      let e : length bound ≤ length bound = omega arith in (fits.0, e, ((low, fits.0), fits.1, fits.2))

  pub text_let : (old new : Machine) (f : Ahead) (name : Name) (b : Block) (n : ℕ) → old.top ≡ frame.Ops f
      → MachineFits old → slice_get p.ops f.at ≡ Some (op.LetBlock name kind.Text b) → f.at < f.end
      → new.top ≡ frame.Ops (child_at f b (pos 0) (length old.bound))
      → new.below ≡ frame.Gather f purpose.Bind ∷ old.below → new.texts ≡ [] ∷ old.texts
      → new.bound ≡ old.bound → Silent p input old new n n
  text_let old new f name b n old_top fits is low top below texts bound =
      let cells : List Cell = cells_of p input old.bound in
      let env : RunEnv = env_at cells f.env in
      let o : Outcome = block_gives (means_before p f.left f.at) b (pos 0) env in
      let g : Outcome = gathered [] o (λ whole. gives_nothing) in
      let joined : List ℕ = joined_pieces (pieces_of_outcome o) in
      let low_frames : Outcome → Outcome = over p input (take f.mark old.bound) old.below old.texts in
      let old_fits : FramesFit (frame.Ops f ∷ old.below) (length old.bound)
      = fits_top p input old (frame.Ops f) old_top fits in (
        one_step 0,
        record {
          same =
              machine_is p input old (frame.Ops f) old.below old.texts old.bound old_top refl refl refl
              ∙ (bound_by p input old.bound old.below old.texts f (op.LetBlock name kind.Text b)
              (spent_first (one_step 0) g) ((name, Known (StringValue joined)) ∷ env) is low refl
              ∙ (ap low_frames
              (first_followed (one_step 0) g (ops_ahead p (past f) ((name, Known (StringValue joined)) ∷ env)))
              ∙ (over_first p input old.below (take f.mark old.bound) old.texts (one_step 0) _
              ∙ ap (spent_first (one_step 0))
              (ap (λ (m : Name). low_frames
              (continued_by g (ops_ahead p (past f) ((m, Known (StringValue joined)) ∷ env))))
              (named_by p f.at (op.LetBlock name kind.Text b) name is refl)
              ∙ (ap low_frames (gathered_whole [] o (after_text p cells f purpose.Bind))
              ∙ (sym (gathers old.bound old.below old.texts f purpose.Bind b)
              ∙ sym (machine_is p input new (frame.Ops (child_at f b (pos 0) (length old.bound)))
              (frame.Gather f purpose.Bind ∷ old.below) ([] ∷ old.texts) old.bound top below texts bound)))))));
          cost = (let h : n ≡ n + 0 = omega arith in h);
          falls = (let q : pending p new.top ≡ 0 = ap (pending p) top in omega (arith, q));
          fits =
              fits_is p input new (frame.Ops (child_at f b (pos 0) (length old.bound)))
              (frame.Gather f purpose.Bind ∷ old.below) old.bound top below bound
              (fits_gather old.bound old.below f b old_fits low);
        },
      )

  -- ---- the end of a text

  pub text_over : (bound : List Bound) (fs : List Frame) (texts : List (List ℕ)) (f : Ahead) (what : Purpose)
      → over p input bound (frame.Gather f what ∷ fs) texts gives_nothing
      ≡ over p input (take f.mark bound) fs (past_innermost texts)
      (after_text p (cells_of p input bound) f what (innermost texts))
  text_over bound fs [] f what =
      ap (λ (o : Outcome). over p input (take f.mark bound) fs [] o)
      (first_none (after_text p (cells_of p input bound) f what []))
  text_over bound fs (text ∷ texts) f what =
      ap (λ (o : Outcome). over p input (take f.mark bound) fs texts o)
      (first_none (after_text p (cells_of p input bound) f what text))
