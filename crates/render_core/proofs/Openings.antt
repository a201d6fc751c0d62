-- The print of a text that was gathered, and the opening of a call: what comes before the frame past the op.
use Rattle.std.proofs.Common.{◌≡◌, ℕ, suc, ◌+◌, ◌-◌, ◌*◌, ◌≤◌, ◌<◌, List, [], ◌∷◌, ◌++◌, Option, Some, None}
use Rattle.std.proofs.Common.{Result, Ok, Err}
use Rattle.std.proofs.Common.{length, take, refl, sym, ap, ◌∙◌, arith, subst}
use Rattle.std.specs.List.{slice_get}
use Rattle.soy_base.specs.declared.direction.Dir.{Dir}
use Rattle.soy_base.specs.declared.kind.Kind.{Kind}
use Rattle.soy_base.specs.declared.kind.Kind.TheVariants as kind
use Rattle.soy_base.specs.declared.memory.OutOfMemory.{OutOfMemory}
use Rattle.soy_base.specs.declared.place.Place.{Place}
use Rattle.soy_base.specs.declared.place.ValueClass.{ValueClass}
use Rattle.soy_base.specs.Piece.{Static, Value}
use Rattle.soy_rules.specs.Val.{value_text}
use Rattle.soy_tree.specs.Values.{NullValue, StringValue}
use Rattle.soy_tree.specs.Values as values
use Rattle.soy_pieces.specs.Giving.{RunEnv}
use Rattle.soy_pieces.specs.Outcome.{GivesPiece, Outcome, RunEnds, StopsAt, WholeRun, continued_by}
use Rattle.soy_pieces.specs.Outcome.{end_of_outcome}
use Rattle.soy_pieces.specs.Outcome.{gathered, none_spent, pieces_of_outcome, spent_first}
use Rattle.soy_pieces.specs.Site.{Site}
use Rattle.soy_pieces.proofs.Outcomes.{first_followed, first_none}
use Rattle.template_ir.specs.Run.{called_at, kind_of_template, one_step, opened_gives, value_at}
use Rattle.template_ir.specs.Run.{value_gives}
use Rattle.template_ir.specs.ViewOps.{view_callee, view_program, view_routine}
use Rattle.template_ir.specs.declared.op.Callee.{Callee}
use Rattle.template_ir.specs.declared.op.Op.{Op}
use Rattle.template_ir.specs.declared.op.Op.TheVariants as op
use Rattle.template_ir.specs.declared.program.ProgramParts.{ProgramParts}
use Rattle.template_ir.specs.declared.program.Routine.{Routine}
use Rattle.render_core.specs.Calling.{Opens, OpensRoutine, called_child, callee_of}
use Rattle.render_core.specs.Forms.{form_at}
use Rattle.render_core.specs.Frames.{FramesFit, IsPlainFrame, MachineFits, call_of, call_place, frame_gives}
use Rattle.render_core.specs.Frames.{machine_gives}
use Rattle.render_core.specs.Frames.{mark_of, ops_ahead, over, past, shown_by, text_bound}
use Rattle.render_core.specs.Shows.{ShowsValue}
use Rattle.render_core.specs.Stepping.{Does, GaveForm, GoesIn, IsBlockKind, Output, Stepped}
use Rattle.render_core.specs.Stepping.{SteppedInto, output, pending}
use Rattle.render_core.specs.Stepping.{weight}
use Rattle.render_core.specs.Variables.{cells_of, env_at}
use Rattle.render_core.specs.declared.frame.Ahead.{Ahead}
use Rattle.render_core.specs.declared.frame.Frame.{Frame}
use Rattle.render_core.specs.declared.frame.Frame.TheVariants as frame
use Rattle.render_core.specs.declared.frame.Handing.{Handing}
use Rattle.render_core.specs.declared.frame.Purpose.TheVariants as purpose
use Rattle.render_core.specs.declared.held.Bound.{Bound}
use Rattle.render_core.specs.declared.stack.Machine.{Machine}
use Rattle.render_core.specs.declared.stack.Step.{Step}
use Rattle.render_core.specs.declared.stack.Step.TheVariants as step
use Rattle.render_core.proofs.Calls.{hand_last, kind_seen, kind_there, opened_body, stopped}
use Rattle.render_core.proofs.Cells.{env_agree}
use Rattle.render_core.proofs.Gives.{gave_next}
use Rattle.render_core.proofs.Handings.{below_more}
use Rattle.render_core.proofs.Leaves.{plain_top}
use Rattle.render_core.proofs.Machines.{entered}
use Rattle.render_core.proofs.Moves.{fits_is, fits_top, machine_is}
use Rattle.render_core.proofs.Ops.{get_map_none, take_twice}
use Rattle.render_core.proofs.Overs.{over_stop}
use Rattle.render_core.proofs.TextEnds.{same_stays}

-- ---- outcomes

-- what goes on after a text is given goes on after what is given the text
gathered_then : (text : List ℕ) (o : Outcome) (next : List ℕ → Outcome) (rest : Outcome)
    → continued_by (gathered text o next) rest ≡ gathered text o (λ whole. continued_by (next whole) rest)
gathered_then text (RunEnds a WholeRun) next rest = first_followed a (next text) rest
gathered_then text (RunEnds a (StopsAt call)) next rest = refl
gathered_then text (GivesPiece a (Static more) o) next rest =
    first_followed a (gathered (text ++ more) o next) rest
    ∙ ap (spent_first a) (gathered_then (text ++ more) o next rest)
gathered_then text (GivesPiece a (Value more) o) next rest =
    first_followed a (gathered (text ++ more) o next) rest
    ∙ ap (spent_first a) (gathered_then (text ++ more) o next rest)

-- a call of this kind gives its template's outcome
opened_block : (context : Dir) (point : Place) (k : Kind) (o : Outcome) → IsBlockKind k
    → opened_gives context point (Some k) o ≡ o
opened_block context point kind.Html o h = refl
opened_block context point kind.Attributes o h = refl
opened_block context point kind.Text o h = absurd h

-- and stops where that stops
opened_stop : (context : Dir) (point : Place) (k : Kind) (site : Site)
    → opened_gives context point (Some k) (RunEnds none_spent (StopsAt site)) ≡ RunEnds none_spent (StopsAt site)
opened_stop context point kind.Html site = refl
opened_stop context point kind.Attributes site = refl
opened_stop context point kind.Text site = refl

-- ---- the call at an op

pub call_there : (o : Option Op) (c : Callee) → callee_of o ≡ Some c → o ≡ Some (op.Call c)
call_there None c e = cc
call_there (Some (op.Call d)) c e = let s : d ≡ c = cc in ap (λ (x : Callee). Some (op.Call x)) s
call_there (Some _) c e = cc

-- where no call stands at the op, nothing is given
pub call_none : (p : ProgramParts) (f : Ahead) (next : ℕ) (env inner : RunEnv) (o : Option Op) → callee_of o ≡ None
    → call_of p f next env inner o ≡ RunEnds (one_step 0) WholeRun
call_none p f next env inner None e = refl
call_none p f next env inner (Some (op.Call c)) e = cc
call_none p f next env inner (Some _) e = refl

module _ (p : ProgramParts) (input : values.Value) where
  -- ---- what comes before the frame past the op

  opened_over : (old : Machine) (f : Ahead) (top : Frame) (x : Outcome) → old.top ≡ top → IsPlainFrame top
      → mark_of top ≡ f.mark
      → frame_gives p input old.bound top
      ≡ continued_by x (ops_ahead p (past f) (env_at (cells_of p input old.bound) f.env))
      → machine_gives p input old ≡ over p input old.bound (frame.Ops (past f) ∷ old.below) old.texts x
  opened_over old f top x is plain mark gives =
      machine_is p input old top old.below old.texts old.bound is refl refl refl
      ∙ (plain_top p input old.bound top old.below old.texts plain
      ∙ (ap (λ k. over p input (take k old.bound) old.below old.texts (frame_gives p input old.bound top))
      mark
      ∙ ap (λ (o : Outcome). over p input (take f.mark old.bound) old.below old.texts o) gives))

  -- a step that does it
  pub does_after : (old new : Machine) (f : Ahead) (x : Outcome) (n : ℕ) (out : Output)
      (result : Result Step OutOfMemory)
      → machine_gives p input old ≡ over p input old.bound (frame.Ops (past f) ∷ old.below) old.texts x
      → 0 < pending p old.top → MachineFits old → Does p input old new f x out result
      → SteppedInto p input old new n n out result
  does_after old new f x n out (Ok step.Silent) is some fits goes =
      let quiet : pending p new.top ≡ 0 = goes.quiet in
      let less : pending p new.top < pending p old.top = omega (arith, quiet, some) in (
        none_spent,
        record {
          same = is ∙ (sym goes.gives ∙ sym (first_none (machine_gives p input new)));
          cost = (let e : n ≡ n + 0 = omega arith in e);
          falls = below_more (pending p new.top) (pending p old.top) (0 * weight p) less;
          fits = goes.fits;
        },
      )
  does_after old new f x n out (Ok (step.Gives k)) is some fits h =
      let quiet : pending p new.top ≡ 0 = h.3 in
      let less : pending p new.top < pending p old.top = omega (arith, quiet, some) in (
        none_spent,
        h.0,
        record {
          same = is ∙ h.1;
          cost = (let e : n ≡ n + 0 = omega arith in e);
          falls = below_more (pending p new.top) (pending p old.top) (0 * weight p) less;
          fits = h.2;
        },
        h.4,
      )
  does_after old new f x n out (Ok step.Done) is some fits h = absurd h
  does_after old new f x n out (Ok (step.TooDeep call)) is some fits h = absurd h
  does_after old new f x n out (Err e) is some fits same = same_stays p input old new n same fits

  -- ---- the print of a text

  pub show_gives : (old new : Machine) (f : Ahead) (at n : ℕ) (text : List ℕ) (point : Place)
      (out : Output) (result : Result Step OutOfMemory) → old.top ≡ frame.Show f at → MachineFits old
      → point ≡ call_place (slice_get p.ops f.at) → text ≡ text_bound (slice_get old.bound at)
      → GaveForm p input old new (frame.Ops (past f)) (value_at p.dir point (StringValue text)) out result
      → SteppedInto p input old new n n out result
  show_gives old new f at n text point out result top fits place shown gave =
      let text_is : value_gives p.dir point (StringValue text)
      ≡ value_gives p.dir (call_place (slice_get p.ops f.at))
      (StringValue (text_bound (slice_get old.bound at))) =
      ap (λ (k : Place). value_gives p.dir k (StringValue text)) place
      ∙ ap (λ (t : List ℕ). value_gives p.dir (call_place (slice_get p.ops f.at)) (StringValue t)) shown in
      let env : RunEnv = env_at (cells_of p input old.bound) f.env in
      let x : Outcome = value_gives p.dir point (StringValue text) in
      let one : pending p old.top ≡ 1 = ap (pending p) top in
      let old_fits : FramesFit (frame.Show f at ∷ old.below) (length old.bound) =
      fits_top p input old (frame.Show f at) top fits in
      does_after old new f x n out result
      (opened_over old f (frame.Show f at) x top tt refl
      (ap (λ (o : Outcome). continued_by o (ops_ahead p (past f) env)) (sym text_is)))
      (omega (arith, one)) fits
      (gave_next p input old new f (Value (value_at p.dir point (StringValue text))) out result
      (old_fits.0.1, old_fits.1, old_fits.2) gave)

  -- ---- a call whose parameters are handed

  -- what its template gives, and what it gives
  abbrev called_outcome : Machine → Ahead → Handing → Callee → Outcome
  called_outcome m f h c =
      called_at (view_program p) f.left (view_callee c).site c.template
      (env_at (cells_of p input m.bound) h.inner)

  abbrev opened_outcome : Machine → Ahead → Handing → Callee → Outcome
  opened_outcome m f h c =
      opened_gives p.dir c.place (kind_of_template (view_program p) c.template) (called_outcome m f h c)

  call_opens : (old : Machine) (f : Ahead) (h : Handing) (c : Callee) → Opens p old f h c
      → machine_gives p input old
      ≡ over p input old.bound (frame.Ops (past f) ∷ old.below) old.texts
      (opened_outcome old f h c)
  call_opens old f h c opens =
      let env : RunEnv = env_at (cells_of p input old.bound) f.env in
      let inner : RunEnv = env_at (cells_of p input old.bound) h.inner in
      let is : slice_get p.ops f.at ≡ Some (op.Call c) = call_there (slice_get p.ops f.at) c opens.call in
      opened_over old f (frame.Call f h)
      (opened_gives p.dir c.place (kind_of_template (view_program p) c.template)
      (called_at (view_program p) f.left (view_callee c).site c.template inner))
      opens.top tt refl
      (ap (λ (o : Option Op). call_of p f h.next env inner o) is ∙ hand_last p f h.next env inner c opens.last)

  call_pending : (old : Machine) (f : Ahead) (h : Handing) (c : Callee) → Opens p old f h c → 0 < pending p old.top
  call_pending old f h c opens =
      let e : pending p old.top ≡ pending p (frame.Call f h) = ap (pending p) opens.top in omega (arith, e)

  call_fits : (old : Machine) (f : Ahead) (h : Handing) (c : Callee) → Opens p old f h c
      → FramesFit (frame.Call f h ∷ old.below) (length old.bound)
  call_fits old f h c opens = fits_top p input old (frame.Call f h) opens.top opens.fits

  pub call_low : (old : Machine) (f : Ahead) (h : Handing) (c : Callee) → Opens p old f h c → f.at < f.end
  call_low old f h c opens = (call_fits old f h c opens).0.0

  -- null is given
  pub null_given : (old new : Machine) (f g : Ahead) (point : Place) (text : List ℕ) (class : ValueClass)
      (out : Output) (result : Result Step OutOfMemory) → g ≡ past f → ShowsValue NullValue text class
      → GaveForm p input old new (frame.Ops g) (form_at point class text p.dir) out result
      → GaveForm p input old new (frame.Ops (past f)) (value_at p.dir point NullValue) out result
  null_given old new f g point text class out result is shows gave =
      subst (λ (h : Ahead). GaveForm p input old new (frame.Ops h) (value_at p.dir point NullValue) out result) is
      (subst (λ (k : ValueClass). GaveForm p input old new (frame.Ops g) (form_at point k (value_text NullValue) p.dir)
      out result)
      shows.1
      (subst (λ (t : List ℕ). GaveForm p input old new (frame.Ops g) (form_at point class t p.dir) out result) shows.0
      gave))

  -- of a template that there isn't
  pub none_opens : (old new : Machine) (f : Ahead) (h : Handing) (c : Callee) (n : ℕ) (out : Output)
      (result : Result Step OutOfMemory) → Opens p old f h c → slice_get p.templates c.template ≡ None
      → GaveForm p input old new (frame.Ops (past f)) (value_at p.dir c.place NullValue) out result
      → SteppedInto p input old new n n out result
  none_opens old new f h c n out result opens none gave =
      let inner : RunEnv = env_at (cells_of p input old.bound) h.inner in
      let kind_is : kind_of_template (view_program p) c.template ≡ None =
      ap kind_seen (get_map_none view_routine p.templates c.template none) in
      let fits = call_fits old f h c opens in
      let low : f.env ≤ length old.bound = (let w = fits.0 in omega (arith, w)) in
      does_after old new f (value_gives p.dir c.place NullValue) n out result
      (call_opens old f h c opens
      ∙ ap (λ (k : Option Kind). over p input old.bound (frame.Ops (past f) ∷ old.below) old.texts
      (opened_gives p.dir c.place k
      (called_at (view_program p) f.left (view_callee c).site c.template inner))) kind_is)
      (call_pending old f h c opens) opens.fits
      (gave_next p input old new f (Value (value_at p.dir c.place NullValue)) out result
      (low, fits.1, fits.2) gave)

  -- too deep
  pub stop_opens : (old : Machine) (f : Ahead) (h : Handing) (c : Callee) (r : Routine) (n : ℕ) → Opens p old f h c
      → slice_get p.templates c.template ≡ Some r → f.left ≡ 0
      → Stepped p input old old n n (Ok (step.TooDeep (record { file = c.file; at = c.at })))
  stop_opens old f h c r n opens is none =
      let inner : RunEnv = env_at (cells_of p input old.bound) h.inner in
      let site : Site = (view_callee c).site in
      let fs : List Frame = frame.Ops (past f) ∷ old.below in
      let gives : machine_gives p input old ≡ RunEnds none_spent (StopsAt site) =
      call_opens old f h c opens
      ∙ (ap (λ (k : Option Kind). over p input old.bound fs old.texts
      (opened_gives p.dir c.place k (called_at (view_program p) f.left site c.template inner)))
      (kind_there p c.template r is)
      ∙ (ap (λ (left : ℕ). over p input old.bound fs old.texts
      (opened_gives p.dir c.place (Some r.kind) (called_at (view_program p) left site c.template inner))) none
      ∙ (ap (λ (o : Outcome). over p input old.bound fs old.texts (opened_gives p.dir c.place (Some r.kind) o))
      (stopped p site c.template inner)
      ∙ (ap (λ (o : Outcome). over p input old.bound fs old.texts o) (opened_stop p.dir c.place r.kind site)
      ∙ over_stop p input fs old.bound old.texts none_spent site)))) in (
        record { same = refl; low = (let l : n ≤ n = omega arith in l); high = omega arith; fits = opens.fits },
        ap pieces_of_outcome gives,
        ap end_of_outcome gives,
      )

  -- ---- the body of a template

  routine_body : (old : Machine) (f : Ahead) (h : Handing) (c : Callee) (r : Routine) → OpensRoutine p old f h c r
      → called_outcome old f h c
      ≡ ops_ahead p (called_child f h r.body) (env_at (cells_of p input old.bound) h.inner)
  routine_body old f h c r opens =
      let inner : RunEnv = env_at (cells_of p input old.bound) h.inner in
      let some = opens.left in
      let left : f.left ≡ suc (f.left - 1) = omega (arith, some) in
      ap (λ (k : ℕ). called_at (view_program p) k (view_callee c).site c.template inner) left
      ∙ opened_body p (f.left - 1) (view_callee c).site c.template r inner opens.routine

  -- below a mark nothing is lost
  lowered : (bound : List Bound) (m : ℕ) (f : Ahead) → f.env ≤ m
      → env_at (cells_of p input (take m bound)) f.env ≡ env_at (cells_of p input bound) f.env
  lowered bound m f low =
      let e : m ≤ m = omega arith in env_agree p input (take m bound) bound m f.env (take_twice bound m m e) low

  block_enters : (old new : Machine) (f : Ahead) (h : Handing) (c : Callee) (r : Routine) → OpensRoutine p old f h c r
      → IsBlockKind r.kind → new.top ≡ frame.Ops (called_child f h r.body) → new.below ≡ frame.Ops (past f) ∷ old.below
      → new.texts ≡ old.texts → new.bound ≡ old.bound
      → GoesIn p input old new f
      (opened_outcome old f h c)
  block_enters old new f h c r opens kinds top below texts bound =
      let inner : RunEnv = env_at (cells_of p input old.bound) h.inner in
      let child : Ahead = called_child f h r.body in
      let o : Outcome = ops_ahead p child inner in
      let fs : List Frame = frame.Ops (past f) ∷ old.below in
      let lower : List Bound = take h.mark old.bound in
      let fits = call_fits old f h c opens.opens in
      let within = fits.0 in
      record {
        gives =
            machine_is p input new (frame.Ops child) fs old.texts old.bound top below texts bound
            ∙ (entered p input lower old.bound fs old.texts child refl
            ∙ (ap (λ (bs : List Bound). over p input bs old.below old.texts
            (continued_by o (ops_ahead p (past f) (env_at (cells_of p input lower) f.env))))
            (take_twice old.bound f.mark h.mark within.2)
            ∙ (ap (λ (env : RunEnv). over p input (take f.mark old.bound) old.below old.texts
            (continued_by o (ops_ahead p (past f) env))) (lowered old.bound h.mark f within.1)
            ∙ (ap (λ (x : Outcome). over p input old.bound fs old.texts x)
            (sym (ap (λ (k : Option Kind). opened_gives p.dir c.place k
            (called_at (view_program p) f.left (view_callee c).site c.template inner))
            (kind_there p c.template r opens.routine)
            ∙ (opened_block p.dir c.place r.kind
            (called_at (view_program p) f.left (view_callee c).site c.template inner) kinds
            ∙ routine_body old f h c r opens)))))));
        fits =
            fits_is p input new (frame.Ops child) fs old.bound top below bound
            (within.4, within.3, (within.1, within.2, fits.2));
        quiet = ap (pending p) top;
      }

  pub block_opens : (old new : Machine) (f : Ahead) (h : Handing) (c : Callee) (r : Routine) (n : ℕ)
      → OpensRoutine p old f h c r → IsBlockKind r.kind → new.top ≡ frame.Ops (called_child f h r.body)
      → new.below ≡ frame.Ops (past f) ∷ old.below → new.texts ≡ old.texts → new.bound ≡ old.bound
      → Stepped p input old new n n (Ok step.Silent)
  block_opens old new f h c r n opens kinds top below texts bound =
      does_after old new f
      (opened_outcome old f h c)
      n (output [] [] None) (Ok step.Silent) (call_opens old f h c opens.opens)
      (call_pending old f h c opens.opens) opens.opens.fits
      (block_enters old new f h c r opens kinds top below texts bound)

  text_enters : (old new : Machine) (f : Ahead) (h : Handing) (c : Callee) (r : Routine) → OpensRoutine p old f h c r
      → r.kind ≡ kind.Text → new.top ≡ frame.Ops (called_child f h r.body)
      → new.below ≡ frame.Gather f purpose.Show ∷ old.below → new.texts ≡ [] ∷ old.texts
      → new.bound ≡ old.bound
      → GoesIn p input old new f
      (opened_outcome old f h c)
  text_enters old new f h c r opens text top below texts bound =
      let env : RunEnv = env_at (cells_of p input old.bound) f.env in
      let inner : RunEnv = env_at (cells_of p input old.bound) h.inner in
      let child : Ahead = called_child f h r.body in
      let o : Outcome = ops_ahead p child inner in
      let fs : List Frame = frame.Gather f purpose.Show ∷ old.below in
      let lower : List Bound = take h.mark old.bound in
      let fits = call_fits old f h c opens.opens in
      let within = fits.0 in
      let prints : List ℕ → Outcome = λ t. value_gives p.dir c.place (StringValue t) in
      let called : Outcome = called_at (view_program p) f.left (view_callee c).site c.template inner in
      let is : slice_get p.ops f.at ≡ Some (op.Call c) = call_there (slice_get p.ops f.at) c opens.opens.call in
      record {
        gives =
            machine_is p input new (frame.Ops child) fs ([] ∷ old.texts) old.bound top below texts bound
            ∙ (entered p input lower old.bound fs ([] ∷ old.texts) child refl
            ∙ (ap (λ (bs : List Bound). over p input bs old.below old.texts
            (gathered [] o (shown_by p f (env_at (cells_of p input lower) f.env))))
            (take_twice old.bound f.mark h.mark within.2)
            ∙ (ap (λ (e : RunEnv). over p input (take f.mark old.bound) old.below old.texts
            (gathered [] o (shown_by p f e))) (lowered old.bound h.mark f within.1)
            ∙ (ap (λ (x : Option Op). over p input (take f.mark old.bound) old.below old.texts
            (gathered [] o (λ t. continued_by (value_gives p.dir (call_place x) (StringValue t))
            (ops_ahead p (past f) env)))) is
            ∙ (ap (λ (x : Outcome). over p input (take f.mark old.bound) old.below old.texts x)
            (sym (gathered_then [] o prints (ops_ahead p (past f) env)))
            ∙ ap (λ (x : Outcome). over p input old.bound (frame.Ops (past f) ∷ old.below) old.texts x)
            (sym (ap (λ (k : Option Kind). opened_gives p.dir c.place k called)
            (kind_there p c.template r opens.routine)
            ∙ (ap (λ (k : Kind). opened_gives p.dir c.place (Some k) called) text
            ∙ ap (λ (x : Outcome). gathered [] x prints) (routine_body old f h c r opens)))))))));
        fits =
            fits_is p input new (frame.Ops child) fs old.bound top below bound
            (within.4, within.3, ((within.0, within.1), within.2, fits.2));
        quiet = ap (pending p) top;
      }

  pub text_opens : (old new : Machine) (f : Ahead) (h : Handing) (c : Callee) (r : Routine) (n : ℕ)
      → OpensRoutine p old f h c r → r.kind ≡ kind.Text → new.top ≡ frame.Ops (called_child f h r.body)
      → new.below ≡ frame.Gather f purpose.Show ∷ old.below → new.texts ≡ [] ∷ old.texts
      → new.bound ≡ old.bound → Stepped p input old new n n (Ok step.Silent)
  text_opens old new f h c r n opens text top below texts bound =
      does_after old new f
      (opened_outcome old f h c)
      n (output [] [] None) (Ok step.Silent) (call_opens old f h c opens.opens)
      (call_pending old f h c opens.opens) opens.opens.fits
      (text_enters old new f h c r opens text top below texts bound)
