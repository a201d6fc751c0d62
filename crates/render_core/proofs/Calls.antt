-- Calls: their parameters, one after the other, and their opening.
use Rattle.std.proofs.Common.{◌≡◌, ℕ, zero, suc, ◌+◌, ◌≤◌, ◌<◌, pos, List, [], ◌∷◌, Option, Some, None, length, map}
use Rattle.std.proofs.Common.{take, drop, refl, sym, ap, ◌∙◌, arith}
use Rattle.std.specs.List.{slice_get}
use Rattle.std.specs.Prelude.{option_map}
use Rattle.soy_base.specs.declared.kind.Kind.{Kind}
use Rattle.soy_tree.specs.Values as values
use Rattle.soy_pieces.specs.Giving.{RunEnv}
use Rattle.soy_pieces.specs.Outcome.{Outcome, RunEnds, StopsAt, continued_by, none_spent}
use Rattle.soy_pieces.specs.Outcome.{spent_first}
use Rattle.soy_pieces.specs.Site.{Site}
use Rattle.soy_pieces.proofs.Outcomes.{first_none, followed_joined}
use Rattle.template_ir.specs.Ops as ops
use Rattle.template_ir.specs.Run.{OpMeans, all_give, all_handed_give, block_gives, body_there, called_at}
use Rattle.template_ir.specs.Run.{handed_binding}
use Rattle.template_ir.specs.Run.{handed_env, handed_gives, kind_of_template, one_step, op_gives, opened_gives}
use Rattle.soy_base.specs.Table.{table}
use Rattle.template_ir.specs.ViewOps.{view_by, view_callee, view_handed, view_program, view_routine}
use Rattle.template_ir.specs.declared.op.Callee as code_callee
use Rattle.template_ir.specs.declared.op.Handed as code_handed
use Rattle.template_ir.specs.declared.op.Op.TheVariants as op
use Rattle.template_ir.specs.declared.program.ProgramParts.{ProgramParts}
use Rattle.template_ir.specs.declared.program.Routine.{Routine}
use Rattle.render_core.specs.Frames.{FramesFit, MachineFits, call_after, call_of, means_before, ops_ahead}
use Rattle.render_core.specs.Frames.{over, past}
use Rattle.render_core.specs.Stepping.{Silent, pending}
use Rattle.render_core.specs.Variables.{Cell, cells_of, env_at}
use Rattle.render_core.specs.declared.frame.Ahead.{Ahead}
use Rattle.render_core.specs.declared.frame.Frame.TheVariants as frame
use Rattle.render_core.specs.declared.frame.Handing.{Handing}
use Rattle.render_core.specs.declared.stack.Machine.{Machine}
use Rattle.render_core.proofs.Leaves.{pending_least, plain_top}
use Rattle.render_core.proofs.Moves.{fits_is, fits_top, machine_is, op_spends}
use Rattle.render_core.proofs.Ops.{get_map}

-- ---- parts of lists

drop_some : {A B : Type 0} (f : A → B) (xs : List A) (n : ℕ) (x : A) → slice_get xs n ≡ Some x
    → drop n (map f xs) ≡ f x ∷ drop (n + 1) (map f xs)
drop_some f [] n x e = cc
drop_some f (y ∷ ys) zero x e = let s : y ≡ x = cc in ap (λ z. f z ∷ map f ys) s
drop_some f (y ∷ ys) (suc n) x e = let t : suc n + 1 ≡ suc (n + 1) = omega arith in rw t (drop_some f ys n x e)

drop_past : {A B : Type 0} (f : A → B) (xs : List A) (n : ℕ) → slice_get xs n ≡ None → drop n (map f xs) ≡ []
drop_past f [] zero e = refl
drop_past f [] (suc n) e = refl
drop_past f (y ∷ ys) zero e = cc
drop_past f (y ∷ ys) (suc n) e = drop_past f ys n e

abbrev pub kind_seen : Option ops.Routine → Option Kind
kind_seen x = option_map (λ (r : ops.Routine). r.kind) x

module _ (p : ProgramParts) where
  -- ---- parameters

  abbrev handed_then : Ahead → RunEnv → RunEnv → code_callee.Callee → List ops.Handed → Outcome
  handed_then f env inner c given =
      continued_by (all_handed_give (means_before p f.left f.at) given env)
      (opened_gives p.dir c.place (kind_of_template (view_program p) c.template)
      (called_at (view_program p) f.left (view_callee c).site c.template
      (handed_env (means_before p f.left f.at) given env inner)))

  -- the next parameter, and then those past it
  pub hand_next : (f : Ahead) (next : ℕ) (env inner : RunEnv) (c : code_callee.Callee) (h : code_handed.Handed)
      → slice_get c.given next ≡ Some h
      → call_of p f next env inner (Some (op.Call c))
      ≡ continued_by (handed_gives (means_before p f.left f.at) (view_by h.by) env)
      (call_of p f (next + 1) env
      ((h.name, handed_binding (means_before p f.left f.at) h.name (view_by h.by) env) ∷ inner) (Some (op.Call c)))
  hand_next f next env inner c h is =
      let ms : List OpMeans = means_before p f.left f.at in
      let given : Outcome = handed_gives ms (view_by h.by) env in
      let more : RunEnv = (h.name, handed_binding ms h.name (view_by h.by) env) ∷ inner in
      let rest : List ops.Handed = drop (next + 1) (map view_handed c.given) in
      ap (λ (hs : List ops.Handed). continued_by (handed_then f env inner c hs) (ops_ahead p (past f) env))
      (drop_some view_handed c.given next h is)
      ∙ (ap (λ (o : Outcome). continued_by o (ops_ahead p (past f) env))
      (followed_joined given (all_handed_give ms rest env)
      (opened_gives p.dir c.place (kind_of_template (view_program p) c.template)
      (called_at (view_program p) f.left (view_callee c).site c.template (handed_env ms rest env more))))
      ∙ followed_joined given (handed_then f env more c rest) (ops_ahead p (past f) env))

  -- past the last it is opened
  pub hand_last : (f : Ahead) (next : ℕ) (env inner : RunEnv) (c : code_callee.Callee) → slice_get c.given next ≡ None
      → call_of p f next env inner (Some (op.Call c))
      ≡ continued_by
      (opened_gives p.dir c.place (kind_of_template (view_program p) c.template)
      (called_at (view_program p) f.left (view_callee c).site c.template inner))
      (ops_ahead p (past f) env)
  hand_last f next env inner c is =
      ap (λ (hs : List ops.Handed). continued_by (handed_then f env inner c hs) (ops_ahead p (past f) env))
      (drop_past view_handed c.given next is)
      ∙ ap (λ (o : Outcome). continued_by o (ops_ahead p (past f) env))
      (first_none (opened_gives p.dir c.place (kind_of_template (view_program p) c.template)
      (called_at (view_program p) f.left (view_callee c).site c.template inner)))

  -- ---- the opening

  pub kind_there : (t : ℕ) (r : Routine) → slice_get p.templates t ≡ Some r
      → kind_of_template (view_program p) t ≡ Some r.kind
  kind_there t r is = ap (λ (x : Option ops.Routine). kind_seen x) (get_map view_routine p.templates t r is)

  pub opened_body : (left : ℕ) (at : Site) (t : ℕ) (r : Routine) (env : RunEnv) → slice_get p.templates t ≡ Some r
      → called_at (view_program p) (suc left) at t env
      ≡ block_gives (all_give (view_program p) left) r.body (pos 0) env
  unfolding called_at all_give
  opened_body left at t r env is =
      ap (λ (x : Option ops.Routine). block_gives (table (op_gives (view_program p) (called_at (view_program p) left))
      (view_program p).ops) (body_there x) (pos 0) env) (get_map view_routine p.templates t r is)

  pub stopped : (at : Site) (t : ℕ) (env : RunEnv)
      → called_at (view_program p) zero at t env ≡ RunEnds none_spent (StopsAt at)
  unfolding called_at
  stopped at t env = refl

module _ (p : ProgramParts) (input : values.Value) where
  -- ---- the beginning of a call

  abbrev pub no_handing : ℕ → Handing
  no_handing n = record { next = 0; inner = 0; mark = n }

  pub call_begins : (old new : Machine) (f : Ahead) (c : code_callee.Callee) (n : ℕ) → old.top ≡ frame.Ops f
      → MachineFits old → slice_get p.ops f.at ≡ Some (op.Call c) → f.at < f.end
      → new.top ≡ frame.Call f (no_handing (length old.bound)) → new.below ≡ old.below → new.texts ≡ old.texts
      → new.bound ≡ old.bound → Silent p input old new n n
  call_begins old new f c n old_top fits is low top below texts bound =
      let len : ℕ = length old.bound in
      let h : Handing = no_handing len in
      let cells : List Cell = cells_of p input old.bound in
      let env : RunEnv = env_at cells f.env in
      let x : Outcome = call_after p f 0 env [] c in
      let old_fits : FramesFit (frame.Ops f ∷ old.below) len = fits_top p input old (frame.Ops f) old_top fits in (
        one_step 0,
        record {
          same =
              op_spends p input old f (op.Call c) 0 x old_top is low refl
              ∙ ap (spent_first (one_step 0))
              (ap (λ (o : Outcome). over p input (take f.mark old.bound) old.below old.texts o)
              (sym (ap (call_of p f 0 env []) is))
              ∙ (sym (plain_top p input old.bound (frame.Call f h) old.below old.texts tt)
              ∙ sym
              (machine_is p input new (frame.Call f h) old.below old.texts old.bound top below texts bound)));
          cost = (let e : n ≡ n + 0 = omega arith in e);
          falls =
              (let least = pending_least p (frame.Call f h) in
              let q : pending p new.top ≡ pending p (frame.Call f h) = ap (pending p) top in omega (arith, least, q));
          fits =
              fits_is p input new (frame.Call f h) old.below old.bound top below bound (
                (
                  low,
                  old_fits.0,
                  old_fits.1,
                  (let e : len ≤ len = omega arith in e),
                  (let e : 0 ≤ len = omega arith in e),
                ),
                old_fits.1,
                old_fits.2,
              );
        },
      )
