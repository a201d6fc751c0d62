-- What a call hands, one parameter after the other.
use Rattle.std.proofs.Common.{◌≡◌, ℕ, zero, suc, ◌+◌, ◌-◌, ◌*◌, ◌≤◌, ◌<◌, pos, List, [], ◌∷◌, Option, Some, None}
use Rattle.std.proofs.Common.{length}
use Rattle.std.proofs.Common.{take, refl, sym, ap, ◌∙◌, arith}
use Rattle.std.specs.List.{slice_get}
use Rattle.soy_base.specs.declared.kind.Kind.{Kind}
use Rattle.soy_base.specs.declared.kind.Kind.TheVariants as kind
use Rattle.soy_rules.specs.Cost.{cost}
use Rattle.soy_tree.specs.Types.{Name}
use Rattle.soy_rules.specs.Val.{Binding, BlockOf, Known, binding, val}
use Rattle.soy_tree.specs.Values.{StringValue}
use Rattle.soy_tree.specs.Values as values
use Rattle.soy_tree.specs.ViewExpressions.{view_expr}
use Rattle.soy_tree.specs.declared.expr.Expr as code_expr
use Rattle.soy_expr.specs.Evaluates.{IsWithin}
use Rattle.soy_pieces.specs.Giving.{BoundBlock, RunEnv}
use Rattle.soy_pieces.specs.Outcome.{GivesPiece, Outcome, RunEnds, Spent, WholeRun, and_spent, continued_by, gathered}
use Rattle.soy_pieces.specs.Outcome.{none_spent, spent_first}
use Rattle.soy_pieces.proofs.Outcomes.{first_none}
use Rattle.template_ir.specs.Run.{OpMeans, block_gives, handed_binding, handed_gives}
use Rattle.template_ir.specs.ViewOps.{view_by}
use Rattle.template_ir.specs.declared.op.Block.{Block}
use Rattle.template_ir.specs.declared.op.Callee.{Callee}
use Rattle.template_ir.specs.declared.op.Handed.{Handed}
use Rattle.template_ir.specs.declared.op.HandedBy as code_by
use Rattle.template_ir.specs.declared.op.HandedBy.TheVariants as by
use Rattle.template_ir.specs.declared.op.Op.{Op}
use Rattle.template_ir.specs.declared.op.Op.TheVariants as op
use Rattle.template_ir.specs.declared.program.ProgramParts.{ProgramParts}
use Rattle.render_core.specs.Calling.{Hands, callee_of, given_at}
use Rattle.render_core.specs.Finds.{found_means, held_of}
use Rattle.render_core.specs.Frames.{FramesFit, MachineFits, call_of, child_at, frame_gives, machine_gives}
use Rattle.render_core.specs.Frames.{means_before, over}
use Rattle.render_core.specs.Linked.{Adds}
use Rattle.render_core.specs.Rest.{first_spent}
use Rattle.render_core.specs.Stepping.{IsBlockKind, IsSame, Silent, Stays, given_count, handed_bound, handed_past}
use Rattle.render_core.specs.Stepping.{kept_of, pending, weight}
use Rattle.render_core.specs.Variables.{Cell, cells_of, env_at, handed_name, held_means, name_or_none}
use Rattle.render_core.specs.Variables.{handed_of, name_there, of_op}
use Rattle.render_core.specs.declared.frame.Ahead.{Ahead}
use Rattle.render_core.specs.declared.frame.Frame.TheVariants as frame
use Rattle.render_core.specs.declared.frame.Handing.{Handing}
use Rattle.render_core.specs.declared.frame.Purpose.TheVariants as purpose
use Rattle.render_core.specs.declared.held.Bound.{Bound}
use Rattle.render_core.specs.declared.held.Held.{Held}
use Rattle.render_core.specs.declared.held.Held.TheVariants as held
use Rattle.render_core.specs.declared.held.Kept.{Kept}
use Rattle.render_core.specs.declared.held.Naming.TheVariants as naming
use Rattle.render_core.specs.declared.stack.Machine.{Machine}
use Rattle.render_core.specs.declared.valuing.Found.{Found}
use Rattle.render_core.proofs.Adds.{adds_agree, adds_env, adds_length, adds_take}
use Rattle.render_core.proofs.Calls.{hand_next}
use Rattle.render_core.proofs.Gathers.{gathered_whole, gathers}
use Rattle.render_core.proofs.Leaves.{plain_top}
use Rattle.render_core.proofs.Lets.{bound_kind, held_found, kept_outcome}
use Rattle.render_core.proofs.Moves.{fits_is, fits_top, machine_is, same_fits, same_gives}
use Rattle.render_core.proofs.Overs.{over_first}

-- ---- the call at an op

-- what is handed is named so by the call
handed_call : (o : Option Op) (n : ℕ) (d : Handed) → given_at n (callee_of o) ≡ Some d
    → (c : Callee) × (o ≡ Some (op.Call c)) × (slice_get c.given n ≡ Some d)
handed_call None n d e = cc
handed_call (Some (op.Call c)) n d e = (c, refl, e)
handed_call (Some _) n d e = cc

get_below : {A : Type 0} (xs : List A) (n : ℕ) (x : A) → slice_get xs n ≡ Some x → n < length xs
get_below [] n x e = cc
get_below (y ∷ ys) zero x e = omega arith
get_below (y ∷ ys) (suc n) x e = let h = get_below ys n x e in omega (arith, h)

pub below_more : (a b x : ℕ) → a < b → a < x + b
below_more a b x h = omega arith

-- what is spent first is at most what is spent before the first piece
pub within_spent : (s : Spent) (o x : Outcome) → o ≡ spent_first s x → s.cost ≤ (first_spent o).cost
within_spent s o (RunEnds t end) e =
    let c : (first_spent o).cost ≡ s.cost + t.cost = ap (λ (y : Outcome). (first_spent y).cost) e in omega (arith, c)
within_spent s o (GivesPiece t piece rest) e =
    let c : (first_spent o).cost ≡ s.cost + t.cost = ap (λ (y : Outcome). (first_spent y).cost) e in omega (arith, c)

-- ---- what one parameter means

handed_block : (ms : List OpMeans) (name : Name) (k : Kind) (b : Block) (env : RunEnv) → IsBlockKind k
    → handed_gives ms (view_by (by.Block k b)) env ≡ RunEnds none_spent WholeRun
handed_block ms name kind.Html b env h = refl
handed_block ms name kind.Attributes b env h = refl
handed_block ms name kind.Text b env h = absurd h

module _ (p : ProgramParts) (input : values.Value) where
  -- ---- the next parameter

  named : (f : Ahead) (h : Handing) (d : Handed) (c : Callee) → slice_get p.ops f.at ≡ Some (op.Call c)
      → slice_get c.given h.next ≡ Some d → name_or_none (name_there p (naming.Handed f.at h.next)) ≡ d.name
  named f h d c is given =
      ap (λ (o : Option Op). name_or_none (of_op (handed_name h.next) o)) is
      ∙ ap (λ (x : Option Handed). name_or_none (handed_of x)) given

  -- what is below the call, after this
  abbrev below_call : Machine → Ahead → Outcome → Outcome
  below_call m f o = over p input (take f.mark m.bound) m.below m.texts o

  -- the call past the next parameter, which is bound so
  abbrev call_past : Machine → Ahead → Handing → Name → Binding BoundBlock → Outcome
  call_past m f h name b =
      call_of p f (h.next + 1) (env_at (cells_of p input m.bound) f.env)
      ((name, b) ∷ env_at (cells_of p input m.bound) h.inner) (slice_get p.ops f.at)

  hand_gives : (old : Machine) (f : Ahead) (h : Handing) (d : Handed) → Hands p old f h d
      → machine_gives p input old
      ≡ below_call old f (continued_by
      (handed_gives (means_before p f.left f.at) (view_by d.by) (env_at (cells_of p input old.bound) f.env))
      (call_past old f h d.name
      (handed_binding (means_before p f.left f.at) d.name (view_by d.by)
      (env_at (cells_of p input old.bound) f.env))))
  hand_gives old f h d hands =
      let env : RunEnv = env_at (cells_of p input old.bound) f.env in
      let inner : RunEnv = env_at (cells_of p input old.bound) h.inner in
      let ms : List OpMeans = means_before p f.left f.at in
      let w = handed_call (slice_get p.ops f.at) h.next d hands.given in
      machine_is p input old (frame.Call f h) old.below old.texts old.bound hands.top refl refl refl
      ∙ (plain_top p input old.bound (frame.Call f h) old.below old.texts tt
      ∙ ap (λ (o : Outcome). below_call old f o)
      (ap (λ (o : Option Op). call_of p f h.next env inner o) w.1
      ∙ (hand_next p f h.next env inner w.0 d w.2
      ∙ ap (λ (o : Option Op). continued_by (handed_gives ms (view_by d.by) env)
      (call_of p f (h.next + 1) env ((d.name, handed_binding ms d.name (view_by d.by) env) ∷ inner) o)) (sym w.1))))

  -- what is spent on it comes first
  hand_spends : (old : Machine) (f : Ahead) (h : Handing) (d : Handed) (s : Spent) → Hands p old f h d
      → handed_gives (means_before p f.left f.at) (view_by d.by) (env_at (cells_of p input old.bound) f.env)
      ≡ RunEnds s WholeRun
      → machine_gives p input old
      ≡ spent_first s (below_call old f (call_past old f h d.name
      (handed_binding (means_before p f.left f.at) d.name (view_by d.by)
      (env_at (cells_of p input old.bound) f.env))))
  hand_spends old f h d s hands gives =
      let env : RunEnv = env_at (cells_of p input old.bound) f.env in
      let rest : Outcome = call_past old f h d.name
      (handed_binding (means_before p f.left f.at) d.name (view_by d.by) env) in
      hand_gives old f h d hands
      ∙ (ap (λ (o : Outcome). below_call old f (continued_by o rest)) gives
      ∙ over_first p input old.below (take f.mark old.bound) old.texts s rest)

  hand_leads : (old new : Machine) (f : Ahead) (h : Handing) (d : Handed) (to : Held) → Hands p old f h d
      → new.top ≡ frame.Call f (handed_past h (length old.bound)) → new.below ≡ old.below
      → new.texts ≡ old.texts → Adds p (handed_bound f h to) old.bound new.bound
      → machine_gives p input new
      ≡ below_call old f (call_past old f h d.name (held_means p input (cells_of p input old.bound) to))
  hand_leads old new f h d to hands top below texts adds =
      let len : ℕ = length old.bound in
      let b : Bound = handed_bound f h to in
      let cells : List Cell = cells_of p input old.bound in
      let env : RunEnv = env_at cells f.env in
      let g : Handing = handed_past h len in
      let w = handed_call (slice_get p.ops f.at) h.next d hands.given in
      let old_fits : FramesFit (frame.Call f h ∷ old.below) len =
      fits_top p input old (frame.Call f h) hands.top hands.fits in
      let within = old_fits.0 in
      let low : f.env ≤ len = omega (arith, within) in
      machine_is p input new (frame.Call f g) old.below old.texts new.bound top below texts refl
      ∙ (plain_top p input new.bound (frame.Call f g) old.below old.texts tt
      ∙ (ap (λ (bs : List Bound). over p input bs old.below old.texts (frame_gives p input new.bound (frame.Call f g)))
      (adds_take p b old.bound new.bound adds f.mark old_fits.1)
      ∙ ap (λ (o : Outcome). below_call old f o)
      (ap (λ (e : RunEnv). call_of p f (h.next + 1) e (env_at (cells_of p input new.bound) (len + 1))
      (slice_get p.ops f.at)) (adds_agree p b old.bound new.bound adds input f.env low)
      ∙ (ap (λ (e : RunEnv). call_of p f (h.next + 1) env e (slice_get p.ops f.at))
      (adds_env p b old.bound new.bound adds input (len + 1) refl)
      ∙ ap (λ (n : Name). call_past old f h n (held_means p input cells to)) (named f h d w.0 w.1 w.2)))))

  hand_fits : (old new : Machine) (f : Ahead) (h : Handing) (d : Handed) (to : Held) → Hands p old f h d
      → new.top ≡ frame.Call f (handed_past h (length old.bound)) → new.below ≡ old.below
      → Adds p (handed_bound f h to) old.bound new.bound → MachineFits new
  hand_fits old new f h d to hands top below adds =
      let len : ℕ = length old.bound in
      let g : Handing = handed_past h len in
      let old_fits : FramesFit (frame.Call f h ∷ old.below) len =
      fits_top p input old (frame.Call f h) hands.top hands.fits in
      let more : length new.bound ≡ len + 1 = adds_length p (handed_bound f h to) old.bound new.bound adds in
      let within = old_fits.0 in
      let marks = old_fits.1 in
      let wide : h.mark ≤ length new.bound = omega (arith, more, within) in
      let inner : len + 1 ≤ length new.bound = omega (arith, more) in
      let mark : f.mark ≤ length new.bound = omega (arith, more, marks) in
      fits_is p input new (frame.Call f g) old.below new.bound top below refl
      ((within.0, within.1, within.2, wide, inner), mark, old_fits.2)

  hand_falls : (old new : Machine) (f : Ahead) (h : Handing) (d : Handed) → Hands p old f h d
      → new.top ≡ frame.Call f (handed_past h (length old.bound)) → pending p new.top < pending p old.top
  hand_falls old new f h d hands top =
      let w = handed_call (slice_get p.ops f.at) h.next d hands.given in
      let some : h.next < length w.0.given = get_below w.0.given h.next d w.2 in
      let count : given_count (slice_get p.ops f.at) ≡ length w.0.given = ap given_count w.1 in
      let new_is : pending p new.top ≡ 1 + (given_count (slice_get p.ops f.at) - (h.next + 1)) = ap (pending p) top in
      let old_is : pending p old.top ≡ 1 + (given_count (slice_get p.ops f.at) - h.next) = ap (pending p) hands.top in
      omega (arith, some, count, new_is, old_is)

  -- a parameter is handed that is valued at this cost
  pub hand_goes : (old new : Machine) (f : Ahead) (h : Handing) (d : Handed) (to : Held) (s : Spent) (before after : ℕ)
      → Hands p old f h d
      → handed_gives (means_before p f.left f.at) (view_by d.by) (env_at (cells_of p input old.bound) f.env)
      ≡ RunEnds s WholeRun
      → held_means p input (cells_of p input old.bound) to
      ≡ handed_binding (means_before p f.left f.at) d.name (view_by d.by)
      (env_at (cells_of p input old.bound) f.env)
      → after ≡ before + s.cost → new.top ≡ frame.Call f (handed_past h (length old.bound))
      → new.below ≡ old.below → new.texts ≡ old.texts
      → Adds p (handed_bound f h to) old.bound new.bound → Silent p input old new before after
  hand_goes old new f h d to s before after hands gives means cost top below texts adds = (
    s,
    record {
      same =
          hand_spends old f h d s hands gives
          ∙ ap (spent_first s) (ap (λ (b : Binding BoundBlock). below_call old f (call_past old f h d.name b))
          (sym means)
          ∙ sym (hand_leads old new f h d to hands top below texts adds));
      cost = cost;
      falls =
          below_more (pending p new.top) (pending p old.top) (s.work * weight p) (hand_falls old new f h d hands top);
      fits = hand_fits old new f h d to hands top below adds;
    },
  )

  -- or memory is refused
  pub hand_stays : (old new : Machine) (f : Ahead) (h : Handing) (d : Handed) (s : Spent) (before after : ℕ)
      → Hands p old f h d
      → handed_gives (means_before p f.left f.at) (view_by d.by) (env_at (cells_of p input old.bound) f.env)
      ≡ RunEnds s WholeRun
      → IsWithin s.cost before after → IsSame old new → Stays p input old new before after
  hand_stays old new f h d s before after hands gives cost same =
      let room : s.cost ≤ (first_spent (machine_gives p input old)).cost =
      within_spent s (machine_gives p input old) _ (hand_spends old f h d s hands gives) in
      record {
        same = same_gives p input old new same;
        low = cost.0;
        high = omega (arith, room, cost.1);
        fits = same_fits p input old new same hands.fits;
      }

  -- ---- by what it is handed

  -- a value, at its cost
  abbrev pub value_spent : code_expr.Expr → RunEnv → Spent
  value_spent e env = and_spent (record { cost = cost (view_expr e) env; work = 0; choices = [] }) none_spent

  pub value_gives_cost : (f : Ahead) (d : Handed) (e : code_expr.Expr) (env : RunEnv) → d.by ≡ by.Plain e
      → handed_gives (means_before p f.left f.at) (view_by d.by) env ≡ RunEnds (value_spent e env) WholeRun
  value_gives_cost f d e env is =
      ap (λ (b : code_by.HandedBy). handed_gives (means_before p f.left f.at) (view_by b) env) is

  pub value_bound : (f : Ahead) (d : Handed) (e : code_expr.Expr) (cells : List Cell) (env : RunEnv) (x : Found)
      (to : Held)
      → d.by ≡ by.Plain e → found_means p cells x ≡ val (view_expr e) env → to ≡ held_of x
      → held_means p input cells to ≡ handed_binding (means_before p f.left f.at) d.name (view_by d.by) env
  value_bound f d e cells env x to is means held =
      ap (held_means p input cells) held
      ∙ (held_found p input cells x
      ∙ (means
      ∙ sym (ap (λ (b : code_by.HandedBy). handed_binding (means_before p f.left f.at) d.name (view_by b) env) is)))

  -- what the same name means
  pub same_gives_none : (f : Ahead) (d : Handed) (env : RunEnv) → d.by ≡ by.Same
      → handed_gives (means_before p f.left f.at) (view_by d.by) env ≡ RunEnds none_spent WholeRun
  same_gives_none f d env is =
      ap (λ (b : code_by.HandedBy). handed_gives (means_before p f.left f.at) (view_by b) env) is

  pub same_bound : (f : Ahead) (d : Handed) (cells : List Cell) (env : RunEnv) (x : Found) (to : Held)
      → d.by ≡ by.Same → found_means p cells x ≡ binding d.name env → to ≡ held_of x
      → held_means p input cells to ≡ handed_binding (means_before p f.left f.at) d.name (view_by d.by) env
  same_bound f d cells env x to is means held =
      ap (held_means p input cells) held
      ∙ (held_found p input cells x
      ∙ (means
      ∙ sym (ap (λ (b : code_by.HandedBy). handed_binding (means_before p f.left f.at) d.name (view_by b) env) is)))

  -- a block
  pub kept_gives_none : (f : Ahead) (d : Handed) (k : Kind) (b : Block) (env : RunEnv) → d.by ≡ by.Block k b
      → IsBlockKind k
      → handed_gives (means_before p f.left f.at) (view_by d.by) env ≡ RunEnds none_spent WholeRun
  kept_gives_none f d k b env is kinds =
      ap (λ (x : code_by.HandedBy). handed_gives (means_before p f.left f.at) (view_by x) env) is
      ∙ handed_block (means_before p f.left f.at) d.name k b env kinds

  pub kept_bound : (f : Ahead) (d : Handed) (k : Kind) (b : Block) (cells : List Cell) (kept : Kept)
      → d.by ≡ by.Block k b → IsBlockKind k → kept ≡ kept_of f k b
      → held_means p input cells (held.Block kept)
      ≡ handed_binding (means_before p f.left f.at) d.name (view_by d.by) (env_at cells f.env)
  kept_bound f d k b cells kept is kinds keeps =
      let ms : List OpMeans = means_before p f.left f.at in
      let env : RunEnv = env_at cells f.env in
      let block : BoundBlock → Binding BoundBlock = λ x. BlockOf x in
      ap (λ (x : Kept). held_means p input cells (held.Block x)) keeps
      ∙ (ap block (kept_outcome p cells f k b)
      ∙ (sym (bound_kind k (block_gives ms b (pos 0) env) kinds)
      ∙ sym (ap (λ (x : code_by.HandedBy). handed_binding ms d.name (view_by x) env) is)))

  -- a block whose text is gathered
  pub hand_gathers : (old new : Machine) (f : Ahead) (h : Handing) (d : Handed) (b : Block) (n : ℕ) → Hands p old f h d
      → d.by ≡ by.Block kind.Text b → new.top ≡ frame.Ops (child_at f b (pos 0) (length old.bound))
      → new.below ≡ frame.Gather f (purpose.Hand h) ∷ old.below → new.texts ≡ [] ∷ old.texts
      → new.bound ≡ old.bound → Silent p input old new n n
  hand_gathers old new f h d b n hands is top below texts bound =
      let len : ℕ = length old.bound in
      let cells : List Cell = cells_of p input old.bound in
      let env : RunEnv = env_at cells f.env in
      let ms : List OpMeans = means_before p f.left f.at in
      let o : Outcome = block_gives ms b (pos 0) env in
      let next : List ℕ → Outcome = λ text. call_past old f h d.name (Known (StringValue text)) in
      let w = handed_call (slice_get p.ops f.at) h.next d hands.given in
      let old_fits : FramesFit (frame.Call f h ∷ old.below) len =
      fits_top p input old (frame.Call f h) hands.top hands.fits in
      let within = old_fits.0 in (
        none_spent,
        record {
          same =
              hand_gives old f h d hands
              ∙ (ap (λ (x : code_by.HandedBy). below_call old f (continued_by (handed_gives ms (view_by x) env)
              (call_past old f h d.name (handed_binding ms d.name (view_by x) env)))) is
              ∙ (ap (λ (x : Outcome). below_call old f x) (gathered_whole [] o next)
              ∙ (ap (λ (name : Name). below_call old f (gathered [] o
              (λ text. call_past old f h name (Known (StringValue text))))) (sym (named f h d w.0 w.1 w.2))
              ∙ (sym (gathers p input old.bound old.below old.texts f (purpose.Hand h) b)
              ∙ (sym (machine_is p input new (frame.Ops (child_at f b (pos 0) len))
              (frame.Gather f (purpose.Hand h) ∷ old.below) ([] ∷ old.texts) old.bound top below texts bound)
              ∙ sym (first_none (machine_gives p input new)))))));
          cost = (let e : n ≡ n + 0 = omega arith in e);
          falls =
              (let new_is : pending p new.top ≡ 0 = ap (pending p) top in
              let old_is : pending p old.top ≡ 1 + (given_count (slice_get p.ops f.at) - h.next) =
              ap (pending p) hands.top in
              let less : pending p new.top < pending p old.top = omega (arith, new_is, old_is) in
              below_more (pending p new.top) (pending p old.top) (0 * weight p) less);
          fits =
              (let low : f.env ≤ len = omega (arith, within) in
              let e : len ≤ len = omega arith in
              fits_is p input new (frame.Ops (child_at f b (pos 0) len)) (frame.Gather f (purpose.Hand h) ∷ old.below)
              old.bound top below bound (low, e, (old_fits.0, old_fits.1, old_fits.2)));
        },
      )
