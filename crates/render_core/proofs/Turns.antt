-- Loops and their turns.
use Rattle.std.proofs.Common.{◌≡◌, ℕ, zero, suc, ◌+◌, ◌≤◌, ◌<◌, pos, Bool, true, false, List, ◌∷◌}
use Rattle.std.proofs.Common.{Option, Some, None, length, take, refl, sym, ap, ◌∙◌, arith, subst}
use Rattle.std.specs.Prelude.{is_some}
use Rattle.std.specs.List.{slice_get}
use Rattle.soy_tree.specs.Types.{Name}
use Rattle.soy_rules.specs.Cost.{cost}
use Rattle.soy_rules.specs.Val.{Binding, Known, operand, val}
use Rattle.soy_tree.specs.ViewExpressions.{view_expr}
use Rattle.soy_expr.specs.Evaluates.{IsWithin}
use Rattle.soy_tree.specs.Values.{Items, IntValue, item, no_item}
use Rattle.soy_tree.specs.Values as values
use Rattle.soy_expr.specs.Parts.{child}
use Rattle.soy_expr.specs.declared.evaluated.Made.TheVariants as made
use Rattle.soy_pieces.specs.Giving.{BoundBlock, RunEnv}
use Rattle.soy_pieces.specs.Outcome.{Outcome, RunEnds, WholeRun, continued_by, spent_first}
use Rattle.soy_pieces.specs.Pieces.{listed_items, with_index}
use Rattle.template_ir.specs.Run.{block_gives, one_step, turns_give}
use Rattle.template_ir.specs.declared.op.Block.{Block}
use Rattle.template_ir.specs.declared.op.Op.{Op}
use Rattle.template_ir.specs.declared.op.Op.TheVariants as op
use Rattle.template_ir.specs.declared.program.ProgramParts.{ProgramParts}
use Rattle.soy_tree.specs.declared.expr.Expr as code_expr
use Rattle.render_core.specs.Finds.{HasItem, found_means, held_of}
use Rattle.render_core.specs.Frames.{FramesFit, IsPlainFrame, MachineFits, frame_gives, items_after}
use Rattle.render_core.specs.Frames.{means_before, ops_ahead}
use Rattle.render_core.specs.Frames.{over, past, turns_of}
use Rattle.render_core.specs.Linked.{Adds}
use Rattle.render_core.specs.Rounds.{AddsTurn, IsLoopOver, IsNoLoop, LoopAt, first_round, index_bound, item_bound}
use Rattle.render_core.specs.Rounds.{list_bound, turn_child, turn_env, turned}
use Rattle.render_core.specs.Stepping.{GoesIn, IsSame, Silent, Stays, pending}
use Rattle.render_core.specs.Variables.{Cell, cell_at, cells_of, env_at, name_or_none, name_there, part_held}
use Rattle.render_core.specs.Variables.{index_name, of_op, op_name}
use Rattle.render_core.specs.declared.frame.Ahead.{Ahead}
use Rattle.render_core.specs.declared.frame.Frame.{Frame}
use Rattle.render_core.specs.declared.frame.Frame.TheVariants as frame
use Rattle.render_core.specs.declared.frame.Round.{Round}
use Rattle.render_core.specs.declared.held.Bound.{Bound}
use Rattle.render_core.specs.declared.held.Naming.TheVariants as naming
use Rattle.render_core.specs.declared.held.Path.TheVariants as path
use Rattle.render_core.specs.declared.stack.Machine.{Machine}
use Rattle.render_core.specs.declared.valuing.Found.{Found}
use Rattle.render_core.specs.declared.valuing.Found.TheVariants as found
use Rattle.render_core.proofs.Adds.{adds_agree, adds_env, adds_length, adds_part, adds_take, adds_whole}
use Rattle.render_core.proofs.Leaves.{plain_top}
use Rattle.render_core.proofs.Machines.{entered}
use Rattle.render_core.proofs.Moves.{fits_is, fits_top, machine_is, silent_in, stays_in}
use Rattle.render_core.proofs.Ops.{block_within}
use Rattle.render_core.proofs.Overs.{over_first}

-- ---- items

-- the items past the first of those after a number
pub items_tail : (n : ℕ) (vs : Items) (v : values.Value) (rest : Items) → items_after n vs ≡ item v rest
    → items_after (n + 1) vs ≡ rest
items_tail n no_item v rest e = none n e
  where
    none : (n : ℕ) → items_after n no_item ≡ item v rest → items_after (n + 1) no_item ≡ rest
    none zero h = let no : ⊥ = cc in absurd no
    none (suc n) h = let no : ⊥ = cc in absurd no
items_tail zero (item w vs) v rest e = cc
items_tail (suc n) (item w vs) v rest e =
    let t : suc n + 1 ≡ suc (n + 1) = omega arith in rw t (items_tail n vs v rest e)

-- the items of what is bound are those of what was found
pub items_found : (p : ProgramParts) (input : values.Value) (cells : List Cell) (f : Found)
    → listed_items (part_held input cells (held_of f)) ≡ listed_items (operand (found_means p cells f))
items_found p input cells (found.Made made.Null) = refl
items_found p input cells (found.Made (made.Bool b)) = refl
items_found p input cells (found.Made (made.Int n)) = refl
items_found p input cells (found.Made (made.Str text)) = refl
items_found p input cells (found.Part (path.Whole of)) = refl
items_found p input cells (found.Part (path.Child of number)) = refl
items_found p input cells (found.Part (path.Deep of steps)) = refl
items_found p input cells (found.Block kept) = refl

-- ---- the variables of a turn, by those that were bound one after the other

module _ (p : ProgramParts) (r : Round) (has : Bool) (old : List Bound) where
  pub turn_unindexed : (new : List Bound) → has ≡ false → Adds p (item_bound r) old new → AddsTurn p r has old new
  turn_unindexed new none adds = subst (λ (h : Bool). AddsTurn p r h old new) (sym none) adds

  pub turn_indexed : (between new : List Bound) (env : ℕ) → has ≡ true → Adds p (item_bound r) old between
      → env ≡ length old + 1 → Adds p (index_bound r env) between new → AddsTurn p r has old new
  turn_indexed between new env some first is adds =
      subst (λ (h : Bool). AddsTurn p r h old new) (sym some) (record {
        between = between;
        item = first;
        index = subst (λ n. Adds p (index_bound r n) between new) is adds;
      })

  pub env_unindexed : (n : ℕ) → has ≡ false → n ≡ length old + 1 → n ≡ turn_env has (length old)
  env_unindexed n none is = is ∙ ap (λ (h : Bool). turn_env h (length old)) (sym none)

  pub env_indexed : (between : List Bound) (n : ℕ) → has ≡ true → Adds p (item_bound r) old between
      → n ≡ length between + 1 → n ≡ turn_env has (length old)
  env_indexed between n some first is =
      is ∙ (ap (λ k. k + 1) (adds_length p (item_bound r) old between first)
      ∙ ap (λ (h : Bool). turn_env h (length old)) (sym some))

module _ (p : ProgramParts) (input : values.Value) where
  -- ---- the beginning of a loop

  turns_begin : (old new : List Bound) (f : Ahead) (x : Found) (name : Name) (index : Option Name) (e : code_expr.Expr)
      (body : Block) → f.env ≤ length old → slice_get p.ops f.at ≡ Some (op.For name index e body)
      → Adds p (list_bound x) old new
      → frame_gives p input new (frame.Turns (first_round f (length old)))
      ≡ turns_give (block_gives (means_before p f.left f.at) body (pos 0)) name index
      (env_at (cells_of p input old) f.env) 0 (listed_items (operand (found_means p (cells_of p input old) x)))
  turns_begin old new f x name index e body low is adds =
      let r : Round = first_round f (length old) in
      let run : RunEnv → Outcome = block_gives (means_before p f.left f.at) body (pos 0) in
      let items : Items = listed_items (cell_at (cells_of p input new) (length old)).part in
      ap (turns_of p (cells_of p input new) r) is
      ∙ (ap (λ (env : RunEnv). turns_give run name index env 0 items)
      (adds_agree p (list_bound x) old new adds input f.env low)
      ∙ ap (λ (vs : Items). turns_give run name index (env_at (cells_of p input old) f.env) 0 vs)
      (ap (λ (v : values.Value). listed_items v) (adds_part p (list_bound x) old new adds input)
      ∙ items_found p input (cells_of p input old) x))

  pub loop_does : (old new : Machine) (f : Ahead) (x : Found) (name : Name) (index : Option Name) (e : code_expr.Expr)
      (body : Block) → old.top ≡ frame.Ops f → MachineFits old → slice_get p.ops f.at ≡ Some (op.For name index e body)
      → new.top ≡ frame.Turns (first_round f (length old.bound))
      → new.below ≡ frame.Ops (past f) ∷ old.below → new.texts ≡ old.texts
      → Adds p (list_bound x) old.bound new.bound
      → GoesIn p input old new f
      (turns_give (block_gives (means_before p f.left f.at) body (pos 0)) name index
      (env_at (cells_of p input old.bound) f.env) 0
      (listed_items (operand (found_means p (cells_of p input old.bound) x))))
  loop_does old new f x name index e body old_top fits is top below texts adds =
      let n : ℕ = length old.bound in
      let r : Round = first_round f n in
      let fs : List Frame = frame.Ops (past f) ∷ old.below in
      let old_fits : FramesFit (frame.Ops f ∷ old.below) n = fits_top p input old (frame.Ops f) old_top fits in
      let more : length new.bound ≡ n + 1 = adds_length p (list_bound x) old.bound new.bound adds in
      record {
        gives =
            machine_is p input new (frame.Turns r) fs old.texts new.bound top below texts refl
            ∙ (plain_top p input new.bound (frame.Turns r) fs old.texts tt
            ∙ (ap (λ (bs : List Bound). over p input bs fs old.texts (frame_gives p input new.bound (frame.Turns r)))
            (adds_whole p (list_bound x) old.bound new.bound adds)
            ∙ ap (λ (o : Outcome). over p input old.bound fs old.texts o)
            (turns_begin old.bound new.bound f x name index e body old_fits.0 is adds)));
        fits =
            fits_is p input new (frame.Turns r) fs new.bound top below refl (
              (
                (let a = old_fits.0 in let h : f.env ≤ length new.bound = omega (arith, more, a) in h),
                (let h : n < length new.bound = omega (arith, more) in h),
              ),
              (let h : n ≤ length new.bound = omega (arith, more) in h),
              old_fits,
            );
        quiet = ap (pending p) top;
      }

  -- the same of a loop over a list that was found
  pub loop_step : (old new : Machine) (f : Ahead) (x : Found) (list : code_expr.Expr) (o : Op) (before after : ℕ)
      → old.top ≡ frame.Ops f → MachineFits old → slice_get p.ops f.at ≡ Some o → IsLoopOver list o → f.at < f.end
      → found_means p (cells_of p input old.bound) x
      ≡ val (view_expr list) (env_at (cells_of p input old.bound) f.env)
      → after ≡ before + cost (view_expr list) (env_at (cells_of p input old.bound) f.env)
      → new.top ≡ frame.Turns (first_round f (length old.bound))
      → new.below ≡ frame.Ops (past f) ∷ old.below → new.texts ≡ old.texts
      → Adds p (list_bound x) old.bound new.bound → Silent p input old new before after
  loop_step old new f x list (op.For name index e body) before after old_top fits is over low means cost_is top below
      texts adds =
      let env : RunEnv = env_at (cells_of p input old.bound) f.env in
      let run : RunEnv → Outcome = block_gives (means_before p f.left f.at) body (pos 0) in
      let found : found_means p (cells_of p input old.bound) x ≡ val (view_expr e) env =
      means ∙ ap (λ y. val (view_expr y) env) (sym over) in
      silent_in p input old new f (op.For name index e body) (cost (view_expr e) env) _ before after old_top is low refl
      (cost_is ∙ ap (λ y. before + cost (view_expr y) env) (sym over))
      (subst (λ (b : Binding BoundBlock). GoesIn p input old new f
      (turns_give run name index env 0 (listed_items (operand b)))) found
      (loop_does old new f x name index e body old_top fits is top below texts adds))
  loop_step old new f x list _ before after old_top fits is over low means cost_is top below texts adds = absurd over

  pub loop_stays : (old new : Machine) (f : Ahead) (list : code_expr.Expr) (o : Op) (before after : ℕ)
      → old.top ≡ frame.Ops f → MachineFits old → slice_get p.ops f.at ≡ Some o → IsLoopOver list o → f.at < f.end
      → IsWithin (cost (view_expr list) (env_at (cells_of p input old.bound) f.env)) before after
      → IsSame old new → Stays p input old new before after
  loop_stays old new f list (op.For name index e body) before after top fits is over low within same =
      let env : RunEnv = env_at (cells_of p input old.bound) f.env in
      stays_in p input old new f (op.For name index e body) (cost (view_expr e) env) _ before after top is low refl
      (subst (λ y. IsWithin (cost (view_expr y) env) before after) (sym over) within) fits same
  loop_stays old new f list _ before after top fits is over low within same = absurd over

  -- ---- the end of a loop

  pub turns_over : (cells : List Cell) (r : Round) (o : Option Op)
      → items_after r.next (listed_items (cell_at cells r.list).part) ≡ no_item
      → turns_of p cells r o ≡ RunEnds (one_step 0) WholeRun
  turns_over cells r (Some (op.For name index e body)) none =
      ap (turns_give (block_gives (means_before p r.left r.op) body (pos 0)) name index (env_at cells r.env) r.next)
      none
  turns_over cells r _ none = refl

  pub turns_lost : (cells : List Cell) (r : Round) (o : Option Op) → IsNoLoop o
      → turns_of p cells r o ≡ RunEnds (one_step 0) WholeRun
  turns_lost cells r (Some (op.For name index e body)) lost = absurd lost
  turns_lost cells r _ lost = refl

  -- ---- turns

  abbrev turn_adds : Round → Bool → RunEnv → RunEnv
  turn_adds r true env = (name_or_none (name_there p (naming.Index r.op)), Known (IntValue (pos r.next))) ∷ env
  turn_adds r false env = env

  -- the variables of a turn depend on those before it
  turn_whole : (r : Round) (has : Bool) (old new : List Bound) → AddsTurn p r has old new
      → take (length old) new ≡ old
  turn_whole r false old new adds = adds_whole p (item_bound r) old new adds
  turn_whole r true old new adds =
      let size : length adds.between ≡ length old + 1 = adds_length p (item_bound r) old adds.between adds.item in
      adds_take p (index_bound r (length old + 1)) adds.between new adds.index (length old) (omega (arith, size))
      ∙ adds_whole p (item_bound r) old adds.between adds.item

  length_turn : (r : Round) (has : Bool) (old new : List Bound) → AddsTurn p r has old new
      → (length new ≡ turn_env has (length old)) × (length old ≤ length new)
  length_turn r false old new adds =
      let e : length new ≡ length old + 1 = adds_length p (item_bound r) old new adds in (e, omega (arith, e))
  length_turn r true old new adds =
      let e : length adds.between ≡ length old + 1 = adds_length p (item_bound r) old adds.between adds.item in
      let h : length new ≡ length old + 1 + 1 =
      adds_length p (index_bound r (length old + 1)) adds.between new adds.index ∙ ap (λ k. k + 1) e in
      (h, omega (arith, h))

  turn_vars : (old new : List Bound) (r : Round) (has : Bool) (v : values.Value) → AddsTurn p r has old new
      → v ≡ child r.next (cell_at (cells_of p input old) r.list).part
      → env_at (cells_of p input new) (turn_env has (length old))
      ≡ turn_adds r has
      ((name_or_none (name_there p (naming.Op r.op)), Known v) ∷ env_at (cells_of p input old) r.env)
  turn_vars old new r false v adds is =
      adds_env p (item_bound r) old new adds input (length old + 1) refl
      ∙ ap (λ w. (name_or_none (name_there p (naming.Op r.op)), Known w) ∷ env_at (cells_of p input old) r.env)
      (sym is)
  turn_vars old new r true v adds is =
      let n : ℕ = length old in
      let size : length adds.between ≡ n + 1 = adds_length p (item_bound r) old adds.between adds.item in
      adds_env p (index_bound r (n + 1)) adds.between new adds.index input (n + 1 + 1) (ap (λ k. k + 1) (sym size))
      ∙ ap (λ (around : RunEnv). (name_or_none (name_there p (naming.Index r.op)), Known (IntValue (pos r.next)))
      ∷ around)
      (adds_env p (item_bound r) old adds.between adds.item input (n + 1) refl
      ∙ ap (λ w. (name_or_none (name_there p (naming.Op r.op)), Known w) ∷ env_at (cells_of p input old) r.env)
      (sym is))

  -- they are those that the op binds in a turn
  named_turn : (r : Round) (name : Name) (index : Option Name) (e : code_expr.Expr) (body : Block) (env : RunEnv)
      (v : values.Value) → slice_get p.ops r.op ≡ Some (op.For name index e body)
      → turn_adds r (is_some index) ((name_or_none (name_there p (naming.Op r.op)), Known v) ∷ env)
      ≡ with_index index r.next ((name, Known v) ∷ env)
  named_turn r name None e body env v is =
      ap (λ (o : Option Op). (name_or_none (of_op op_name o), Known v) ∷ env) is
  named_turn r name (Some index) e body env v is =
      ap (λ (o : Option Op). (name_or_none (of_op index_name o), Known (IntValue (pos r.next)))
      ∷ (name_or_none (of_op op_name o), Known v) ∷ env) is

  -- a turn goes into the body, with the turns past it below
  pub turn_does : (old new : Machine) (r : Round) (name : Name) (index : Option Name) (e : code_expr.Expr)
      (body : Block) (v : values.Value) (rest : Items) (n : ℕ) → old.top ≡ frame.Turns r → MachineFits old
      → slice_get p.ops r.op ≡ Some (op.For name index e body)
      → items_after r.next (listed_items (cell_at (cells_of p input old.bound) r.list).part) ≡ item v rest
      → v ≡ child r.next (cell_at (cells_of p input old.bound) r.list).part
      → new.top
      ≡ frame.Ops (turn_child r body (turn_env (is_some index) (length old.bound)) (length old.bound))
      → new.below ≡ frame.Turns (turned r) ∷ old.below → new.texts ≡ old.texts
      → AddsTurn p r (is_some index) old.bound new.bound → Silent p input old new n n
  turn_does old new r name index e body v rest n old_top fits is some item_is top below texts adds =
      let len : ℕ = length old.bound in
      let cells : List Cell = cells_of p input old.bound in
      let c : Ahead = turn_child r body (turn_env (is_some index) len) len in
      let fs : List Frame = frame.Turns (turned r) ∷ old.below in
      let old_fits : FramesFit (frame.Turns r ∷ old.below) len = fits_top p input old (frame.Turns r) old_top fits in
      let run : RunEnv → Outcome = block_gives (means_before p r.left r.op) body (pos 0) in
      let env : RunEnv = env_at cells r.env in
      let inner : RunEnv = with_index index r.next ((name, Known v) ∷ env) in
      let size = length_turn r (is_some index) old.bound new.bound adds in
      let vars : env_at (cells_of p input new.bound) c.env ≡ inner =
      turn_vars old.bound new.bound r (is_some index) v adds item_is
      ∙ named_turn r name index e body env v is in
      let tail : items_after (r.next + 1) (listed_items (cell_at cells r.list).part) ≡ rest =
      items_tail r.next (listed_items (cell_at cells r.list).part) v rest some in
      let now : frame_gives p input old.bound (frame.Turns r)
      ≡ spent_first (one_step 0) (continued_by (run inner) (turns_give run name index env (r.next + 1) rest)) =
      ap (turns_of p cells r) is ∙ ap (turns_give run name index env r.next) some in
      let next : frame_gives p input old.bound (frame.Turns (turned r))
      ≡ turns_give run name index env (r.next + 1) rest =
      ap (turns_of p cells (turned r)) is ∙ ap (turns_give run name index env (r.next + 1)) tail in (
        one_step 0,
        record {
          same =
              machine_is p input old (frame.Turns r) old.below old.texts old.bound old_top refl refl refl
              ∙ (plain_top p input old.bound (frame.Turns r) old.below old.texts tt
              ∙ (ap (λ (o : Outcome). over p input (take r.mark old.bound) old.below old.texts o) now
              ∙ (over_first p input old.below (take r.mark old.bound) old.texts (one_step 0) _
              ∙ ap (spent_first (one_step 0))
              (ap (λ (o : Outcome). over p input (take r.mark old.bound) old.below old.texts
              (continued_by (run inner) o)) (sym next)
              ∙ (ap (λ (o : Outcome). over p input old.bound fs old.texts o)
              (block_within p r.left r.op body (pos 0) inner
              ∙ ap (λ (around : RunEnv). ops_ahead p c around) (sym vars))
              ∙ (sym (entered p input old.bound new.bound fs old.texts c (turn_whole r (is_some index) old.bound new.bound adds))
              ∙ sym (machine_is p input new (frame.Ops c) fs old.texts new.bound top below texts refl)))))));
          cost = (let h : n ≡ n + 0 = omega arith in h);
          falls = (let q : pending p new.top ≡ 0 = ap (pending p) top in omega (arith, q));
          fits =
              fits_is p input new (frame.Ops c) fs new.bound top below refl (
                (let h : c.env ≤ length new.bound = omega (arith, size.0) in h),
                (let h : len ≤ length new.bound = omega (arith, size.1) in h),
                old_fits,
              );
        },
      )

  -- the same with what is found
  pub turn_goes : (old new : Machine) (r : Round) (index : Option Name) (body : Block) (has : Bool) (n : ℕ)
      → old.top ≡ frame.Turns r → MachineFits old → has ≡ is_some index
      → LoopAt (Some (index, body)) (slice_get p.ops r.op)
      → HasItem r.next (cell_at (cells_of p input old.bound) r.list).part true
      → new.top ≡ frame.Ops (turn_child r body (turn_env has (length old.bound)) (length old.bound))
      → new.below ≡ frame.Turns (turned r) ∷ old.below → new.texts ≡ old.texts
      → AddsTurn p r has old.bound new.bound → Silent p input old new n n
  turn_goes old new r index body has n old_top fits indexed loop items top below texts adds =
      let len : ℕ = length old.bound in
      turn_does old new r loop.0 index loop.1 body items.0 items.1 n old_top fits loop.2 items.2 items.3
      (top ∙ ap (λ (h : Bool). frame.Ops (turn_child r body (turn_env h len) len)) indexed) below texts
      (subst (λ (h : Bool). AddsTurn p r h old.bound new.bound) indexed adds)

  -- a loop without a next item, or an op that is none, gives nothing more
  pub turns_end : (m : Machine) (r : Round) → m.top ≡ frame.Turns r
      → HasItem r.next (cell_at (cells_of p input m.bound) r.list).part false
      → frame_gives p input m.bound m.top ≡ RunEnds (one_step 0) WholeRun
  turns_end m r top none =
      ap (λ (f : Frame). frame_gives p input m.bound f) top
      ∙ turns_over (cells_of p input m.bound) r (slice_get p.ops r.op) none

  pub turns_none : (m : Machine) (r : Round) → m.top ≡ frame.Turns r → IsNoLoop (slice_get p.ops r.op)
      → frame_gives p input m.bound m.top ≡ RunEnds (one_step 0) WholeRun
  turns_none m r top lost =
      ap (λ (f : Frame). frame_gives p input m.bound f) top
      ∙ turns_lost (cells_of p input m.bound) r (slice_get p.ops r.op) lost

  pub turns_plain : (m : Machine) (r : Round) → m.top ≡ frame.Turns r → IsPlainFrame m.top
  turns_plain m r top = subst IsPlainFrame (sym top) tt
