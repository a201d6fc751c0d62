-- What a rendering gives at first.
use Rattle.std.proofs.Common.{◌≡◌, ℕ, zero, suc, ◌+◌, ◌≤◌, ◌<◌, pos, false, List, [], ◌∷◌, ◌++◌, Option}
use Rattle.std.proofs.Common.{Some, None}
use Rattle.std.proofs.Common.{drop, length, take, refl, sym, ap, ◌∙◌, arith, slice_index_or, subst}
use Rattle.std.specs.List.{slice_get}
use Rattle.soy_tree.specs.Types.{Name}
use Rattle.soy_rules.specs.Val.{Binding, Known, member_value}
use Rattle.soy_tree.specs.Values as values
use Rattle.soy_tree.specs.ViewTrees.{view_params}
use Rattle.soy_tree.specs.declared.tree.Param.{Param}
use Rattle.soy_expr.specs.Parts.{child}
use Rattle.soy_pieces.specs.Giving.{BoundBlock, RunEnv}
use Rattle.soy_pieces.specs.Outcome.{Outcome}
use Rattle.soy_pieces.proofs.Outcomes.{first_none}
use Rattle.template_ir.specs.Ops as ops
use Rattle.template_ir.specs.Run.{all_give, block_gives, body_there, names_there, run}
use Rattle.soy_pieces.specs.InputEnv.{input_env, names_of}
use Rattle.template_ir.specs.ViewOps.{view_program, view_routine}
use Rattle.template_ir.specs.declared.op.Block.{Block}
use Rattle.template_ir.specs.declared.program.ProgramParts.{ProgramParts}
use Rattle.template_ir.specs.declared.program.Routine.{Routine}
use Rattle.render_core.specs.Begins.{FieldFound, HasRoot, entry_frame, held_field}
use Rattle.render_core.specs.Frames.{machine_gives, ops_ahead}
use Rattle.render_core.specs.Linked.{Adds, bound_over}
use Rattle.render_core.specs.Rest.{BegunFits, DoneFits, Fits, begun_left, coming, rest_of, solid}
use Rattle.render_core.specs.Variables.{cell_at, cells_of, env_at, held_means, name_or_none, name_there, name_of_param}
use Rattle.render_core.specs.Variables.{part_held}
use Rattle.render_core.specs.declared.frame.Frame.TheVariants as frame
use Rattle.render_core.specs.declared.held.Bound.{Bound}
use Rattle.render_core.specs.declared.held.Held.{Held}
use Rattle.render_core.specs.declared.held.Held.TheVariants as held
use Rattle.render_core.specs.declared.held.Naming.TheVariants as naming
use Rattle.render_core.specs.declared.rendering.Rendering.{Rendering}
use Rattle.render_core.specs.declared.stack.Machine.{Machine}
use Rattle.render_core.proofs.Adds.{adds_env}
use Rattle.render_core.proofs.Cells.{part_there}
use Rattle.render_core.proofs.Moves.{fits_is, machine_is}
use Rattle.render_core.proofs.Ops.{get_map, get_map_none}

-- ---- parts of lists

pub get_more : {A : Type 0} (xs ys : List A) (n : ℕ) (x : A) → slice_get xs n ≡ Some x → slice_get (xs ++ ys) n ≡ Some x
get_more [] ys n x e = cc
get_more (z ∷ zs) ys zero x e = e
get_more (z ∷ zs) ys (suc n) x e = get_more zs ys n x e

item_there : {A : Type 0} (xs : List A) (n : ℕ) (x : A) → n < length xs → x ≡ slice_index_or xs n x
    → slice_get xs n ≡ Some x
item_there [] n x low is = absurd (omega arith)
item_there (z ∷ zs) zero x low is = ap (λ y. Some y) (sym is)
item_there (z ∷ zs) (suc n) x low is = item_there zs n x (omega arith) is

-- the names of the parameters from a number on
params_past : (params : List Param) (n : ℕ) (x : Param) → n < length params → x ≡ slice_index_or params n x
    → names_of (view_params (drop n params)) ≡ x.name ∷ names_of (view_params (drop (n + 1) params))
params_past [] n x low is = absurd (omega arith)
params_past (y ∷ ys) zero x low is = ap (λ (z : Param). z.name ∷ names_of (view_params ys)) (sym is)
params_past (y ∷ ys) (suc n) x low is =
    let t : suc n + 1 ≡ suc (n + 1) = omega arith in rw t (params_past ys n x (omega arith) is)

module _ (p : ProgramParts) (input : values.Value) where
  -- a block alone on the stack
  pub entry_gives : (m : Machine) (body : Block) (env : ℕ) → m.top ≡ frame.Ops (entry_frame body env) → m.below ≡ []
      → m.texts ≡ []
      → machine_gives p input m
      ≡ block_gives (all_give (view_program p) 100) body (pos 0) (env_at (cells_of p input m.bound) env)
  entry_gives m body env top below texts =
      machine_is p input m (frame.Ops (entry_frame body env)) [] [] m.bound top below texts refl
      ∙ first_none (ops_ahead p (entry_frame body env) (env_at (cells_of p input m.bound) env))

  run_some : (t : ℕ) (r : Routine) → slice_get p.templates t ≡ Some r
      → run (view_program p) t input
      ≡ block_gives (all_give (view_program p) 100) r.body (pos 0) (input_env (names_of (view_params r.params)) input)
  run_some t r is =
      ap (λ (x : Option ops.Routine). block_gives (all_give (view_program p) 100) (body_there x) (pos 0)
      (input_env (names_there x) input)) (get_map view_routine p.templates t r is)

  run_none : (t : ℕ) → slice_get p.templates t ≡ None
      → run (view_program p) t input
      ≡ block_gives (all_give (view_program p) 100) (record { first = 0; end = 0 }) (pos 0) []
  run_none t is =
      ap (λ (x : Option ops.Routine). block_gives (all_give (view_program p) 100) (body_there x) (pos 0)
      (input_env (names_there x) input)) (get_map_none view_routine p.templates t is)

  pub rest_some : (r : Rendering) (t : ℕ) (routine : Routine) (env : ℕ) → slice_get p.templates t ≡ Some routine
      → r.machine.top ≡ frame.Ops (entry_frame routine.body env) → r.machine.below ≡ [] → r.machine.texts ≡ []
      → r.piece ≡ None
      → env_at (cells_of p input r.machine.bound) env ≡ input_env (names_of (view_params routine.params)) input
      → rest_of p input r ≡ record { begun = []; coming = solid (run (view_program p) t input) }
  rest_some r t routine env is top below texts piece vars =
      ap (λ b. record (rest_of p input r) { begun = begun_left p input r.machine.bound b }) piece
      ∙ ap (λ (o : Outcome). record { begun = []; coming = solid o })
      (entry_gives r.machine routine.body env top below texts
      ∙ (ap (λ (around : RunEnv). block_gives (all_give (view_program p) 100) routine.body (pos 0) around) vars
      ∙ sym (run_some t routine is)))

  pub rest_none : (r : Rendering) (t : ℕ) → slice_get p.templates t ≡ None
      → r.machine.top ≡ frame.Ops (entry_frame (record { first = 0; end = 0 }) 0) → r.machine.below ≡ []
      → r.machine.texts ≡ [] → r.piece ≡ None
      → rest_of p input r ≡ record { begun = []; coming = solid (run (view_program p) t input) }
  rest_none r t is top below texts piece =
      ap (λ b. record (rest_of p input r) { begun = begun_left p input r.machine.bound b }) piece
      ∙ ap (λ (o : Outcome). record { begun = []; coming = solid o })
      (entry_gives r.machine (record { first = 0; end = 0 }) 0 top below texts ∙ sym (run_none t is))

  pub entry_fits : (r : Rendering) (body : Block) (env : ℕ) → r.machine.top ≡ frame.Ops (entry_frame body env)
      → r.machine.below ≡ [] → r.piece ≡ None → r.done ≡ false → env ≤ length r.machine.bound → Fits p input r
  entry_fits r body env top below piece done low = record {
    machine =
        fits_is p input r.machine (frame.Ops (entry_frame body env)) [] r.machine.bound top below refl
        (low, (let h : 0 ≤ length r.machine.bound = omega arith in h), tt);
    piece = subst (λ b. BegunFits p input r.machine.bound b) (sym piece) tt;
    done = subst (λ d. DoneFits d r.piece (coming p input r.machine)) (sym done) tt;
  }

  -- ---- parameters

  -- the part that a parameter is bound to
  root_part : (bound : List Bound) → HasRoot bound → (cell_at (cells_of p input bound) 0).part ≡ input
  root_part bound root =
      part_there p input bound 0 root.0 root.1 ∙ ap (part_held input (take 0 (cells_of p input bound))) root.2

  field_held : (bound : List Bound) (found : Option ℕ) (own : Name) → HasRoot bound → FieldFound own input found
      → held_means p input (cells_of p input bound) (held_field found) ≡ Known (member_value own input)
  field_held bound None own root found = ap Known found
  field_held bound (Some n) own root found = ap Known (ap (child n) (root_part bound root) ∙ found)

  -- the parameter of a number, among all
  pub param_next : (old new : List Bound) (template number : ℕ) (params : List Param) (x : Param) (found : Option ℕ)
      (to : Held) (below : ℕ) → HasRoot old
      → name_of_param (slice_get params number) ≡ name_there p (naming.Param template number)
      → FieldFound x.name input found → to ≡ held_field found
      → env_at (cells_of p input old) below ≡ input_env (names_of (view_params (drop (number + 1) params))) input
      → number < length params → x ≡ slice_index_or params number x
      → Adds p (bound_over (naming.Param template number) to below) old new
      → env_at (cells_of p input new) (length old + 1)
      ≡ input_env (names_of (view_params (drop number params))) input
  param_next old new template number params x found to below root named field held env low is adds =
      let own : name_there p (naming.Param template number) ≡ Some x.name =
      sym named ∙ ap name_of_param (item_there params number x low is) in
      adds_env p (bound_over (naming.Param template number) to below) old new adds input (length old + 1) refl
      ∙ (ap (λ (n : Option Name). (name_or_none n, held_means p input (cells_of p input old) to)
      ∷ env_at (cells_of p input old) below) own
      ∙ (ap (λ (b : Binding BoundBlock). (x.name, b) ∷ env_at (cells_of p input old) below)
      (ap (held_means p input (cells_of p input old)) held ∙ field_held old found x.name root field)
      ∙ (ap (λ (e : RunEnv). (x.name, Known (member_value x.name input)) ∷ e) env
      ∙ sym (ap (λ (ns : List Name). input_env ns input) (params_past params number x low is)))))

-- the first variable stays
pub root_stays : (p : ProgramParts) (b : Bound) (old new : List Bound) → Adds p b old new → HasRoot old → HasRoot new
root_stays p b old new adds root = (
  root.0,
  ap (λ (bs : List Bound). slice_get bs 0) adds.is ∙ get_more old ((record b { links = adds.links }) ∷ []) 0 root.0 root.1,
  root.2,
)

-- all data are bound to the first
pub root_first : (p : ProgramParts) (b : Bound) (old new : List Bound) → old ≡ [] → b.to ≡ held.Root
    → Adds p b old new → HasRoot new
root_first p b old new none to adds = (
  record b { links = adds.links },
  ap (λ (bs : List Bound). slice_get bs 0)
      (adds.is ∙ ap (λ (bs : List Bound). bs ++ (record b { links = adds.links }) ∷ []) none),
  to,
)
