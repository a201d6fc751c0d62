-- The next op of a frame, and the end of one.
use Rattle.std.proofs.Common.{◌≡◌, ℕ, ℤ, zero, suc, ◌-◌, ◌≤◌, ◌<◌, ◌⊎◌, inl, inr, min, List, [], ◌∷◌, ◌++◌}
use Rattle.std.proofs.Common.{Some, None, map, take, drop, refl, ap, ◌∙◌, arith}
use Rattle.std.specs.List.{slice_get}
use Rattle.soy_pieces.specs.Giving.{RunEnv}
use Rattle.soy_pieces.specs.Outcome.{RunEnds, WholeRun, continued_by}
use Rattle.template_ir.specs.Run.{OpMeans, all_give, block_gives, called_at, one_step, op_gives, ops_give}
use Rattle.soy_base.specs.Table.{table_from}
use Rattle.template_ir.specs.ViewOps.{view_op, view_program}
use Rattle.template_ir.specs.declared.op.Block.{Block}
use Rattle.template_ir.specs.declared.op.Op.{Op}
use Rattle.template_ir.specs.declared.program.ProgramParts.{ProgramParts}
use Rattle.soy_base.proofs.Tables.{drop_less, get_table, part, part_cons, take_less}
use Rattle.render_core.specs.Frames.{means_before, ops_ahead, past}
use Rattle.render_core.specs.declared.frame.Ahead.{Ahead}

-- ---- parts of lists

no_items : (A : Type 0) (n : ℕ) → ◌≡◌ {A = List A} (take n []) []
no_items A zero = refl
no_items A (suc n) = refl

-- the first of the first
pub take_twice : {A : Type 0} (xs : List A) (m n : ℕ) → m ≤ n → take m (take n xs) ≡ take m xs
take_twice xs m n h = take_less xs m n m (omega arith)

-- a part of the first n is one of all that ends within them
pub part_within : {A : Type 0} (xs : List A) (n first end : ℕ)
    → part (take n xs) first end ≡ part xs first (min end n)
part_within xs n first end =
    ap (λ v. take (end - first) v) (drop_less xs first n (n - first) refl)
    ∙ take_less (drop first xs) (end - first) (n - first) (min end n - first) (omega arith)

pub get_map : {A B : Type 0} (f : A → B) (xs : List A) (n : ℕ) (x : A) → slice_get xs n ≡ Some x
    → slice_get (map f xs) n ≡ Some (f x)
get_map f [] n x e = cc
get_map f (y ∷ ys) zero x e = let s : y ≡ x = cc in ap (λ z. Some (f z)) s
get_map f (y ∷ ys) (suc n) x e = get_map f ys n x e

pub get_map_none : {A B : Type 0} (f : A → B) (xs : List A) (n : ℕ) → slice_get xs n ≡ None
    → slice_get (map f xs) n ≡ None
get_map_none f [] n e = refl
get_map_none f (y ∷ ys) zero e = cc
get_map_none f (y ∷ ys) (suc n) e = get_map_none f ys n e

drop_none : {A B C : Type 0} (f : List B → A → B) (g : C → A) (d : List B) (xs : List C) (n : ℕ) → slice_get xs n ≡ None
    → drop n (table_from f d (map g xs)) ≡ []
drop_none f g d [] zero e = refl
drop_none f g d [] (suc n) e = refl
drop_none f g d (x ∷ xs) zero e = cc
drop_none f g d (x ∷ xs) (suc n) e = drop_none f g (d ++ (f d (g x) ∷ [])) xs n e

-- ---- ops

-- what an op means where it stands
abbrev pub op_there : ProgramParts → ℕ → ℕ → Op → OpMeans
op_there p left at o = op_gives (view_program p) (called_at (view_program p) left) (means_before p left at) (view_op o)

means_there : (p : ProgramParts) (left at : ℕ) (o : Op) → slice_get p.ops at ≡ Some o
    → slice_get (all_give (view_program p) left) at ≡ Some (op_there p left at o)
unfolding all_give
means_there p left at o e =
    get_table (op_gives (view_program p) (called_at (view_program p) left)) (map view_op p.ops) at (view_op o)
    (get_map view_op p.ops at o e)

means_none : (p : ProgramParts) (left at : ℕ) → slice_get p.ops at ≡ None
    → drop at (all_give (view_program p) left) ≡ []
unfolding all_give
means_none p left at e =
    drop_none (op_gives (view_program p) (called_at (view_program p) left)) view_op [] p.ops at e

-- the ops of a frame are the next one and those past it
pub ahead_op : (p : ProgramParts) (f : Ahead) (o : Op) (env : RunEnv) → slice_get p.ops f.at ≡ Some o → f.at < f.end
    → ops_ahead p f env
    ≡ continued_by (op_there p f.left f.at o f.number env).0
    (ops_ahead p (past f) (op_there p f.left f.at o f.number env).1)
ahead_op p f o env is low =
    ap (λ (ms : List OpMeans). ops_give ms f.number env)
    (part_cons (all_give (view_program p) f.left) f.at f.end (op_there p f.left f.at o)
    (means_there p f.left f.at o is) low)

-- a frame past its last op, or past all ops, has ended
pub ahead_end : (p : ProgramParts) (f : Ahead) (env : RunEnv) → (f.end ≤ f.at) ⊎ (slice_get p.ops f.at ≡ None)
    → ops_ahead p f env ≡ RunEnds (one_step 0) WholeRun
ahead_end p f env (inl high) =
    let z : f.end - f.at ≡ 0 = omega arith in
    ap (λ k. ops_give (take k (drop f.at (all_give (view_program p) f.left))) f.number env) z
ahead_end p f env (inr none) =
    ap (λ (ms : List OpMeans). ops_give (take (f.end - f.at) ms) f.number env) (means_none p f.left f.at none)
    ∙ ap (λ (ms : List OpMeans). ops_give ms f.number env) (no_items OpMeans (f.end - f.at))

-- a block among the ops before a place is one of all ops that ends there
pub block_within : (p : ProgramParts) (left at : ℕ) (b : Block) (n : ℤ) (env : RunEnv)
    → block_gives (means_before p left at) b n env
    ≡ block_gives (all_give (view_program p) left) (record { first = b.first; end = min b.end at }) n env
block_within p left at b n env =
    ap (λ (ms : List OpMeans). ops_give ms n env) (part_within (all_give (view_program p) left) at b.first b.end)
