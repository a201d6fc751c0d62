-- Variables: those of a number depend on those before it alone.
use Rattle.std.proofs.Common.{◌≡◌, ℕ, zero, suc, ◌+◌, ◌≤◌, ◌<◌, List, [], ◌∷◌, ◌++◌, Some, None}
use Rattle.std.proofs.Common.{length, true}
use Rattle.std.proofs.Common.{take, refl, sym, ap, ◌∙◌, arith, slice_index_or}
use Rattle.std.specs.List.{slice_get}
use Rattle.soy_tree.specs.Values as values
use Rattle.soy_base.specs.Table.{table, table_from}
use Rattle.template_ir.specs.declared.program.ProgramParts.{ProgramParts}
use Rattle.soy_base.proofs.Tables.{get_table, take_table_from}
use Rattle.render_core.specs.Keys.{fits_key}
use Rattle.render_core.specs.Variables.{Cell, bound_means, cell_at, cells_of, env_at, held_means, name_or_none}
use Rattle.render_core.specs.Variables.{name_there, part_held}
use Rattle.render_core.specs.declared.held.Bound.{Bound}
use Rattle.render_core.specs.declared.held.Held.{Held}
use Rattle.render_core.proofs.Conditions.{if_true}

index_take : {A : Type 0} (xs : List A) (n k : ℕ) (other : A) → k < n
    → slice_index_or (take n xs) k other ≡ slice_index_or xs k other
index_take xs zero k other h = absurd (omega arith)
index_take [] (suc n) k other h = refl
index_take (x ∷ xs) (suc n) zero other h = refl
index_take (x ∷ xs) (suc n) (suc k) other h = index_take xs n k other (omega arith)

pub cell_take : (cells : List Cell) (n k : ℕ) → k < n → cell_at (take n cells) k ≡ cell_at cells k
cell_take cells n k h = index_take cells n k _ h

pub env_take : (cells : List Cell) (n k : ℕ) → k ≤ n → env_at (take n cells) k ≡ env_at cells k
env_take cells n zero h = refl
env_take cells n (suc k) h = ap (λ (c : Cell). c.env) (cell_take cells n k (omega arith))

index_past : {A : Type 0} (xs : List A) (n k : ℕ) (other : A) → n ≤ k → slice_index_or (take n xs) k other ≡ other
index_past xs zero k other h = refl
index_past [] (suc n) k other h = refl
index_past (x ∷ xs) (suc n) zero other h = absurd (omega arith)
index_past (x ∷ xs) (suc n) (suc k) other h = index_past xs n k other (omega arith)

pub cell_past : (cells : List Cell) (n k : ℕ) → n ≤ k
    → cell_at (take n cells) k ≡ record { part = values.NullValue; env = [] }
cell_past cells n k h = index_past cells n k _ h

pub env_past : (cells : List Cell) (n k : ℕ) → n < k → env_at (take n cells) k ≡ []
env_past cells n zero h = absurd (omega arith)
env_past cells n (suc k) h = ap (λ (c : Cell). c.env) (cell_past cells n k (omega arith))

index_none : {A B : Type 0} (f : List B → A → B) (d : List B) (xs : List A) (k : ℕ) (other : B) → slice_get xs k ≡ None
    → slice_index_or (table_from f d xs) k other ≡ other
index_none f d [] k other e = refl
index_none f d (x ∷ xs) zero other e = cc
index_none f d (x ∷ xs) (suc k) other e = index_none f (d ++ (f d x ∷ [])) xs k other e

index_some : {A : Type 0} (xs : List A) (k : ℕ) (x other : A) → slice_get xs k ≡ Some x
    → slice_index_or xs k other ≡ x
index_some [] k x other e = cc
index_some (y ∷ ys) zero x other e = cc
index_some (y ∷ ys) (suc k) x other e = index_some ys k x other e

pub get_end : {A : Type 0} (xs : List A) (x : A) → slice_get (xs ++ x ∷ []) (length xs) ≡ Some x
get_end [] x = refl
get_end (y ∷ ys) x = get_end ys x

pub take_end : {A : Type 0} (xs ys : List A) → take (length xs) (xs ++ ys) ≡ xs
take_end [] ys = refl
take_end (x ∷ xs) ys = ap (λ zs. x ∷ zs) (take_end xs ys)

module _ (p : ProgramParts) (input : values.Value) where
  pub cells_take : (bound : List Bound) (n : ℕ)
      → cells_of p input (take n bound) ≡ take n (cells_of p input bound)
  unfolding cells_of
  cells_take bound n = sym (take_table_from (bound_means p input) [] n bound)

  -- the variables of a number are the same where those below it are
  pub env_agree : (a b : List Bound) (m n : ℕ) → take m a ≡ take m b → n ≤ m
      → env_at (cells_of p input a) n ≡ env_at (cells_of p input b) n
  env_agree a b m n same h =
      sym (env_take (cells_of p input a) m n h)
      ∙ (ap (λ cells. env_at cells n) (sym (cells_take a m) ∙ (ap (cells_of p input) same ∙ cells_take b m))
      ∙ env_take (cells_of p input b) m n h)

  pub cell_agree : (a b : List Bound) (m n : ℕ) → take m a ≡ take m b → n < m
      → cell_at (cells_of p input a) n ≡ cell_at (cells_of p input b) n
  cell_agree a b m n same h =
      sym (cell_take (cells_of p input a) m n h)
      ∙ (ap (λ cells. cell_at cells n) (sym (cells_take a m) ∙ (ap (cells_of p input) same ∙ cells_take b m))
      ∙ cell_take (cells_of p input b) m n h)

  -- a variable at a place
  pub cell_there : (bound : List Bound) (n : ℕ) (b : Bound) → slice_get bound n ≡ Some b
      → cell_at (cells_of p input bound) n ≡ bound_means p input (take n (cells_of p input bound)) b
  unfolding cells_of
  cell_there bound n b e = index_some (table (bound_means p input) bound) n _ _
      (get_table (bound_means p input) bound n b e)

  pub cell_none : (bound : List Bound) (n : ℕ) → slice_get bound n ≡ None
      → cell_at (cells_of p input bound) n ≡ record { part = values.NullValue; env = [] }
  unfolding cells_of
  cell_none bound n e = index_none (bound_means p input) [] bound n _ e

  -- the part of the data that a variable is bound to
  pub part_there : (bound : List Bound) (n : ℕ) (b : Bound) → slice_get bound n ≡ Some b
      → (cell_at (cells_of p input bound) n).part ≡ part_held input (take n (cells_of p input bound)) b.to
  part_there bound n b e = ap (λ (c : Cell). c.part) (cell_there bound n b e)

  pub part_none : (bound : List Bound) (n : ℕ) → slice_get bound n ≡ None
      → (cell_at (cells_of p input bound) n).part ≡ values.NullValue
  part_none bound n e = ap (λ (c : Cell). c.part) (cell_none bound n e)

  pub part_lower : (bound : List Bound) (n k : ℕ) → k < n
      → (cell_at (take n (cells_of p input bound)) k).part ≡ (cell_at (cells_of p input bound) k).part
  part_lower bound n k h = ap (λ (c : Cell). c.part) (cell_take (cells_of p input bound) n k h)

  pub part_lost : (bound : List Bound) (n k : ℕ) → n ≤ k
      → (cell_at (take n (cells_of p input bound)) k).part ≡ values.NullValue
  part_lost bound n k h = ap (λ (c : Cell). c.part) (cell_past (cells_of p input bound) n k h)

  -- the same of what it is bound to
  pub part_is : (bound : List Bound) (n : ℕ) (b : Bound) (h : Held) → Some b ≡ slice_get bound n → b.to ≡ h
      → part_held input (take n (cells_of p input bound)) h ≡ (cell_at (cells_of p input bound) n).part
  part_is bound n b h is to =
      sym (part_there bound n b (sym is) ∙ ap (part_held input (take n (cells_of p input bound))) to)

  -- one more variable
  pub cell_more : (bound : List Bound) (b : Bound)
      → cell_at (cells_of p input (bound ++ b ∷ [])) (length bound) ≡ bound_means p input (cells_of p input bound) b
  cell_more bound b =
      cell_there (bound ++ b ∷ []) (length bound) b (get_end bound b)
      ∙ ap (λ cells. bound_means p input cells b)
      (sym (cells_take (bound ++ b ∷ []) (length bound)) ∙ ap (cells_of p input) (take_end bound (b ∷ [])))

  pub env_more : (bound : List Bound) (b : Bound) (n : ℕ) → n ≡ length bound + 1
      → fits_key b.links (name_or_none (name_there p b.name)) ≡ true
      → env_at (cells_of p input (bound ++ b ∷ [])) n
      ≡ (name_or_none (name_there p b.name), held_means p input (cells_of p input bound) b.to)
      ∷ env_at (cells_of p input bound) b.below
  env_more bound b n e fits =
      let s : n ≡ suc (length bound) = omega arith in
      ap (λ k. env_at (cells_of p input (bound ++ b ∷ [])) k) s
      ∙ (ap (λ (c : Cell). c.env) (cell_more bound b)
      ∙ if_true (fits_key b.links (name_or_none (name_there p b.name)))
      ((name_or_none (name_there p b.name), held_means p input (cells_of p input bound) b.to)
      ∷ env_at (cells_of p input bound) b.below) (env_at (cells_of p input bound) b.below) fits)
