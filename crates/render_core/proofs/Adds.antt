-- One more variable.
use Rattle.std.proofs.Common.{◌≡◌, ℕ, zero, suc, ◌+◌, ◌≤◌, List, [], ◌∷◌, ◌++◌, Option, length, take}
use Rattle.std.proofs.Common.{refl, sym, ap, ◌∙◌, arith}
use Rattle.std.specs.List.{slice_get}
use Rattle.std.proofs.Math.Seq.{take-length}
use Rattle.soy_tree.specs.Values as values
use Rattle.template_ir.specs.declared.program.ProgramParts.{ProgramParts}
use Rattle.render_core.specs.Frames.{text_bound, text_held}
use Rattle.render_core.specs.Linked.{Adds}
use Rattle.render_core.specs.Variables.{Cell, cell_at, cells_of, env_at, held_means, name_or_none, name_there}
use Rattle.render_core.specs.Variables.{part_held}
use Rattle.render_core.specs.declared.held.Bound.{Bound}
use Rattle.render_core.proofs.Cells.{cell_more, env_agree, env_more, get_end, take_end}

pub take_more : (bound : List Bound) (b : Bound) (m : ℕ) → m ≤ length bound → take m (bound ++ b ∷ []) ≡ take m bound
take_more bound b zero h = refl
take_more [] b (suc m) h = absurd (omega arith)
take_more (x ∷ bound) b (suc m) h = ap (λ (bs : List Bound). x ∷ bs) (take_more bound b m (omega arith))

pub length_more : (bound : List Bound) (b : Bound) → length (bound ++ b ∷ []) ≡ length bound + 1
length_more [] b = refl
length_more (x ∷ bound) b = let h = length_more bound b in omega (arith, h)

module _ (p : ProgramParts) (b : Bound) (old new : List Bound) (adds : Adds p b old new) where
  abbrev linked : Bound
  linked = record b { links = adds.links }

  pub adds_take : (m : ℕ) → m ≤ length old → take m new ≡ take m old
  adds_take m low = ap (take m) adds.is ∙ take_more old linked m low

  pub adds_whole : take (length old) new ≡ old
  adds_whole = ap (take (length old)) adds.is ∙ take_end old (linked ∷ [])

  pub adds_length : length new ≡ length old + 1
  adds_length = ap length adds.is ∙ length_more old linked

  pub adds_text : text_bound (slice_get new (length old)) ≡ text_held b.to
  adds_text =
      ap (λ (bs : List Bound). text_bound (slice_get bs (length old))) adds.is
      ∙ ap (λ (v : Option Bound). text_bound v) (get_end old linked)

  module _ (input : values.Value) where
    -- the variables before it
    pub adds_agree : (n : ℕ) → n ≤ length old → env_at (cells_of p input new) n ≡ env_at (cells_of p input old) n
    adds_agree n low = env_agree p input new old (length old) n (adds_whole ∙ sym (take-length old)) low

    -- from it down
    pub adds_env : (n : ℕ) → n ≡ length old + 1
        → env_at (cells_of p input new) n
        ≡ (name_or_none (name_there p b.name), held_means p input (cells_of p input old) b.to)
        ∷ env_at (cells_of p input old) b.below
    adds_env n e =
        ap (λ (bs : List Bound). env_at (cells_of p input bs) n) adds.is
        ∙ env_more p input old linked n e adds.key

    pub adds_part : (cell_at (cells_of p input new) (length old)).part ≡ part_held input (cells_of p input old) b.to
    adds_part =
        ap (λ (bs : List Bound). (cell_at (cells_of p input bs) (length old)).part) adds.is
        ∙ ap (λ (c : Cell). c.part) (cell_more p input old linked)
