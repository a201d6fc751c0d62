-- Ops that are made for something, and that stand for it wherever further ops are put.
--
-- While a list of nodes is compiled, blocks are put at the end of all ops, and the list's own ops are kept apart until
-- they are put there in one range. So what is said of ops is said of all ops that begin with those so far and have the
-- own ones somewhere behind them.
-- Example: the own op of `{$x}` stands for it wherever it stands.
use Rattle.std.specs.Prelude.{◌≡◌, ℕ, ◌+◌, ◌≤◌, List, [], ◌∷◌, ◌++◌, Some, length, slice_get, take}
use Rattle.template_ir.specs.Ops.{Op}
use Rattle.template_ir.specs.ViewOps.{view_ops}
use Rattle.template_ir.specs.declared.op.Block.{Block}
use Rattle.ir_build.specs.declared.output.Output.{Output}

-- these ops stand among all from a position on
abbrev pub HasAt : List Op → ℕ → List Op → Type 0
HasAt [] at all = Unit {0}
HasAt (o ∷ os) at all = (slice_get all at ≡ Some o) × HasAt os (at + 1) all

-- the ops so far, and how many holes came so far
pub record Made : Type 0 where
  pub ops : List Op
  pub holes : ℕ

abbrev pub view_output : Output → Made
view_output o = record { ops = view_ops o.ops.items; holes = o.holes }

-- with more ops at the end
abbrev pub with_ops : Made → List Op → Made
with_ops m more = record { ops = m.ops ++ more; holes = m.holes }

-- with so many holes more come
abbrev pub with_holes : Made → ℕ → Made
with_holes m count = record { ops = m.ops; holes = m.holes + count }

-- with the ops past a length dropped
abbrev pub cut_output : ℕ → Output → Made
cut_output n o = record { ops = view_ops (take n o.ops.items); holes = o.holes }

-- with the next hole come
abbrev pub with_hole : Made → Made
with_hole m = with_holes m 1

-- the block of ops that are put at the end
abbrev pub laid_block : Made → List Op → Block
laid_block m own = record { first = length m.ops; end = length m.ops + length own }

-- own ops are added, over blocks that are put at the end of all, so that they stand for something with so many holes,
-- by the number of its first hole and by all ops, the position of the own ones and their end
pub record Pushes (Stands : ℕ → List Op → ℕ → ℕ → Type 0) (count : ℕ) (old new : Made) (own own_after : List Op)
    : Type 0 where
  pub holes : new.holes ≡ old.holes + count
  pub inner : List Op
  pub ops : new.ops ≡ old.ops ++ inner
  pub added : List Op
  pub own_ops : own_after ≡ own ++ added
  pub stands : (all : List Op) (at : ℕ) → HasAt new.ops 0 all → length new.ops ≤ at → HasAt added at all
      → Stands old.holes all at (at + length added)

-- blocks are put at the end of all ops, so that they stand for something with so many holes, by the number of its first
-- hole and by all ops and a position behind the blocks
pub record Lays (Stands : ℕ → List Op → ℕ → Type 0) (count : ℕ) (old new : Made) : Type 0 where
  pub holes : new.holes ≡ old.holes + count
  pub inner : List Op
  pub ops : new.ops ≡ old.ops ++ inner
  pub stands : (all : List Op) (before : ℕ) → HasAt new.ops 0 all → length new.ops ≤ before
      → Stands old.holes all before
