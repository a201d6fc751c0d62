-- What a slot of a caller's owns: nothing where it is null, and else what a box of its value owns.
--
-- Example: a slot whose bytes are all 0 is null, holds nothing and owns nothing.
use Rattle.std.specs.Prelude.{Option, None, Some}
use Rattle.std.specs.Box.Ownership.{box_owns}
use base.Fml.{Fml, ffalse, ftrue}
use denote.RattleType.{RattleType}
use denote.RawPtr.{Ptr, block_ptr, null_ptr}
use mir.Syntax.{Ty}

-- by the right to free a block
abbrev pub held_at : (Ty → Ptr → Fml) → (R : RattleType) → Ptr → Option R.Denot → Fml
held_at token R null_ptr None = ftrue
held_at token R null_ptr (Some x) = ffalse
held_at token R (block_ptr b o) None = ffalse
held_at token R (block_ptr b o) (Some x) = box_owns token R (block_ptr b o) x
