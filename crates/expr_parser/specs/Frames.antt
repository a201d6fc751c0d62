-- What is open around the tokens to come, the innermost first, and closing it by precedence: an operator takes its
-- last operand where a token follows that doesn't bind more tightly.
-- Example: at the second `-` of `1 - 2 - 3` the operator of `1 -` takes the 2, and at the `*` of `1 - 2 * 3` it
-- doesn't.
use Rattle.std.specs.Prelude.{ℕ, max, nat_le, List, [], ◌∷◌, if◌then◌else◌}
use Rattle.expr_parser.specs.declared.frame.Pending.{Pending}
use Rattle.expr_parser.specs.declared.frame.Pending.TheVariants as pending
use Rattle.expr_parser.specs.declared.frame.Bracket.{Bracket}
use Rattle.expr_parser.specs.declared.frame.Bracket.TheVariants as bracket
use Rattle.expr_parser.specs.declared.frame.Frame.{Frame}
use Rattle.expr_parser.specs.declared.frame.Frame.TheVariants as frame
use Rattle.expr_parser.specs.declared.operand.Operand.{Operand}
use Rattle.expr_parser.specs.Depths.{deeper}
use Rattle.expr_parser.specs.Operands.{negated, inverted, combined, coalesced, conditional, level_of}

-- an operand, and the frames in which it stands
pub record Nested : Type 0 where
  pub frames : List Frame
  pub operand : Operand

abbrev pub in_frames : List Frame → Operand → Nested
in_frames frames x = record { frames = frames; operand = x }

-- the level of an operator that waits for its last operand
abbrev pub level : Pending → ℕ
level (pending.Neg span) = 2
level (pending.Not span) = 2
level (pending.Binary op a) = level_of op
level (pending.Coalesce a) = 9
level (pending.Else c a) = 9

abbrev pub closed : Pending → Operand → Operand
closed (pending.Neg span) x = negated span x
closed (pending.Not span) x = inverted span x
closed (pending.Binary op a) x = combined op a x
closed (pending.Coalesce a) x = coalesced a x
closed (pending.Else c a) x = conditional c a x

-- the operators that bind as tightly as the level, or tighter, take the operand as their last
abbrev pub reduced : ℕ → List Frame → Operand → Nested
reduced k [] x = record { frames = []; operand = x }
reduced k (frame.Pending p ∷ fs) x = if nat_le (level p) k then reduced k fs (closed p x) else record
    { frames = frame.Pending p ∷ fs; operand = x }
reduced k (frame.Bracket b ∷ fs) x = record { frames = frame.Bracket b ∷ fs; operand = x }

-- the nodes on the longest branch of what was read before the last operand
abbrev pub pending_branch : Pending → ℕ
pending_branch (pending.Neg span) = 0
pending_branch (pending.Not span) = 0
pending_branch (pending.Binary op a) = a.height
pending_branch (pending.Coalesce a) = a.height
pending_branch (pending.Else c a) = max c.height a.height

abbrev pub bracket_branch : Bracket → ℕ
bracket_branch (bracket.Paren span) = 0
bracket_branch (bracket.Index a safe) = a.height
bracket_branch (bracket.Then c) = c.height

abbrev pub branch : Frame → ℕ
branch (frame.Pending p) = pending_branch p
branch (frame.Bracket b) = bracket_branch b

-- the nodes on the longest branch, where a branch of this height stands inside the frames
abbrev pub raised : List Frame → ℕ → ℕ
raised [] h = h
raised (f ∷ fs) h = raised fs (deeper (branch f) h)
