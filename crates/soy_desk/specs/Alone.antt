-- A rendering that is pulled alone, and when two Rests are the same.
--
-- Two Rests are the same where the bytes of the piece that has begun, the pieces to come and the ends are the same:
-- what is spent isn't compared.
-- Example: a pull that memory refused leaves the same Rest.
use Rattle.std.specs.Prelude.{◌≡◌, ℕ, Bool, List, [], ◌∷◌, ◌++◌, Ok, Err, take}
use Rattle.soy_base.specs.Piece.{Piece}
use Rattle.soy_base.specs.declared.memory.Refusal.TheVariants.{Because, OutOfMemory}
use Rattle.soy_pieces.specs.Outcome.{RunEnd, end_of_outcome, pieces_of_outcome}
use Rattle.render_core.specs.Rest.{Rest}
use Rattle.soy_desk.specs.DeskRun.{PullCall, PullsRest, RenderingAnswer}

-- pulls, one after the other
abbrev pub Alone : Rest → Bool → List (PullCall RenderingAnswer) → Rest → Bool → Type 0
Alone old done [] new done_after = (new ≡ old) × (done_after ≡ done)
Alone old done (c ∷ calls) new done_after =
    (rest : Rest) × (is_done : Bool) × PullsRest old done c rest is_done × Alone rest is_done calls new done_after

-- what is left to give, whatever is spent on it
pub record Left : Type 0 where
  pub begun : List ℕ
  pub pieces : List Piece
  pub end : RunEnd

abbrev pub left_of : Rest → Left
left_of rest = record {
  begun = rest.begun;
  pieces = pieces_of_outcome rest.coming;
  end = end_of_outcome rest.coming;
}

-- not refused by memory
abbrev pub IsNotMemory : RenderingAnswer → Type 0
IsNotMemory (Ok n) = Unit {0}
IsNotMemory (Err (Because call)) = Unit {0}
IsNotMemory (Err OutOfMemory) = ⊥

abbrev pub NoneRefused : List (PullCall RenderingAnswer) → Type 0
NoneRefused [] = Unit {0}
NoneRefused (c ∷ calls) = IsNotMemory c.answer × NoneRefused calls

-- the rooms of pulls, and their answers with what then lies in the room
abbrev pub rooms_of : List (PullCall RenderingAnswer) → List (List ℕ)
rooms_of [] = []
rooms_of (c ∷ calls) = c.room ∷ rooms_of calls

abbrev pub answers_of : List (PullCall RenderingAnswer) → List (RenderingAnswer × List ℕ)
answers_of [] = []
answers_of (c ∷ calls) = (c.answer, c.room_after) ∷ answers_of calls

-- the bytes that pulls gave, joined
abbrev pub bytes_given : RenderingAnswer → List ℕ → List ℕ
bytes_given (Ok n) room = take n room
bytes_given (Err refused) room = []

abbrev pub all_given : List (PullCall RenderingAnswer) → List ℕ
all_given [] = []
all_given (c ∷ calls) = bytes_given c.answer c.room_after ++ all_given calls
