-- What a pull does: what it gives, what is left, and what it spends.
--
-- Where a piece has begun, its next bytes are given, and nothing is valued. Else, in a room that isn't empty, the next
-- piece begins, and the counter rises by exactly the cost of that piece; or nothing is to come, the rendering is done
-- or stops at a call, and the counter rises by at most the cost of the end. A pull that is refused leaves the room, the
-- pieces and the end: the counter rises by at most the cost of the next piece, or of the end where there is none, and
-- that cost is then at most what it was. What lies in the room behind the bytes that are given is unchanged.
-- Example: of `ab` a pull into a room of one byte gives `a`.
use Rattle.std.specs.Prelude.{◌≡◌, ℕ, ◌+◌, ◌≤◌, ◌<◌, ◌⊎◌, Bool, true, false, List, [], ◌++◌}
use Rattle.std.specs.Prelude.{Result, Ok, Err, drop, length, min, take}
use Rattle.soy_base.specs.Piece.{Piece}
use Rattle.soy_base.specs.declared.fault.TooDeep.{TooDeep}
use Rattle.soy_base.specs.declared.memory.Refusal.{Refusal}
use Rattle.soy_base.specs.declared.memory.Refusal.TheVariants as refusal
use Rattle.soy_pieces.specs.Outcome.{GivesPiece, RunEnd, Spent, StopsAt, end_of_outcome, pieces_of_outcome}
use Rattle.soy_pieces.specs.Outcome.{spent_first}
use Rattle.render_core.specs.Rest.{IsWhole, Rest, first_spent, piece_bytes}

-- the end of a run that stops at this call
abbrev pub stops_at : TooDeep → RunEnd
stops_at call = StopsAt (record { file = call.file; at = call.at })

-- the next bytes of a piece that had these left, at the beginning of the room
pub record Gave (left left_after room room_after : List ℕ) (n : ℕ) : Type 0 where
  pub size : n ≡ min (length room) (length left)
  pub given : room_after ≡ take n left ++ drop n room
  pub begun : left_after ≡ drop n left

-- the next piece, which isn't empty
pub record Next (old new : Rest) (done_before done_after : Bool) (room room_after : List ℕ)
    (before after n : ℕ) : Type 0 where
  pub spent : Spent
  pub piece : Piece
  pub is : old.coming ≡ GivesPiece spent piece new.coming
  pub some : 0 < length (piece_bytes piece)
  pub has_room : 0 < length room
  pub done : done_after ≡ done_before
  pub cost : after ≡ before + spent.cost
  pub gave : Gave (piece_bytes piece) new.begun room room_after n

-- nothing was to come, and it is known from now on
pub record AtEnd (old new : Rest) (done_before done_after : Bool) (room room_after : List ℕ)
    (before after n : ℕ) : Type 0 where
  pub none : n ≡ 0
  pub has_room : 0 < length room
  pub unchanged : room_after ≡ room
  pub begun : new.begun ≡ []
  pub old_whole : IsWhole old.coming
  pub new_whole : IsWhole new.coming
  pub was_open : done_before ≡ false
  pub is_done : done_after ≡ true
  pub low : before ≤ after
  pub high : after ≤ before + (first_spent old.coming).cost

-- what is to come stays, but for what is spent before it
pub record Refused (old new : Rest) (done_before done_after : Bool) (room room_after : List ℕ)
    (before after : ℕ) : Type 0 where
  pub has_room : 0 < length room
  pub unchanged : room_after ≡ room
  pub spent : Spent
  pub same : old.coming ≡ spent_first spent new.coming
  pub begun : new.begun ≡ []
  pub done : done_after ≡ done_before
  pub low : before ≤ after
  pub high : after ≤ before + (first_spent old.coming).cost

-- a room without bytes, or a rendering that is done
pub record Idle (old new : Rest) (done_before done_after : Bool) (room room_after : List ℕ)
    (before after n : ℕ) : Type 0 where
  pub why : (length room ≡ 0) ⊎ (done_before ≡ true)
  pub none : n ≡ 0
  pub unchanged : room_after ≡ room
  pub rest : new ≡ old
  pub done : done_after ≡ done_before
  pub cost : after ≡ before

-- where no piece has begun
abbrev pub Fresh : Rest → Rest → Bool → Bool → List ℕ → List ℕ → ℕ → ℕ → Result ℕ (Refusal TooDeep) → Type 0
Fresh old new done_before done_after room room_after before after (Ok n) =
    Idle old new done_before done_after room room_after before after n
    ⊎ Next old new done_before done_after room room_after before after n
    ⊎ AtEnd old new done_before done_after room room_after before after n
Fresh old new done_before done_after room room_after before after (Err (refusal.Because call)) =
    Refused old new done_before done_after room room_after before after × (pieces_of_outcome old.coming ≡ [])
    × (end_of_outcome old.coming ≡ stops_at call)
Fresh old new done_before done_after room room_after before after (Err refusal.OutOfMemory) =
    Refused old new done_before done_after room room_after before after × (done_before ≡ false)

-- where a piece has begun
abbrev pub Begun : Rest → Rest → Bool → Bool → List ℕ → List ℕ → ℕ → ℕ → Result ℕ (Refusal TooDeep) → Type 0
Begun old new done_before done_after room room_after before after (Ok n) =
    Gave old.begun new.begun room room_after n × (new.coming ≡ old.coming) × (done_after ≡ done_before)
    × (after ≡ before)
Begun old new done_before done_after room room_after before after (Err refused) = ⊥

abbrev pub Pulls : List ℕ → Rest → Rest → Bool → Bool → List ℕ → List ℕ → ℕ → ℕ → Result ℕ (Refusal TooDeep) → Type 0
Pulls [] = Fresh
Pulls _ = Begun
