-- The first bytes of those that are left are given to the beginning of a room, so many of them: what stands in the room
-- behind them stays, and the others are left.
--
-- Of `abc`, with two given to a room `123`, the room is `ab3` and `c` is left.
use Rattle.std.specs.Prelude.{◌≡◌, ℕ, ◌≤◌, List, ◌++◌, length, take, drop}

pub record Gives (left left_after room room_after : List ℕ) (count : ℕ) : Type 0 where
  pub within : count ≤ length room
  pub size : length room_after ≡ length room
  pub given : take count room_after ++ left_after ≡ left
  pub behind : drop count room_after ≡ drop count room
